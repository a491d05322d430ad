use Rattle.std.proofs.Common.{◌≡◌, sym, ◌∙◌, ap}
use Rattle.std.specs.Option.{unwrap_or}
use Rattle.rational.specs.Rational.{ℚ, zero_ℚ, ◌+ℚ◌}
use Rattle.rational.specs.Worked.{settle}
use Rattle.rational.proofs.Settling.{settle-done}
use Rattle.exact_frac.proofs.Working.{settles-exact}
use Rattle.exact_frac.specs.Constants.{ratio-zero}
use Rattle.cert_check.specs.Sums.{plus}
use Rattle.cert_check.proofs.Contributions.{plus-none, plus-worked}
use Rattle.cert_check.proofs.Values.{settles-like}
use Rattle.cert_check.proofs.parts.plus.Goals as goal

pub returns-then-is_zero-clause-settled : goal.returns-then-is_zero-clause-settled
returns-then-is_zero-clause-settled g c =
    let is : c.unwrap_or-part.result ≡ unwrap_or c.args.part zero_ℚ = c.unwrap_or-part.ensures ∙ ap (λ (z : ℚ). unwrap_or c.args.part z) ratio-zero in
    ap (λ p. settle (g.A.Arith.width c.args.arith.now) (plus c.args.sum p)) (sym is)
    ∙ ap (settle (g.A.Arith.width c.args.arith.now)) (plus-none c.args.sum c.unwrap_or-part.result c.is_zero.result c.is_zero.ensures c.if-is_zero.true)
    ∙ settle-done _ c.args.sum

pub returns-clause-settled : goal.returns-clause-settled
returns-clause-settled g c =
    let is : c.unwrap_or-part.result ≡ unwrap_or c.args.part zero_ℚ = c.unwrap_or-part.ensures ∙ ap (λ (z : ℚ). unwrap_or c.args.part z) ratio-zero in
    settles-like _ _ _ c.add.result (plus-worked c.args.sum c.unwrap_or-part.result c.is_zero.result c.is_zero.ensures c.if-is_zero.false ∙ ap (plus c.args.sum) is)
    (settles-exact _ (c.args.sum +ℚ c.unwrap_or-part.result) c.add.result c.add.ensures.answer)

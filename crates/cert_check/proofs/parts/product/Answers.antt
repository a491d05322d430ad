use Rattle.std.proofs.Common.{Some, sym, ◌∙◌, ap}
use Rattle.rational.specs.Rational.{zero_ℚ, ◌*ℚ◌}
use Rattle.rational.specs.Worked.{settle}
use Rattle.rational.proofs.Settling.{settle-done}
use Rattle.exact_frac.proofs.Working.{settles-exact}
use Rattle.exact_frac.specs.Constants.{ratio-zero}
use Rattle.cert_check.proofs.Contributions.{product-none, product-worked}
use Rattle.cert_check.proofs.Values.{settles-like}
use Rattle.cert_check.proofs.parts.product.Goals as goal

pub returns-then-is_skipped-clause-settled : goal.returns-then-is_skipped-clause-settled
returns-then-is_skipped-clause-settled g c =
    ap (settle (g.A.Arith.width c.args.arith.now)) (product-none c.args.a c.args.b c.is_skipped.result c.is_skipped.ensures c.if-is_skipped.true)
    ∙ settle-done _ zero_ℚ ∙ ap Some (sym ratio-zero)

pub returns-clause-settled : goal.returns-clause-settled
returns-clause-settled g c =
    settles-like _ _ _ c.mul.result (product-worked c.args.a c.args.b c.is_skipped.result c.is_skipped.ensures c.if-is_skipped.false)
    (settles-exact _ (c.args.a *ℚ c.args.b) c.mul.result c.mul.ensures.answer)

use Rattle.std.proofs.Common.{◌≡◌, ◌∙◌, true, false}
use Rattle.rational.specs.Rational.{eq_ℚ}
use Rattle.deck_tools.proofs.Numbers.{eq_read}
use Rattle.deck_tools.proofs.Pages.{Makes-then}
use Rattle.deck_tools.proofs.write.put_finite.Goals as goal

pub returns-then-eq : goal.returns-then-eq
returns-then-eq c =
    let same : eq_ℚ c.args.least c.args.most ≡ true = eq_read c.args.least c.args.most c.eq.result c.eq.ensures ∙ c.if-eq.true in
    rw same c.put_bound.ensures

pub returns : goal.returns
returns c =
    let other : eq_ℚ c.args.least c.args.most ≡ false = eq_read c.args.least c.args.most c.eq.result c.eq.ensures ∙ c.if-eq.false in
    rw other (Makes-then {r = c.put_upper.result} c.in_ok-put_lower.ensures c.put_upper.ensures)

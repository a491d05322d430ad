use Rattle.std.proofs.Common.{◌∙◌, ap, sym}
use Rattle.rational.specs.Rational.{whole, ◌*ℚ◌}
use Rattle.exact_frac.specs.Constants.{ratio-zero}
use Rattle.exact_frac.specs.Parts.{signed}
use Rattle.exact_frac.proofs.Products.{by_zero, by_one, by_minus_one}
use Rattle.exact_frac.proofs.fraction.Frac.by_unit.Goals as goal

pub returns-then-unit-eq0 : goal.returns-then-unit-eq0
returns-then-unit-eq0 c = ratio-zero ∙ by_zero c.args.self c.args.unit.negative c.args.unit.size c.if-unit-eq0.true

pub returns-then-unit : goal.returns-then-unit
returns-then-unit c =
    c.negated.ensures ∙ by_minus_one c.args.self c.args.unit.size c.requires c.if-unit-eq0.false
    ∙ ap (λ b. c.args.self *ℚ whole (signed b c.args.unit.size)) (sym c.if-unit.true)

pub returns-else-unit : goal.returns-else-unit
returns-else-unit c =
    by_one c.args.self c.args.unit.size c.requires c.if-unit-eq0.false
    ∙ ap (λ b. c.args.self *ℚ whole (signed b c.args.unit.size)) (sym c.if-unit.false)

use Rattle.std.proofs.Common.{◌∙◌, ap, sym, subst}
use Rattle.rational.specs.Rational.{◌*ℚ◌}
use Rattle.exact_frac.specs.Exact.{Exact}
use Rattle.exact_frac.proofs.Products.{unit_is, exact_turned, product_lowest, product_is, product_unfit}
use Rattle.exact_frac.proofs.Whole.{wholes_multiplied}
use Rattle.exact_frac.proofs.fraction.Frac.times.Goals as goal

pub returns-then-other-eq1 : goal.returns-then-other-eq1
returns-then-other-eq1 c =
    subst (λ v. Exact 127 v c.whole_product.result)
    (wholes_multiplied _ _ _ _ _ _ c.self.invariant c.other.invariant c.if-self-eq1.true c.if-other-eq1.true c.self.view_is c.other.view_is)
    c.whole_product.ensures

pub returns-then-is_unit : goal.returns-then-is_unit
returns-then-is_unit c =
    let unit = c.is_unit.ensures.0 c.if-is_unit.true in
    exact_turned c.args.self c.args.other _ 127 _ (c.by_unit.ensures ∙ ap (λ z. c.args.other *ℚ z) (sym (unit_is _ _ _ _ c.parts-a.ensures.splits unit.0))) c.in_full.ensures

pub returns-then-is_unit-2 : goal.returns-then-is_unit-2
returns-then-is_unit-2 c =
    let unit = c.is_unit-2.ensures.0 c.if-is_unit-2.true in
    subst (λ v. Exact 127 v c.in_full-then-is_unit-2.result)
    (c.by_unit-then-is_unit-2.ensures ∙ ap (λ z. c.args.self *ℚ z) (sym (unit_is _ _ _ _ c.parts-b.ensures.splits unit.0)))
    c.in_full-then-is_unit-2.ensures

pub from_parts-requires : goal.from_parts-requires
from_parts-requires c =
    product_lowest _ _ _ _ _ _ _ _ c.parts-a.ensures.splits c.parts-b.ensures.splits _ _ c.in-Some.ensures

pub returns-in-Some : goal.returns-in-Some
returns-in-Some c =
    product_is _ _ _ _ _ _ _ _ c.parts-a.ensures.splits c.parts-b.ensures.splits _ _ c.in-Some.ensures _ c.from_parts.ensures

pub returns-in-None : goal.returns-in-None
returns-in-None c = product_unfit _ _ _ _ _ _ _ _ c.parts-a.ensures.splits c.parts-b.ensures.splits c.in-None.ensures

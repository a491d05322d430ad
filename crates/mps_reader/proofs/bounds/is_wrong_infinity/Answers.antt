use Rattle.std.specs.Prelude.{◌||◌}
use Rattle.std.proofs.Common.{◌∙◌, ap, sym}
use Rattle.mps_model.specs.BoundCards.{is_plus_infinity}
use Rattle.mps_reader.proofs.BoundEnds.{minus_infinity, plus_infinity}
use Rattle.mps_reader.proofs.bounds.is_wrong_infinity.Goals as goal

pub returns-in-Upper : goal.returns-in-Upper
returns-in-Upper c = rw c.in-Upper.is (minus_infinity c.args.value c.infinity.result c.negated.result c.le.result c.infinity.ensures c.negated.ensures c.le.ensures)

pub returns-in-Lower : goal.returns-in-Lower
returns-in-Lower c = rw c.in-Lower.is (plus_infinity c.args.value c.infinity-in-Lower.result c.le-in-Lower.result c.infinity-in-Lower.ensures c.le-in-Lower.ensures)

pub returns-then-le : goal.returns-then-le
returns-then-le c =
    let minus = minus_infinity c.args.value c.infinity-in-Fixed.result c.negated-in-Fixed.result c.le-in-Fixed.result c.infinity-in-Fixed.ensures c.negated-in-Fixed.ensures c.le-in-Fixed.ensures in
    rw c.in-Fixed.is (c.if-le.true ∙ ap (λ b. b || is_plus_infinity c.args.value) (sym c.if-le.true ∙ minus))

pub returns-else-le : goal.returns-else-le
returns-else-le c =
    let minus = minus_infinity c.args.value c.infinity-in-Fixed.result c.negated-in-Fixed.result c.le-in-Fixed.result c.infinity-in-Fixed.ensures c.negated-in-Fixed.ensures c.le-in-Fixed.ensures in
    let plus = plus_infinity c.args.value c.infinity-else-le.result c.le-else-le.result c.infinity-else-le.ensures c.le-else-le.ensures in
    rw c.in-Fixed.is (plus ∙ ap (λ b. b || is_plus_infinity c.args.value) (sym c.if-le.false ∙ minus))

use Rattle.exact_frac.proofs.Whole.{small_by_tests, small_product}
use Rattle.exact_frac.proofs.fraction.whole.product.Goals as goal

pub returns-then-b-le-MOST : goal.returns-then-b-le-MOST
returns-then-b-le-MOST c =
    small_product c.args.a c.args.b c.ranges.a c.ranges.b
    (small_by_tests c.args.a c.ranges.a c.if-a-ge-LEAST.true c.if-a-le-MOST.true)
    (small_by_tests c.args.b c.ranges.b c.if-b-ge-LEAST.true c.if-b-le-MOST.true)

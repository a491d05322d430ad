use Rattle.std.proofs.Common.{arith}
use Rattle.exact_frac.proofs.Bits.{product_narrow, product_fits}
use Rattle.exact_frac.proofs.magnitude.product.Goals as goal

pub returns-then-a-b-lt128 : goal.returns-then-a-b-lt128
returns-then-a-b-lt128 c = product_narrow c.args.a c.args.b c.ranges.a.fits c.ranges.b.fits (omega arith)

pub overflow_mul-a-2 : goal.overflow_mul-a-2
overflow_mul-a-2 c = record { fits = product_fits c.args.a c.args.b c.ranges.a.fits c.ranges.b.fits (omega arith) }

-- Both counts are at most the size.
use Rattle.std.proofs.Common.{arith}
use Rattle.bench_parts.proofs.Places.{cost_fits}
use Rattle.bench_parts.proofs.links.scan.cost.Goals as goal

pub overflow_mul-result : goal.overflow_mul-result
overflow_mul-result c =
    omega (arith, cost_fits c.args.cross.now c.entry-r.result.0 c.entry-r.result.1 c.row_count.result c.col_count.result c.requires.matrix c.row_count.ensures.count c.col_count.ensures.count)

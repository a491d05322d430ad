use Rattle.std.specs.Prelude.{true, false}
use Rattle.mps_reader.proofs.BoundEnds.{above_minus}
use Rattle.mps_reader.proofs.bounds.above_infinity.Goals as goal

pub returns-then-le : goal.returns-then-le
returns-then-le c = above_minus c.args.value c.infinity.result c.negated.result true c.infinity.ensures c.negated.ensures c.if-le.ensures

pub returns-else-le : goal.returns-else-le
returns-else-le c = above_minus c.args.value c.infinity.result c.negated.result false c.infinity.ensures c.negated.ensures c.if-le.ensures

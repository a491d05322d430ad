use Rattle.std.specs.Prelude.{true, false}
use Rattle.mps_reader.proofs.BoundEnds.{below_plus}
use Rattle.mps_reader.proofs.bounds.below_infinity.Goals as goal

pub returns-then-le : goal.returns-then-le
returns-then-le c = below_plus c.args.value c.infinity.result true c.infinity.ensures c.if-le.ensures

pub returns-else-le : goal.returns-else-le
returns-else-le c = below_plus c.args.value c.infinity.result false c.infinity.ensures c.if-le.ensures

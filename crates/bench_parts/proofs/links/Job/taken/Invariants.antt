-- The matrix keeps its size, and each round takes one pivot.
use Rattle.std.proofs.Common.{◌≡◌, ◌≤◌}
use Rattle.cross_links.specs.Matrix.{IsMatrix}
use Rattle.bench_parts.proofs.links.Job.taken.Given as goal

abbrev pub invariant-loop : goal.invariant-loop
invariant-loop l = record {
  size : l.cross.size ≡ l.size;
  matrix : IsMatrix l.cross;
  pivots : l.pivots ≤ l.counter;
}

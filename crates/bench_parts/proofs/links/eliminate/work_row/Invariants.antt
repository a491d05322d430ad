-- No line is removed.
use Rattle.std.proofs.Common.{◌≡◌}
use Rattle.cross_links.specs.Matrix.{IsMatrix}
use Rattle.bench_parts.proofs.links.eliminate.work_row.Given as goal

abbrev pub invariant-loop-j : goal.invariant-loop-j
invariant-loop-j l = record {
  size : l.cross.size ≡ l.fn.cross.size;
  active_rows : l.cross.active_rows ≡ l.fn.cross.active_rows;
  active_cols : l.cross.active_cols ≡ l.fn.cross.active_cols;
  matrix : IsMatrix l.cross;
}

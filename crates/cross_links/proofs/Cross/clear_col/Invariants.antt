-- What is left to take out leaves the same matrix.
use Rattle.std.proofs.Common.{◌≡◌, length}
use Rattle.cross_links.specs.Matrix.{col, without_entries}
use Rattle.cross_links.proofs.Cross.clear_col.Given as goal

abbrev pub invariant-entries : goal.invariant-entries
invariant-entries g l = record {
  size : l.self.size ≡ l.fn.self.size;
  active_rows : l.self.active_rows ≡ l.fn.self.active_rows;
  active_cols : l.self.active_cols ≡ l.fn.self.active_cols;
  same : without_entries (col l.self l.c) l.self ≡ without_entries (col l.fn.self l.c) l.fn.self;
}

abbrev pub decreases-entries : goal.decreases-entries
decreases-entries g l = length (col l.self l.c)

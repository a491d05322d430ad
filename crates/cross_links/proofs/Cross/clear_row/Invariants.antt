-- What is left to take out leaves the same matrix.
use Rattle.std.proofs.Common.{◌≡◌, length}
use Rattle.cross_links.specs.Matrix.{row, without_entries}
use Rattle.cross_links.proofs.Cross.clear_row.Given as goal

abbrev pub invariant-entries : goal.invariant-entries
invariant-entries g l = record {
  size : l.self.size ≡ l.fn.self.size;
  active_rows : l.self.active_rows ≡ l.fn.self.active_rows;
  active_cols : l.self.active_cols ≡ l.fn.self.active_cols;
  same : without_entries (row l.self l.r) l.self ≡ without_entries (row l.fn.self l.r) l.fn.self;
}

abbrev pub decreases-entries : goal.decreases-entries
decreases-entries g l = length (row l.self l.r)

-- The entry found so far is as good as each in a row or a column of fewer entries than `count`.
use Rattle.std.proofs.Common.{ℕ, ◌<◌, ◌⊎◌, length}
use Rattle.cross_links.specs.Matrix.{row, col, row_of, col_of, IsLink}
use Rattle.cross_links.specs.Sides.{IsLinkIfSome, Covers}
use Rattle.cross_links.specs.Held.{matrix_of}
use Rattle.cross_links.proofs.pivot.best_by_count.Given as goal

abbrev pub invariant-loop-count : goal.invariant-loop-count
invariant-loop-count l = record {
  link : IsLinkIfSome (matrix_of l.table) l.best;
  covers : (k : ℕ) → IsLink (matrix_of l.table) k → (length (row (matrix_of l.table) (row_of (matrix_of l.table) k)) < l.count)
      ⊎ (length (col (matrix_of l.table) (col_of (matrix_of l.table) k)) < l.count) → Covers (matrix_of l.table) l.best k;
}

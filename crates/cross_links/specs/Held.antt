-- What the table stands for.
use Rattle.std.specs.Prelude.{◌≡◌, ◌≤◌, ◌<◌, ◌^◌, ℕ, length, None}
use Rattle.std.specs.List.{Contains}
use Rattle.count_chain.specs.Chains.{list_at, IsChained}
use Rattle.cross_links.specs.declared.table.Table.{Table}
use Rattle.cross_links.specs.Matrix.{Matrix, at_link, IsMatrix}
use Rattle.cross_links.specs.declared.cheap.Cheap.{Cheap}
use Rattle.cross_links.specs.Sides.{IsKept}
use Rattle.cross_links.specs.Cheap.{IsCheap}

-- the matrix of the table
abbrev pub matrix_of : Table → Matrix
matrix_of t = record { size = t.size; entries = t.entries.items; rows = t.rows.lines.lists; cols = t.cols.lines.lists; active_rows = t.rows.active.items; active_cols = t.cols.active.items }

-- the table is a matrix, and its free links are those at which no entry stands
pub record IsHeld (t : Table) : Type 0 where
  pub matrix : IsMatrix (matrix_of t)
  pub rows : IsKept t.rows
  pub cols : IsKept t.cols
  pub row_links : t.rows.lines.items ≡ length t.entries.items
  pub col_links : t.cols.lines.items ≡ length t.entries.items
  pub fits : length t.entries.items ≤ 2 ^ 32
  pub free_links : t.free.items ≡ length t.entries.items
  pub free_list : length t.free.lists ≡ 1
  pub free_chained : IsChained t.free
  pub free_held : (l : ℕ) → l < length t.entries.items → at_link t.entries.items l ≡ None → Contains (list_at t.free 0) l
  pub free_only : (l k : ℕ) → Contains (list_at t.free k) l → at_link t.entries.items l ≡ None

-- and its entries of cost 0 are known
pub record IsReady (t : Table) (h : Cheap) : Type 0 where
  pub held : IsHeld t
  pub cheap : IsCheap (matrix_of t) h

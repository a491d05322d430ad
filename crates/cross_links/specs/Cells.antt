-- The values of a matrix by row and column.
use Rattle.std.specs.Prelude.{◌≡◌, ◌≢◌, ℕ, Some, unwrap_or}
use Rattle.rational.specs.Rational.{ℚ, zero_ℚ}
use Rattle.sparse_cols.specs.Sparse.{value_at}
use Rattle.cross_links.specs.Matrix.{Entry, Matrix, entry_at, col_pairs}

-- the value in row i and column p; 0 where there is no entry
abbrev pub cell : Matrix → ℕ → ℕ → ℚ
cell a i p = unwrap_or (value_at (col_pairs a p) i) zero_ℚ

-- no entry is 0
abbrev pub HasNoZero : Matrix → Type 0
HasNoZero a = (l : ℕ) (e : Entry) → entry_at a l ≡ Some e → e.2 ≢ zero_ℚ

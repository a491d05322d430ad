-- A matrix as the list of its columns.
use Rattle.std.specs.Prelude.{◌≢◌, ℕ, List}
use Rattle.std.specs.List.{All}
use Rattle.rational.specs.Rational.{ℚ, zero_ℚ}
use Rattle.sparse_cols.specs.Sparse.{Sparse}
use Rattle.factor_model.specs.Vectors.{entry}
use Rattle.factor_model.specs.Edits.{column_in}

-- the entry in row i of the column of position p
abbrev pub matrix_of : List (Sparse ℚ) → ℕ → ℕ → ℚ
matrix_of columns i p = entry (column_in columns p).pairs i

-- a column stores no 0
abbrev pub HasNoZero : Sparse ℚ → Type 0
HasNoZero column = All (λ pair. pair.1 ≢ zero_ℚ) column.pairs

-- How a triangular form is changed: a row is cleared, and a column is replaced and comes to the end of the order.
use Rattle.std.specs.Prelude.{◌≡◌, ◌≢◌, ℕ, ◌<◌, List, [], ◌∷◌, ◌++◌, ◌==◌, not, map, length, slice_index_or, slice_set, if◌then◌else◌}
use Rattle.std.specs.List.{filter}
use Rattle.rational.specs.Rational.{ℚ, zero_ℚ}
use Rattle.rational.specs.Sparse.{upto}
use Rattle.sparse_cols.specs.Sparse.{Sparse, without_row}
use Rattle.factor_model.specs.Upper.{Triangle, row_of, cell}

-- the column of a position
abbrev pub column_in : List (Sparse ℚ) → ℕ → Sparse ℚ
column_in columns q = slice_index_or columns q (record { length = 0; pairs = [] })

abbrev pub column_at : Triangle → ℕ → Sparse ℚ
column_at u q = column_in u.columns q

-- a position's column without row r; position p keeps its own
abbrev pub cleared_column : List (Sparse ℚ) → ℕ → ℕ → ℕ → Sparse ℚ
cleared_column columns p r q = if q == p then column_in columns q else without_row (column_in columns q) r

abbrev pub cleared_columns : List (Sparse ℚ) → ℕ → ℕ → List (Sparse ℚ)
cleared_columns columns p r = map (cleared_column columns p r) (upto (length columns))

-- the form without the entries of p's row in other columns than p's
abbrev pub clear_row : Triangle → ℕ → Triangle
clear_row u p = record u { columns = cleared_columns u.columns p (row_of u p) }

-- p's row has no entry in another column than p's
abbrev pub StandsAlone : Triangle → ℕ → Type 0
StandsAlone u p = (q : ℕ) → q < length u.rows → q ≢ p → cell u (row_of u p) q ≡ zero_ℚ

-- the order with p behind all others
abbrev pub moved_to_end : List ℕ → ℕ → List ℕ
moved_to_end order p = filter (λ q. not (q == p)) order ++ p ∷ []

-- the form with another column in position p, which comes to the end of the order
abbrev pub replace_column : Triangle → ℕ → Sparse ℚ → Triangle
replace_column u p c = record u { columns = slice_set u.columns p c; order = moved_to_end u.order p }

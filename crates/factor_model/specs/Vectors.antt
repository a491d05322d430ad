-- Entries of a sparse column, products of vectors, and vectors as sparse columns.
use Rattle.std.specs.Prelude.{ℕ, ◌+◌, ◌==◌, List, [], ◌∷◌, ◌++◌, map, length, Option, Some, None, if◌then◌else◌}
use Rattle.rational.specs.Rational.{ℚ, zero_ℚ, one_ℚ, ◌*ℚ◌, eq_ℚ}
use Rattle.rational.specs.Sparse.{at_index, upto}
use Rattle.rational.specs.Sum.{at, sum_ℚ}
use Rattle.sparse_cols.specs.Sparse.{Sparse, value_at}

-- a number, or 0 where there is none
abbrev pub or_zero : Option ℚ → ℚ
or_zero None = zero_ℚ
or_zero (Some a) = a

-- the entry in row i of a column, which is 0 where nothing is stored
abbrev pub entry : List (ℕ × ℚ) → ℕ → ℚ
entry column i = or_zero (value_at column i)

-- the same, save that the entry in one row counts as 0
abbrev pub other_entry : ℕ → List (ℕ × ℚ) → ℕ → ℚ
other_entry skip column i = if i == skip then zero_ℚ else entry column i

-- the product of a vector and a row or column of n items
abbrev pub product : ℕ → (ℕ → ℚ) → List ℚ → ℚ
product n y v = sum_ℚ n (λ i. y i *ℚ at v i)

-- the vector of a function's first n numbers
abbrev pub vector : ℕ → (ℕ → ℚ) → List ℚ
vector n f = map f (upto n)

-- column p of a matrix of n rows
abbrev pub matrix_column : ℕ → (ℕ → ℕ → ℚ) → ℕ → List ℚ
matrix_column n b p = vector n (λ i. b i p)

-- the vector of n items that is 1 in row r and else 0
abbrev pub unit_vector : ℕ → ℕ → List ℚ
unit_vector n r = vector n (λ i. at_index i r one_ℚ)

-- the pair of a row and a number, where that is not 0
abbrev pub stored_pair : ℕ → ℚ → List (ℕ × ℚ)
stored_pair i x = if eq_ℚ x zero_ℚ then [] else (i, x) ∷ []

-- the items of a vector that are not 0, with their rows, the first of which is i
abbrev pub stored_from : ℕ → List ℚ → List (ℕ × ℚ)
stored_from i [] = []
stored_from i (x ∷ v) = stored_pair i x ++ stored_from (i + 1) v

-- a vector as a sparse column, which stores no 0
abbrev pub sparse : List ℚ → Sparse ℚ
sparse v = record { length = length v; pairs = stored_from 0 v }

-- Work rows: a value or none at each row.
use Rattle.std.specs.Prelude.{◌≡◌, ◌≢◌, ℕ, ◌+◌, ◌≤◌, ◌<◌, List, [], ◌∷◌, Option, Some, None, is_some, count_by, length, slice_index_or}
use Rattle.std.specs.List.{All}
use Rattle.sparse_cols.specs.Sparse.{Sparse}

module _ {V : Type 0} where
  -- the value at row i
  abbrev pub value_in : List (Option V) → ℕ → Option V
  value_in row i = slice_index_or row i None

  -- the first value, or else the second
  abbrev pub or_else : Option V → Option V → Option V
  or_else None other = other
  or_else (Some v) other = Some v

  -- the pairs of a row whose first place is row i
  abbrev pub gathered_from : ℕ → List (Option V) → List (ℕ × V)
  gathered_from i [] = []
  gathered_from i (None ∷ row) = gathered_from (i + 1) row
  gathered_from i (Some v ∷ row) = (i, v) ∷ gathered_from (i + 1) row

  -- the column of a row
  abbrev pub gathered : List (Option V) → Sparse V
  gathered row = record { length = length row; pairs = gathered_from 0 row }

  -- a row outside the list has no value, the list has each row once, and there is room for all rows
  pub record IsFilledAt (row : List (Option V)) (filled : List ℕ) (room : ℕ) : Type 0 where
    pub in_range : All (λ i. i < length row) filled
    pub empty_elsewhere : (i : ℕ) → All (λ j. j ≢ i) filled → value_in row i ≡ None
    pub counted : count_by is_some row ≡ length filled
    pub has_room : length row ≤ room

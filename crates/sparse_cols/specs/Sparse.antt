-- Sparse columns: how many rows there are, and the pairs of row and value, in rising rows.
use Rattle.std.specs.Prelude.{◌≡◌, ℕ, ◌+◌, ◌≤◌, ◌<◌, List, [], ◌∷◌, Option, Some, None, ◌==◌, nat_lt, if◌then◌else◌, length, slice_index_or}

-- how many rows there are, and the stored pairs of row and value
pub record Sparse (V : Type 0) : Type 0 where
  pub length : ℕ
  pub pairs : List (ℕ × V)

module _ {V : Type 0} where
  -- the rows rise strictly, from `from` on, and stay below len
  abbrev pub IsRising : ℕ → ℕ → List (ℕ × V) → Type 0
  IsRising len from [] = Unit {0}
  IsRising len from ((k, v) ∷ pairs) = (from ≤ k) × (k < len) × IsRising len (k + 1) pairs

  -- the value at row i
  abbrev pub value_at : List (ℕ × V) → ℕ → Option V
  value_at [] i = None
  value_at ((k, v) ∷ pairs) i = if k == i then Some v else value_at pairs i

  -- the pairs with one more, before the first of a greater row
  abbrev pub insert_pair : ℕ → V → List (ℕ × V) → List (ℕ × V)
  insert_pair i v [] = (i, v) ∷ []
  insert_pair i v ((k, u) ∷ pairs) = if nat_lt i k then (i, v) ∷ (k, u) ∷ pairs else (k, u) ∷ insert_pair i v pairs

  -- the column with a pair more
  abbrev pub with_pair : Sparse V → ℕ → V → Sparse V
  with_pair c i v = record c { pairs = insert_pair i v c.pairs }

  -- the pairs with that of row i taken out
  abbrev pub remove_row : ℕ → List (ℕ × V) → List (ℕ × V)
  remove_row i [] = []
  remove_row i ((k, u) ∷ pairs) = if k == i then pairs else (k, u) ∷ remove_row i pairs

  -- the column with row i cleared
  abbrev pub without_row : Sparse V → ℕ → Sparse V
  without_row c i = record c { pairs = remove_row i c.pairs }

  -- the pair at place k has row i
  pub record IsAt (pairs : List (ℕ × V)) (i k : ℕ) : Type 0 where
    pub in_range : k < length pairs
    pub has_row : (d : ℕ × V) → (slice_index_or pairs k d).0 ≡ i

  -- row i would stand at place k: lower rows before it, and higher ones from it on
  pub record IsGapFor (pairs : List (ℕ × V)) (i k : ℕ) : Type 0 where
    pub in_range : k ≤ length pairs
    pub lower_before : (j : ℕ) (d : ℕ × V) → j < k → (slice_index_or pairs j d).0 < i
    pub higher_after : (j : ℕ) (d : ℕ × V) → k ≤ j → j < length pairs → i < (slice_index_or pairs j d).0

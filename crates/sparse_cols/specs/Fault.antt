-- What is at fault with a list of pairs of row and value: a row out of range, or one that stands twice.
use Rattle.std.specs.Prelude.{◌≡◌, ℕ, ◌≤◌, ◌<◌, List, [], ◌∷◌, Option, Some, None, ◌==◌, nat_lt, if◌then◌else◌, count_by}
use Rattle.sparse_cols.specs.declared.fault.SparseFault.{SparseFault}
use Rattle.sparse_cols.specs.declared.fault.SparseFault.TheVariants.{Memory, Range, Repeated}

module _ {V : Type 0} where
  -- the first row in the list that is not below len
  abbrev pub first_beyond : ℕ → List (ℕ × V) → Option ℕ
  first_beyond len [] = None
  first_beyond len ((k, v) ∷ pairs) = if nat_lt k len then first_beyond len pairs else Some k

  -- the first row that two neighbours share
  abbrev pub first_repeated : List (ℕ × V) → Option ℕ
  first_repeated [] = None
  first_repeated (p ∷ []) = None
  first_repeated (p ∷ (q ∷ pairs)) = if p.0 == q.0 then Some p.0 else first_repeated (q ∷ pairs)

  -- how often row i stands in the list
  abbrev pub row_count : ℕ → List (ℕ × V) → ℕ
  row_count i pairs = count_by (λ pair. pair.0 == i) pairs

  -- row i stands twice, and no lower row does
  pub record IsLeastRepeated (pairs : List (ℕ × V)) (i : ℕ) : Type 0 where
    pub twice : 2 ≤ row_count i pairs
    pub least : (j : ℕ) → j < i → row_count j pairs ≤ 1

  -- a refusal for a row has that row, and a row that stands twice is named where all rows are in range; no refusal
  -- is for want of memory
  abbrev pub IsFault : ℕ → List (ℕ × V) → SparseFault → Type 0
  IsFault len pairs Memory = ⊥
  IsFault len pairs (Range i) = first_beyond len pairs ≡ Some i
  IsFault len pairs (Repeated i) = (first_beyond len pairs ≡ None) × IsLeastRepeated pairs i

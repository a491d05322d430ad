-- Sparse lists of fractions: pairs of index and number, by rising index, none of the numbers 0. And the indices that they run over.
use Rattle.std.specs.Prelude.{◌≢◌, ℕ, ◌+◌, ◌<◌, ◌≤◌, List, [], ◌∷◌, ◌==◌, if◌then◌else◌}
use Rattle.std.specs.List.{range_with_len}
use Rattle.rational.specs.Rational.{ℚ, zero_ℚ}

-- pairs of strictly rising index below m, from an index up, none of whose numbers is 0
abbrev pub IsSparse : ℕ → ℕ → List (ℕ × ℚ) → Type 0
IsSparse m from [] = Unit {0}
IsSparse m from ((k, v) ∷ pairs) = (from ≤ k) × (k < m) × (v ≢ zero_ℚ) × IsSparse m (k + 1) pairs

-- the entry at an index; 0 where there is none
abbrev pub entry_at : List (ℕ × ℚ) → ℕ → ℚ
entry_at [] i = zero_ℚ
entry_at ((k, v) ∷ pairs) i = if k == i then v else entry_at pairs i

-- v where the two indices agree, else 0: the entry of a unit vector, v times
abbrev pub at_index : ℕ → ℕ → ℚ → ℚ
at_index i k v = if i == k then v else zero_ℚ

-- 0 to n - 1
abbrev pub upto : ℕ → List ℕ
upto n = range_with_len 0 n

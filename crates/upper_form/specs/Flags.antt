-- Rows that are flagged.
use Rattle.std.specs.Prelude.{ℕ, Bool, false, ◌||◌, List, [], ◌∷◌, slice_index_or}
use Rattle.rational.specs.Rational.{ℚ}

-- whether a row is flagged
abbrev pub is_flagged : List Bool → ℕ → Bool
is_flagged flags i = slice_index_or flags i false

-- whether a column has an entry in a flagged row
abbrev pub meets : List Bool → List (ℕ × ℚ) → Bool
meets flags [] = false
meets flags ((i, x) ∷ pairs) = is_flagged flags i || meets flags pairs

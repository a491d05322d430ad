-- Numbers with their rows.
use Rattle.std.specs.Prelude.{ℕ, List, [], ◌∷◌, slice_set}
use Rattle.rational.specs.Rational.{ℚ}

-- a vector with each number in its row
abbrev pub placed : List ℚ → List (ℕ × ℚ) → List ℚ
placed v [] = v
placed v ((i, k) ∷ ks) = placed (slice_set v i k) ks

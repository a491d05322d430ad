-- Inner: a vector with each entry of a column in its row.
use Rattle.std.specs.Prelude.{ℕ, List, [], ◌∷◌, slice_set}
use Rattle.rational.specs.Rational.{ℚ}

abbrev pub spread : List ℚ → List (ℕ × ℚ) → List ℚ
spread v [] = v
spread v ((i, x) ∷ pairs) = spread (slice_set v i x) pairs

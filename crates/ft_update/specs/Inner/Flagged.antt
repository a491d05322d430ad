-- Numbers whose rows are flagged.
use Rattle.std.specs.Prelude.{◌≡◌, ℕ, Bool, true, List, [], ◌∷◌}
use Rattle.rational.specs.Rational.{ℚ}
use Rattle.upper_form.specs.Flags.{is_flagged}

-- the row of each number is flagged
abbrev pub AreFlagged : List Bool → List (ℕ × ℚ) → Type 0
AreFlagged flags [] = Unit {0}
AreFlagged flags ((i, k) ∷ ks) = (is_flagged flags i ≡ true) × AreFlagged flags ks

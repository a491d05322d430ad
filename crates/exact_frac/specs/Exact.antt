-- What an operation of an arithmetic answers.
use Rattle.std.specs.Prelude.{◌≡◌, ℕ, Result, MatchResult}
use Rattle.rational.specs.Rational.{ℚ}
use Rattle.rational.specs.Width.{FitsWidth}
use Rattle.exact_frac.specs.declared.unfit.Unfit.{Unfit}

-- the exact value, where it fits the width, and `Unfit` exactly where it does not
abbrev pub Exact : ℕ → ℚ → Result ℚ Unfit → Type 0
Exact width value result = MatchResult result (λ answer. (answer ≡ value) × FitsWidth width value) (λ _. ¬ FitsWidth width value)

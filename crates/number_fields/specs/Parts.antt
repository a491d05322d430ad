-- The parts of a value: a whole number, and a fraction below 1.
use Rattle.std.specs.Prelude.{◌≡◌, ℕ, ◌*◌, ◌^◌, ◌<◌, ◌≤◌, Option, MatchOption, true, false}
use Rattle.rational.specs.Gcd.{IsCoprime}
use Rattle.rational.specs.Rational.{ℚ}
use Rattle.rational.specs.Width.{fits_width}

-- the number, exactly where it is below 2^127
abbrev pub Below : ℕ → Option ℕ → Type 0
Below n result = MatchOption result (2 ^ 127 ≤ n) (λ r. (r ≡ n) × (r < 2 ^ 127))

-- a fraction from 0 to below 1 in lowest terms, whose denominator is below 2^127
pub record IsProper (numer denom : ℕ) : Type 0 where
  pub coprime : IsCoprime numer denom
  pub under : numer < denom
  pub denom_below : denom < 2 ^ 127

-- no denominator below 2^127 serves n/q
abbrev pub IsTooFine : ℕ → ℕ → Type 0
IsTooFine n q = (x m : ℕ) → 0 < m → x * q ≡ n * m → 2 ^ 127 ≤ m

-- the parts of n/q in lowest terms, exactly where its denominator is below 2^127
abbrev pub Reduces : ℕ → ℕ → Option (ℕ × ℕ) → Type 0
Reduces n q result = MatchOption result (IsTooFine n q) (λ r. (r.0 * q ≡ n * r.1) × IsProper r.0 r.1)

-- the value, exactly where it fits
abbrev pub Fitting : ℚ → Option ℚ → Type 0
Fitting v result = MatchOption result (fits_width 127 v ≡ false) (λ r. (r ≡ v) × (fits_width 127 v ≡ true))

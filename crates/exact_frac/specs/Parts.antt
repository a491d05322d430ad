-- The parts of a fraction within 128 bits.
use Rattle.std.specs.Prelude.{◌≡◌, ℕ, ◌^◌, ◌<◌, ◌≤◌, ℤ, pos, neg_ℤ, nat_abs, Bool, T, Option, MatchOption, if◌then◌else◌}
use Rattle.std.specs.Int.{int_signum}
use Rattle.rational.specs.Gcd.{IsCoprime, is_lowest}
use Rattle.rational.specs.Rational.{ℚ}

-- parts in lowest terms, the numerator's size and the denominator below 2^127
pub record FitsLowest (p : ℤ) (q : ℕ) : Type 0 where
  pub lowest : T (is_lowest p q)
  pub numerator_below : nat_abs p < 2 ^ 127
  pub denominator_below : q < 2 ^ 127

-- the integer of that size, below 0 where asked
abbrev pub signed : Bool → ℕ → ℤ
signed negative size = (if negative then neg_ℤ (pos size) else pos size)

-- the sign and the size of an integer, exactly where the size is below 2^127
abbrev pub SplitsBelow : ℤ → Option (Bool × ℕ) → Type 0
SplitsBelow z result = MatchOption result (2 ^ 127 ≤ nat_abs z) (λ r. (signed r.0 r.1 ≡ z) × (r.1 < 2 ^ 127))

-- a size and a denominator in lowest terms, both below 2^127
pub record AreLowest (size denom : ℕ) : Type 0 where
  pub coprime : IsCoprime size denom
  pub some : 0 < denom
  pub size_below : size < 2 ^ 127
  pub denom_below : denom < 2 ^ 127

-- the sign, the size and the denominator of a fraction
pub record Splits (a : ℚ) (negative : Bool) (size denom : ℕ) : Type 0 where
  pub numerator : a.numerator ≡ signed negative size
  pub denominator : a.denominator ≡ denom
  pub lowest : AreLowest size denom

-- the sign of the numerator: -1, 0 or 1
abbrev pub sign_of : ℚ → ℤ
sign_of a = int_signum a.numerator

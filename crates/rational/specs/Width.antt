-- The width of a fraction: how many bits its numerator's size and its denominator take.
use Rattle.std.proofs.Common.{ℕ, ◌^◌, ◌<◌, nat_abs, Bool, ◌&&◌, ltb}
use Rattle.rational.specs.Rational.{ℚ}

-- the width of the arithmetic: both parts below 2^127
abbrev pub full_width : ℕ
full_width = 127

-- the numerator's size and the denominator are below 2^w
pub record FitsWidth (w : ℕ) (a : ℚ) : Type 0 where
  pub numerator_below : nat_abs a.numerator < 2 ^ w
  pub denominator_below : a.denominator < 2 ^ w

-- whether it fits, as a test
unfoldable pub fits_width : ℕ → ℚ → Bool
fits_width w a = ltb (nat_abs a.numerator) (2 ^ w) && ltb a.denominator (2 ^ w)

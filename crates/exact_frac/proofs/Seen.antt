-- What a fraction's parts say of the number that it stands for, and the other way round.
use Rattle.std.proofs.Common.{◌≡◌, ℕ, ℤ}
use Rattle.rational.specs.Rational.{ratio}
use Rattle.rational.proofs.Ratio.{numerator-ratio, denominator-ratio}
use Rattle.exact_frac.specs.Parts.{FitsLowest}

pub numerator-seen : (p : ℤ) (q : ℕ) → FitsLowest p q → (ratio p q).numerator ≡ p
numerator-seen p q h = numerator-ratio p q h.lowest

pub denominator-seen : (p : ℤ) (q : ℕ) → FitsLowest p q → (ratio p q).denominator ≡ q
denominator-seen p q h = denominator-ratio p q h.lowest

-- for functions that read the parts
pub ruleset seen = (numerator-seen, denominator-seen)

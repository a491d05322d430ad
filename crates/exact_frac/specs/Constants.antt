-- The constants `Frac::ZERO` and `Frac::ONE`: each use of one owes these facts, so name the set in
-- `using(exact_frac::specs::Constants::constants)`.
use Rattle.std.specs.Prelude.{◌≡◌, pos}
use Rattle.std.proofs.Common.{refl, lit<}
use Rattle.rational.specs.Rational.{ratio, zero_ℚ, one_ℚ}
use Rattle.rational.specs.Gcd.{is_lowest}
use Rattle.exact_frac.specs.Parts.{FitsLowest}

pub zero_fits : FitsLowest (pos 0) 1
unfolding is_lowest
zero_fits = record { lowest = tt; numerator_below = lit< tt; denominator_below = lit< tt }

pub one_fits : FitsLowest (pos 1) 1
unfolding is_lowest
one_fits = record { lowest = tt; numerator_below = lit< tt; denominator_below = lit< tt }

pub ratio-zero : ratio (pos 0) 1 ≡ zero_ℚ
unfolding zero_ℚ
ratio-zero = refl

pub ratio-one : ratio (pos 1) 1 ≡ one_ℚ
unfolding one_ℚ
ratio-one = refl

pub ruleset constants = (zero_fits, one_fits, ratio-zero, ratio-one)

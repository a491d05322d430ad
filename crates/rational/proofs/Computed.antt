-- Closed computations hold by computing both sides.
use Rattle.std.proofs.Common.{◌≡◌, pos, negsuc, false, refl}
use Rattle.rational.specs.Rational.{ratio, one_ℚ, ◌+ℚ◌, ◌*ℚ◌, ◌/ℚ◌, ◌<ℚ◌, lt_ℚ}
use Rattle.rational.specs.Width.{fits_width}

half_and_third : ratio (pos 1) 2 +ℚ ratio (pos 1) 3 ≡ ratio (pos 5) 6
unfolding ◌+ℚ◌
half_and_third = refl

three_quarters_of : ratio (pos 3) 4 *ℚ ratio (negsuc 7) 9 ≡ ratio (negsuc 1) 3
unfolding ◌*ℚ◌
three_quarters_of = refl

by_a_negative : one_ℚ /ℚ ratio (negsuc 1) 3 ≡ ratio (negsuc 2) 2
unfolding ◌/ℚ◌ one_ℚ
by_a_negative = refl

below : ratio (negsuc 0) 2 <ℚ ratio (negsuc 0) 3
unfolding lt_ℚ ratio
below = record { lt = tt }

a_width : fits_width 3 (ratio (pos 7) 8) ≡ false
unfolding fits_width ratio
a_width = refl

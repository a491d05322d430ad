-- Worked number fields.
use Rattle.std.proofs.Common.{◌≡◌, Ok, Err, [], pos, negsuc, ◌^◌, ◌*◌, refl}
use Rattle.std.specs.Prelude.{codes}
use Rattle.rational.specs.Rational.{ratio, whole, ◌*ℚ◌}
use Rattle.rational.specs.Width.{fits_width}
use Rattle.mps_model.specs.declared.FieldFault.TheVariants.{Exponent, Malformed, Unfit}
use Rattle.mps_model.specs.NumberField.{field_value}

point_and_exponent : field_value (codes "1.5E+1") ≡ Ok (whole (pos 15))
unfolding whole ratio ◌*ℚ◌ fits_width
point_and_exponent = refl

no_whole_part : field_value (codes "-.5") ≡ Ok (ratio (negsuc 0) 2)
unfolding whole ratio ◌*ℚ◌ fits_width
no_whole_part = refl

other_letter : field_value (codes "1D2") ≡ Ok (whole (pos 100))
unfolding whole ratio ◌*ℚ◌ fits_width
other_letter = refl

small_letters : field_value (codes "+2.50e-1") ≡ Ok (ratio (pos 1) 4)
unfolding whole ratio ◌*ℚ◌ fits_width
small_letters = refl

negative_zero : field_value (codes "-0.E5") ≡ Ok (whole (pos 0))
unfolding whole ratio ◌*ℚ◌ fits_width
negative_zero = refl

largest_read : field_value (codes "99999999E30") ≡ Ok (whole (pos (99999999 * 10 ^ 30)))
unfolding whole ratio ◌*ℚ◌ fits_width
largest_read = refl

too_wide : field_value (codes "999999999E30") ≡ Err Unfit
unfolding whole ratio ◌*ℚ◌ fits_width
too_wide = refl

large_exponent : field_value (codes "1E31") ≡ Err Exponent
unfolding whole ratio ◌*ℚ◌ fits_width
large_exponent = refl

-- the exponent is judged before the value
large_negative_exponent : field_value (codes "0D-31") ≡ Err Exponent
unfolding whole ratio ◌*ℚ◌ fits_width
large_negative_exponent = refl

letter_after : field_value (codes "1X") ≡ Err Malformed
unfolding whole ratio ◌*ℚ◌ fits_width
letter_after = refl

empty : field_value [] ≡ Err Malformed
empty = refl

point_alone : field_value (codes ".") ≡ Err Malformed
unfolding whole ratio ◌*ℚ◌ fits_width
point_alone = refl

two_points : field_value (codes "1.2.3") ≡ Err Malformed
unfolding whole ratio ◌*ℚ◌ fits_width
two_points = refl

no_exponent_digits : field_value (codes "1E+") ≡ Err Malformed
unfolding whole ratio ◌*ℚ◌ fits_width
no_exponent_digits = refl

no_digits : field_value (codes "E5") ≡ Err Malformed
unfolding whole ratio ◌*ℚ◌ fits_width
no_digits = refl

two_signs : field_value (codes "--1") ≡ Err Malformed
unfolding whole ratio ◌*ℚ◌ fits_width
two_signs = refl

-- what is no spelling has no exponent
malformed_first : field_value (codes "1E31X") ≡ Err Malformed
unfolding whole ratio ◌*ℚ◌ fits_width
malformed_first = refl

inner_blank : field_value (codes "1 2") ≡ Err Malformed
unfolding whole ratio ◌*ℚ◌ fits_width
inner_blank = refl

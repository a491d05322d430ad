-- The text of a fraction.
use Rattle.std.specs.Prelude.{ℕ, List, ◌∷◌, ◌++◌, ◌==◌, if◌then◌else◌}
use Rattle.std.specs.Fmt.{decimal, signed_decimal}
use Rattle.rational.specs.Rational.{ℚ}

-- the numerator, and after a stroke the denominator where it is not 1
abbrev pub fraction_text : ℚ → List ℕ
fraction_text v = if v.denominator == 1 then signed_decimal v.numerator else signed_decimal v.numerator ++ 47 ∷ decimal v.denominator

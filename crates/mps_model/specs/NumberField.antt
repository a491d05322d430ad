-- Number fields: a decimal number with an exponent of ten, as an exact fraction, or its fault.
use Rattle.std.specs.Prelude.{ℕ, ◌^◌, List, [], ◌∷◌, ◌++◌, length, take_while, drop, Option, Some, None, Result, Ok, Err, Bool, false, ◌&&◌, ◌||◌, ◌==◌, nat_le, nat_lt, if◌then◌else◌, ℤ, pos, negsuc, suc, neg_ℤ, nat_abs}
use Rattle.std.specs.List.{list_all}
use Rattle.rational.specs.Rational.{ℚ, ratio, whole, ◌*ℚ◌}
use Rattle.rational.specs.Width.{fits_width, full_width}
use Rattle.lp_text.specs.Digits.{digits_value, is_digit}
use Rattle.mps_model.specs.declared.FieldFault.{FieldFault}
use Rattle.mps_model.specs.declared.FieldFault.TheVariants.{Exponent, Malformed, Unfit}

-- ── the parts of a spelling ──

-- a plus or a minus
abbrev pub is_sign : ℕ → Bool
is_sign c = c == 43 || c == 45

-- whether a minus begins the text
abbrev pub is_negative : List ℕ → Bool
is_negative [] = false
is_negative (c ∷ text) = c == 45

-- the text after its sign, where it has one
abbrev pub unsigned : List ℕ → List ℕ
unsigned [] = []
unsigned (c ∷ text) = if is_sign c then text else c ∷ text

-- the digits that begin a text
abbrev pub leading_digits : List ℕ → List ℕ
leading_digits text = take_while is_digit text

-- what follows the digits that begin a text
abbrev pub after_digits : List ℕ → List ℕ
after_digits text = drop (length (leading_digits text)) text

-- what follows a point, where a point begins the text
abbrev pub after_point : List ℕ → Option (List ℕ)
after_point [] = None
after_point (c ∷ text) = if c == 46 then Some text else None

-- the digits after the point of a text without sign
abbrev pub decimals : List ℕ → List ℕ
decimals text = elim (after_point (after_digits text)) [ None ↦ [] | Some tail ↦ leading_digits tail ]

-- what follows the digits and the point of a text without sign
abbrev pub after_decimals : List ℕ → List ℕ
after_decimals text = elim (after_point (after_digits text)) [ None ↦ after_digits text | Some tail ↦ after_digits tail ]

-- all digits of a text without sign, those before the point and those after it
abbrev pub all_digits : List ℕ → List ℕ
all_digits text = leading_digits text ++ decimals text

-- E, e, D or d
abbrev pub is_exponent_letter : ℕ → Bool
is_exponent_letter c = c == 69 || c == 101 || c == 68 || c == 100

-- digits alone, at least one
abbrev pub is_digits : List ℕ → Bool
is_digits text = nat_le 1 (length text) && list_all is_digit text

-- a number, or its negative
abbrev pub signed : Bool → ℕ → ℤ
signed negative n = if negative then neg_ℤ (pos n) else pos n

-- the exponent that follows the digits: 0 where nothing follows; a letter, an optional sign and digits; none where it is malformed
abbrev pub exponent_of : List ℕ → Option ℤ
exponent_of [] = Some (pos 0)
exponent_of (c ∷ text) = if is_exponent_letter c && is_digits (unsigned text) then Some (signed (is_negative text) (digits_value (unsigned text))) else None

-- ── the value ──

-- ten to an exponent
abbrev pub power_of_ten : ℤ → ℚ
power_of_ten (pos n) = whole (pos (10 ^ n))
power_of_ten (negsuc n) = ratio (pos 1) (10 ^ suc n)

-- the digits over ten for each that stands after the point, with the sign, times ten to the exponent
abbrev pub spelled_value : List ℕ → ℤ → ℚ
spelled_value text e =
    let body = unsigned text in
    ratio (signed (is_negative text) (digits_value (all_digits body))) (10 ^ length (decimals body)) *ℚ power_of_ten e

-- a value, where it fits the arithmetic
abbrev pub fitting : ℚ → Result ℚ FieldFault
fitting v = if fits_width full_width v then Ok v else Err Unfit

-- the value of a spelling with this exponent
abbrev pub value_with : List ℕ → ℤ → Result ℚ FieldFault
value_with text e = if nat_lt 30 (nat_abs e) then Err Exponent else fitting (spelled_value text e)

-- the value of a number field, or its first fault
abbrev pub field_value : List ℕ → Result ℚ FieldFault
field_value text =
    let body = unsigned text in
    elim (exponent_of (after_decimals body)) [
      | None ↦ Err Malformed
      | Some e ↦ if nat_lt 0 (length (all_digits body)) then value_with text e else Err Malformed
    ]

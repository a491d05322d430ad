-- The parts of a fraction's text.
use Rattle.std.proofs.Common.{◌≡◌, ◌≢◌, ℕ, ◌^◌, ◌<◌, List, [], ◌∷◌, ◌++◌, length, drop, take_while, Option, Some, ℤ, pos, negsuc, int_lt, nat_abs, Bool, true, false, refl, sym, ◌∙◌, ap, ap₂, subst, arith, append-nil}
use Rattle.std.specs.Prelude.{◌==◌, if◌then◌else◌}
use Rattle.std.specs.Fmt.{decimal, signed_decimal}
use Rattle.std.specs.Str.Parse.{AllDigits, IsNumeral}
use Rattle.std.proofs.Math.Seq.{drop-append_seam}
use Rattle.std.proofs.lemmas.Fmt.{decimal_is_IsNumeral_wide}
use Rattle.std.proofs.lemmas.List.Sums.{take_while-cons}
use Rattle.std.proofs.lemmas.Str.Parse.{digit_from_value}
use Rattle.std.proofs.lemmas.Bool.Decides.{nat_tests}
use Rattle.rational.specs.Rational.{ℚ, ratio}
use Rattle.rational.specs.Width.{FitsWidth}
use Rattle.rational.proofs.Ratio.{positive_from_lowest, ratio-parts}
use Rattle.exact_frac.specs.Parts.{signed}
use Rattle.exact_frac.proofs.Split.{signed-nat_abs}
use Rattle.lp_text.specs.Fraction.{fraction_text}
use Rattle.frac_text.specs.Inner.{is_negative, unsigned, is_no_stroke, denominator_text}

fraction_parts : (v : ℚ) → fraction_text v ≡ signed_decimal v.numerator ++ denominator_text v.denominator
fraction_parts v = each (v.denominator == 1)
  where
    each : (b : Bool) → (if b then signed_decimal v.numerator else signed_decimal v.numerator ++ 47 ∷ decimal v.denominator) ≡ signed_decimal v.numerator ++
        (if b then [] else 47 ∷ decimal v.denominator)
    each true = sym (append-nil (signed_decimal v.numerator))
    each false = refl

other : (c d : ℕ) → c ≢ d → (c == d) ≡ false
other c d h = grind (arith, nat_tests)

no_minus : (ds tail : List ℕ) → IsNumeral 10 ds → (is_negative (ds ++ tail) ≡ false) × (unsigned (ds ++ tail) ≡ ds ++ tail)
no_minus [] tail h = absurd (omega (arith, h.0))
no_minus (c ∷ ds) tail h =
    let range = digit_from_value c h.1.0 in
    let is : (c == 45) ≡ false = other c 45 (λ e. omega arith) in
    (is, rw is refl)

-- the digits of the numerator stand before the first stroke
front : (ds tail : List ℕ) → AllDigits 10 ds → take_while is_no_stroke tail ≡ [] → take_while is_no_stroke (ds ++ tail) ≡ ds
front [] tail h e = e
front (c ∷ ds) tail h e =
    let range = digit_from_value c h.0 in
    let is : (c == 47) ≡ false = other c 47 (λ e. omega arith) in
    take_while-cons is_no_stroke c (ds ++ tail) ∙ rw is (ap (λ t. c ∷ t) (front ds tail h.1 e))

nothing_before : (n : ℕ) → take_while is_no_stroke (denominator_text n) ≡ []
nothing_before n = each (n == 1)
  where
    each : (b : Bool) → take_while is_no_stroke (if b then [] else 47 ∷ decimal n) ≡ []
    each true = refl
    each false = refl

minus_of : (p : ℤ) (tail : List ℕ) → nat_abs p < 2 ^ 127 → is_negative (signed_decimal p ++ tail) ≡ int_lt p (pos 0)
minus_of (pos n) tail below = (no_minus (decimal n) tail (decimal_is_IsNumeral_wide n (omega arith)).0).0 ∙ not_below n
  where
    not_below : (k : ℕ) → false ≡ int_lt (pos k) (pos 0)
    not_below k = grind (arith, nat_tests)
minus_of (negsuc n) tail below = refl

size_of : (p : ℤ) (tail : List ℕ) → nat_abs p < 2 ^ 127 → unsigned (signed_decimal p ++ tail) ≡ decimal (nat_abs p) ++ tail
size_of (pos n) tail below = (no_minus (decimal n) tail (decimal_is_IsNumeral_wide n (omega arith)).0).1
size_of (negsuc n) tail below = refl

module _ (v : ℚ) (text : List ℕ) (fits : FitsWidth 127 v) (is : fraction_text v ≡ text) where
  text_is : text ≡ signed_decimal v.numerator ++ denominator_text v.denominator
  text_is = sym is ∙ fraction_parts v

  unsigned_is : unsigned text ≡ decimal (nat_abs v.numerator) ++ denominator_text v.denominator
  unsigned_is = ap (λ t. unsigned t) text_is ∙ size_of v.numerator (denominator_text v.denominator) fits.numerator_below

  pub sign_is : is_negative text ≡ int_lt v.numerator (pos 0)
  sign_is = ap (λ t. is_negative t) text_is ∙ minus_of v.numerator (denominator_text v.denominator) fits.numerator_below

  pub above_is : take_while is_no_stroke (unsigned text) ≡ decimal (nat_abs v.numerator)
  above_is =
      ap (λ t. take_while is_no_stroke t) unsigned_is
      ∙ front (decimal (nat_abs v.numerator)) (denominator_text v.denominator) (decimal_is_IsNumeral_wide (nat_abs v.numerator) (omega (arith, fits.numerator_below))).0.1
      (nothing_before v.denominator)

  pub below_is : drop (length (take_while is_no_stroke (unsigned text))) (unsigned text) ≡ denominator_text v.denominator
  below_is =
      ap₂ (λ (s : List ℕ) t. drop (length s) t) above_is unsigned_is
      ∙ drop-append_seam (decimal (nat_abs v.numerator)) (denominator_text v.denominator)

-- the fraction of the parts
value_is : (v : ℚ) → ratio (signed (int_lt v.numerator (pos 0)) (nat_abs v.numerator)) v.denominator ≡ v
value_is v = ap (λ p. ratio p v.denominator) (signed-nat_abs v.numerator) ∙ ratio-parts v

pub from_parts : (v : ℚ) (negative : Bool) (size denom : ℕ) (result : Option ℚ) → negative ≡ int_lt v.numerator (pos 0)
    → Some size ≡ Some (nat_abs v.numerator) → Some denom ≡ Some v.denominator
    → (0 < denom → result ≡ Some (ratio (signed negative size) denom)) → result ≡ Some v
from_parts v negative size denom result sign_is size_is denom_is made =
    let size_same : size ≡ nat_abs v.numerator = cc in
    let denom_same : denom ≡ v.denominator = cc in
    let some : 0 < v.denominator = positive_from_lowest v.numerator v.denominator v.lowest in
    made (subst (λ n. 0 < n) (sym denom_same) some)
    ∙ ap Some (ap (λ b. ratio (signed b size) denom) sign_is ∙ ap₂ (λ n d. ratio (signed (int_lt v.numerator (pos 0)) n) d) size_same denom_same ∙ value_is v)

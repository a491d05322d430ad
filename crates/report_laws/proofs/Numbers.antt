-- The texts of numbers: which bytes they have, and each number has its own.
use Rattle.std.proofs.Common.{◌≡◌, ℕ, zero, suc, ◌+◌, ◌-◌, ◌*◌, ◌^◌, ◌<◌, ◌≤◌, List, [], ◌∷◌, ◌++◌, length, append-nil, take_while, ℤ, pos, negsuc, nat_abs, Bool, true, false, refl, sym, ◌∙◌, ap, ap₂, fold, arith, rules}
use Rattle.std.specs.Prelude.{◌==◌, ◌&&◌, ◌||◌, if◌then◌else◌, nat_lt, not, slice_index}
use Rattle.std.specs.Fmt.{decimal, signed_decimal}
use Rattle.std.specs.List.{list_all}
use Rattle.std.specs.Str.Parse.{AllDigits, digits_value as value_in}
use Rattle.std.proofs.lemmas.Bool.Decides.{nat_tests}
use Rattle.std.proofs.lemmas.Fmt.{decimal_digit, decimal_is_IsNumeral_wide, digits_decimal, digits_value-decimal, first_decimal}
use Rattle.std.proofs.lemmas.List.{append_cancel_left}
use Rattle.std.proofs.lemmas.List.Folds.{list_all-append}
use Rattle.std.proofs.lemmas.Str.Parse.{IsNumeralModel, digit_from_value, numerals_by_fold}
use Rattle.rational.specs.Rational.{ℚ, ratio}
use Rattle.rational.specs.Width.{FitsWidth}
use Rattle.rational.proofs.Ratio.{ratio-parts}
use Rattle.lp_text.specs.Digits.{digits_value, is_digit}
use Rattle.lp_text.specs.Fraction.{fraction_text}
use Rattle.report_lines.specs.Judged.{is_no_blank}
use Rattle.report_lines.specs.Numbers.{is_plain}
use Rattle.report_laws.proofs.Parts.{IsUnbroken, taken_joined, taken_whole}

pub both : (a b : Bool) → a ≡ true → b ≡ true → (a && b) ≡ true
both a b h k = grind (arith, nat_tests)

-- ── the bytes of numbers pass a test that digits, the minus sign and the stroke pass ──

module _ (p : ℕ → Bool) (digit : (c : ℕ) → 48 ≤ c → p c ≡ true) where
  digits_pass : (ds : List ℕ) → AllDigits 10 ds → list_all p ds ≡ true
  digits_pass [] h = refl
  digits_pass (c ∷ ds) h =
      let range = digit_from_value c h.0 in
      both (p c) (list_all p ds) (digit c (omega (arith, range))) (digits_pass ds h.1)

  pub decimal_passes : (n : ℕ) → n < 10 ^ 64 → list_all p (decimal n) ≡ true
  decimal_passes n below = digits_pass (decimal n) (decimal_is_IsNumeral_wide n below).0.1

  pub signed_passes : p 45 ≡ true → (z : ℤ) → nat_abs z < 2 ^ 127 → list_all p (signed_decimal z) ≡ true
  signed_passes minus (pos n) below = decimal_passes n (omega arith)
  signed_passes minus (negsuc n) below = both (p 45) (list_all p (decimal (suc n))) minus (decimal_passes (suc n) (omega arith))

  pub fraction_passes : p 45 ≡ true → p 47 ≡ true → (v : ℚ) → FitsWidth 127 v → list_all p (fraction_text v) ≡ true
  fraction_passes minus stroke v fits = each (v.denominator == 1)
    where
      above : list_all p (signed_decimal v.numerator) ≡ true
      above = signed_passes minus v.numerator fits.numerator_below

      each : (b : Bool) → list_all p (if b then signed_decimal v.numerator else signed_decimal v.numerator ++ 47 ∷ decimal v.denominator) ≡ true
      each true = above
      each false =
          list_all-append p (signed_decimal v.numerator) (47 ∷ decimal v.denominator)
          ∙ both (list_all p (signed_decimal v.numerator)) (p 47 && list_all p (decimal v.denominator)) above
          (both (p 47) (list_all p (decimal v.denominator)) stroke (decimal_passes v.denominator (omega (arith, fits.denominator_below))))

digit_no_blank : (c : ℕ) → 48 ≤ c → is_no_blank c ≡ true
digit_no_blank c low = grind (arith, nat_tests)

pub decimal_unbroken : (n : ℕ) → n < 10 ^ 64 → IsUnbroken (decimal n)
decimal_unbroken n below = decimal_passes is_no_blank digit_no_blank n below

pub fraction_unbroken : (v : ℚ) → FitsWidth 127 v → IsUnbroken (fraction_text v)
fraction_unbroken v fits = fraction_passes is_no_blank digit_no_blank refl refl v fits

-- ── plain numbers ──

own : IsNumeralModel (λ ds. list_all is_digit ds ≡ true) digits_value
own = numerals_by_fold (λ ds. list_all is_digit ds ≡ true) (search rules) (λ n ds. fold (λ n c. 10 * n + (c - 48)) n ds) (search rules)

-- the value of a number's text is the number
pub decimal_value : (n : ℕ) → n < 2 ^ 64 → digits_value (decimal n) ≡ n
decimal_value n below = digits_value-decimal own n below

-- which is plain
some_digit : (n : ℕ) → n < 2 ^ 64 → nat_lt 0 (length (decimal n)) ≡ true
some_digit n below = let some = (decimal_is_IsNumeral_wide n (omega arith)).0.0 in grind (arith, nat_tests)

lead : (n : ℕ) → n < 2 ^ 64 → (length (decimal n) == 1 || not (slice_index (decimal n) 0 == 48)) ≡ true
lead zero below = rw (decimal_digit 0 (omega arith)) refl
lead (suc n) below = let first = first_decimal (suc n) (omega arith) below in grind (arith, nat_tests)

pub decimal_plain : (n : ℕ) → n < 2 ^ 64 → is_plain (decimal n) ≡ true
decimal_plain n below =
    both _ (list_all is_digit (decimal n)) (both (nat_lt 0 (length (decimal n))) _ (some_digit n below) (lead n below)) (digits_decimal own n below)

-- ── each number has its own text ──

one_decimal : (m n : ℕ) → m < 2 ^ 127 → n < 2 ^ 127 → decimal m ≡ decimal n → m ≡ n
one_decimal m n m_below n_below same =
    sym (decimal_is_IsNumeral_wide m (omega arith)).1 ∙ ap (value_in 10) same ∙ (decimal_is_IsNumeral_wide n (omega arith)).1

is_no_minus : ℕ → Bool
is_no_minus c = not (c == 45)

digit_no_minus : (c : ℕ) → 48 ≤ c → is_no_minus c ≡ true
unfolding is_no_minus
digit_no_minus c low = grind (arith, nat_tests)

no_minus : (n : ℕ) (rest : List ℕ) → n < 2 ^ 127 → decimal n ≡ 45 ∷ rest → ⊥
unfolding is_no_minus
no_minus n rest below same =
    let passes = decimal_passes is_no_minus digit_no_minus n (omega arith) in
    let fails : list_all is_no_minus (45 ∷ rest) ≡ true = ap (list_all is_no_minus) (sym same) ∙ passes in
    cc

one_signed : (y z : ℤ) → nat_abs y < 2 ^ 127 → nat_abs z < 2 ^ 127 → signed_decimal y ≡ signed_decimal z → y ≡ z
one_signed (pos m) (pos n) m_below n_below same = ap pos (one_decimal m n m_below n_below same)
one_signed (pos m) (negsuc n) m_below n_below same = absurd (no_minus m (decimal (suc n)) m_below same)
one_signed (negsuc m) (pos n) m_below n_below same = absurd (no_minus n (decimal (suc m)) n_below (sym same))
one_signed (negsuc m) (negsuc n) m_below n_below same =
    let more : suc m ≡ suc n = one_decimal (suc m) (suc n) m_below n_below (let tails = same in cc) in
    let less : m ≡ n = omega arith in
    ap negsuc less

is_no_stroke : ℕ → Bool
is_no_stroke c = not (c == 47)

digit_no_stroke : (c : ℕ) → 48 ≤ c → is_no_stroke c ≡ true
unfolding is_no_stroke
digit_no_stroke c low = grind (arith, nat_tests)

-- a text with and without a denominator
abbrev text_with : Bool → ℤ → ℕ → List ℕ
text_with whole above below = if whole then signed_decimal above else signed_decimal above ++ 47 ∷ decimal below

above_of : (whole : Bool) (above : ℤ) (below : ℕ) → nat_abs above < 2 ^ 127 → take_while is_no_stroke (text_with whole above below) ≡ signed_decimal above
unfolding is_no_stroke
above_of true above below fits = taken_whole is_no_stroke (signed_decimal above) (signed_passes is_no_stroke digit_no_stroke refl above fits)
above_of false above below fits =
    taken_joined is_no_stroke (signed_decimal above) 47 (decimal below) (signed_passes is_no_stroke digit_no_stroke refl above fits) refl

is_one : (n : ℕ) → (n == 1) ≡ true → n ≡ 1
is_one n e = grind (arith, nat_tests)

one_below : (v w : Bool) (above : List ℕ) (m n : ℕ) → (m == 1) ≡ v → (n == 1) ≡ w → m < 2 ^ 127 → n < 2 ^ 127
    → (if v then above else above ++ 47 ∷ decimal m) ≡ (if w then above else above ++ 47 ∷ decimal n) → m ≡ n
one_below true true above m n v_is w_is m_below n_below same = is_one m v_is ∙ sym (is_one n w_is)
one_below true false above m n v_is w_is m_below n_below same =
    let none : [] ≡ 47 ∷ decimal n = append_cancel_left above [] (47 ∷ decimal n) (append-nil above ∙ same) in cc
one_below false true above m n v_is w_is m_below n_below same =
    let none : 47 ∷ decimal m ≡ [] = append_cancel_left above (47 ∷ decimal m) [] (same ∙ sym (append-nil above)) in cc
one_below false false above m n v_is w_is m_below n_below same =
    let tails : 47 ∷ decimal m ≡ 47 ∷ decimal n = append_cancel_left above (47 ∷ decimal m) (47 ∷ decimal n) same in
    one_decimal m n m_below n_below cc

-- a fraction has its own text
pub one_fraction : (v w : ℚ) → FitsWidth 127 v → FitsWidth 127 w → fraction_text v ≡ fraction_text w → v ≡ w
one_fraction v w v_fits w_fits same =
    let texts : signed_decimal v.numerator ≡ signed_decimal w.numerator =
    sym (above_of (v.denominator == 1) v.numerator v.denominator v_fits.numerator_below) ∙ ap (take_while is_no_stroke) same
    ∙ above_of (w.denominator == 1) w.numerator w.denominator w_fits.numerator_below in
    let above : v.numerator ≡ w.numerator = one_signed v.numerator w.numerator v_fits.numerator_below w_fits.numerator_below texts in
    let below : v.denominator ≡ w.denominator =
    one_below (v.denominator == 1) (w.denominator == 1) (signed_decimal v.numerator) v.denominator w.denominator refl refl
    v_fits.denominator_below w_fits.denominator_below
    (same ∙ ap (λ t. if (w.denominator == 1) then t else t ++ 47 ∷ decimal w.denominator) (sym texts)) in
    sym (ratio-parts v) ∙ ap₂ ratio above below ∙ ratio-parts w

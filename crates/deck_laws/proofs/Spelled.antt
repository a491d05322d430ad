-- A text put together from digits, a point and an exponent, read as a number field.
use Rattle.std.proofs.Common.{◌≡◌, ℕ, ◌+◌, ◌-◌, ◌*◌, ◌^◌, ◌<◌, Bool, true, false, not, ◌||◌, cond, List, [], ◌∷◌, ◌++◌, length, drop, Option, None, Some, Ok, ℤ, pos, refl, sym, ap}
use Rattle.std.proofs.Common.{ap₂, subst, ◌∙◌, arith, rules, append-nil, fold}
use Rattle.std.specs.Prelude.{◌==◌, take_while}
use Rattle.std.specs.Fmt.{decimal}
use Rattle.std.specs.List.{list_all}
use Rattle.std.proofs.Math.Seq.{drop-append-add}
use Rattle.std.proofs.lemmas.Bool.{and_from, and_parts}
use Rattle.std.proofs.lemmas.Bool.Decides.{nat_tests}
use Rattle.std.proofs.lemmas.Fmt.{decimal_is_IsNumeral_wide}
use Rattle.std.proofs.lemmas.List.Folds.{list_all-append}
use Rattle.std.proofs.lemmas.List.Sums.{take_while-cons}
use Rattle.std.proofs.lemmas.Str.Parse.{IsNumeralModel, numerals_by_fold}
use Rattle.frac_text.specs.Card.{signed_text}
use Rattle.lp_text.specs.Digits.{digits_value, is_digit}
use Rattle.rational.specs.Rational.{ℚ, ratio, ◌*ℚ◌}
use Rattle.rational.specs.Width.{fits_width}
use Rattle.mps_model.specs.NumberField.{after_digits, after_point, field_value, is_negative, leading_digits, power_of_ten, signed, unsigned}
use Rattle.number_fields.specs.Spelled.{exponent_within}
use Rattle.number_fields.proofs.SpellingLemmas.{read_value}
use Rattle.deck_laws.specs.Spellable.{is_mark}

-- ── the digits of a number ──

own : IsNumeralModel (λ ds. list_all is_digit ds ≡ true) digits_value
own = numerals_by_fold (λ ds. list_all is_digit ds ≡ true) (search rules) (λ n ds. fold (λ n c. 10 * n + (c - 48)) n ds) (search rules)

-- how the digits of a number are told
pub record IsDigitsOf (ds : List ℕ) (n : ℕ) : Type 0 where
  pub some : 0 < length ds
  pub digits : list_all is_digit ds ≡ true
  pub value : digits_value ds ≡ n

pub decimal_digits : (n : ℕ) → n < 10 ^ 64 → IsDigitsOf (decimal n) n
decimal_digits n below =
    let numeral = decimal_is_IsNumeral_wide n below in
    record { some = numeral.0.0; digits = own.from (decimal n) numeral.0.1; value = own.same (decimal n) numeral.0.1 ∙ numeral.1 }

digit_mark : (c : ℕ) → is_digit c ≡ true → is_mark c ≡ true
digit_mark c h = grind (arith, nat_tests)

pub marks_digits : (ds : List ℕ) → list_all is_digit ds ≡ true → list_all is_mark ds ≡ true
marks_digits [] h = refl
marks_digits (c ∷ ds) h = let each = and_parts (is_digit c) (list_all is_digit ds) h in
    and_from (is_mark c) (list_all is_mark ds) (digit_mark c each.0) (marks_digits ds each.1)

pub marks_both : (xs ys : List ℕ) → list_all is_mark xs ≡ true → list_all is_mark ys ≡ true → list_all is_mark (xs ++ ys) ≡ true
marks_both xs ys h k = list_all-append is_mark xs ys ∙ and_from (list_all is_mark xs) (list_all is_mark ys) h k

-- ── digits at the front ──

-- no digit begins the text
is_stop : List ℕ → Bool
is_stop [] = true
is_stop (c ∷ text) = not (is_digit c)

leading_front : (ds rest : List ℕ) → list_all is_digit ds ≡ true → is_stop rest ≡ true → leading_digits (ds ++ rest) ≡ ds
unfolding is_stop
leading_front [] [] h stop = refl
leading_front [] (c ∷ rest) h stop =
    let other : is_digit c ≡ false = grind (arith, nat_tests) in
    take_while-cons is_digit c rest ∙ ap (λ b. cond b (c ∷ take_while is_digit rest) []) other
leading_front (d ∷ ds) rest h stop =
    let each = and_parts (is_digit d) (list_all is_digit ds) h in
    take_while-cons is_digit d (ds ++ rest) ∙ ap (λ b. cond b (d ∷ take_while is_digit (ds ++ rest)) []) each.0 ∙ ap (λ t. d ∷ t) (leading_front ds rest each.1 stop)

rest_front : (ds rest : List ℕ) → list_all is_digit ds ≡ true → is_stop rest ≡ true → after_digits (ds ++ rest) ≡ rest
rest_front ds rest h stop =
    ap (λ (f : List ℕ). drop (length f) (ds ++ rest)) (leading_front ds rest h stop)
    ∙ ap (λ k. drop k (ds ++ rest)) (omega arith)
    ∙ drop-append-add ds rest 0

-- ── an exponent behind digits ──

-- nothing, or a text that begins with E
abbrev pub is_tail : List ℕ → Bool
is_tail [] = true
is_tail (c ∷ text) = c == 69

-- the text tells this exponent
pub record IsTail (tail : List ℕ) (z : ℤ) : Type 0 where
  pub begins : is_tail tail ≡ true
  pub marks : list_all is_mark tail ≡ true
  pub within : exponent_within tail ≡ Ok z

tail_stops : (tail : List ℕ) → is_tail tail ≡ true → is_stop tail ≡ true
unfolding is_stop
tail_stops [] h = refl
tail_stops (c ∷ tail) h = grind (arith, nat_tests)

tail_pointless : (tail : List ℕ) → is_tail tail ≡ true → after_point tail ≡ None
tail_pointless [] h = refl
tail_pointless (c ∷ tail) h = let other : (c == 46) ≡ false = grind (arith, nat_tests) in rw other refl

pub no_tail : IsTail [] (pos 0)
no_tail = record { begins = refl; marks = refl; within = refl }

-- ── signs ──

-- a digit or a point begins the text
begins_plain : List ℕ → Bool
begins_plain [] = false
begins_plain (c ∷ text) = is_digit c || c == 46

no_minus : (text : List ℕ) → begins_plain text ≡ true → is_negative text ≡ false
unfolding begins_plain
no_minus [] h = refl
no_minus (c ∷ text) h = grind (arith, nat_tests)

no_sign : (text : List ℕ) → begins_plain text ≡ true → unsigned text ≡ text
unfolding begins_plain
no_sign [] h = refl
no_sign (c ∷ text) h = let other : (c == 43 || c == 45) ≡ false = grind (arith, nat_tests) in rw other refl

sign_told : (negative : Bool) (body : List ℕ) → begins_plain body ≡ true → negative ≡ is_negative (signed_text negative body)
sign_told true body h = refl
sign_told false body h = sym (no_minus body h)

sign_taken : (negative : Bool) (body : List ℕ) → begins_plain body ≡ true → body ≡ unsigned (signed_text negative body)
sign_taken true body h = refl
sign_taken false body h = sym (no_sign body h)

pub marks_signed : (negative : Bool) (body : List ℕ) → list_all is_mark body ≡ true → list_all is_mark (signed_text negative body) ≡ true
marks_signed true body h = h
marks_signed false body h = h

digits_begin : (ds rest : List ℕ) → list_all is_digit ds ≡ true → 0 < length ds → begins_plain (ds ++ rest) ≡ true
unfolding begins_plain
digits_begin [] rest h some = absurd (omega arith)
digits_begin (c ∷ ds) rest h some = let first = (and_parts (is_digit c) (list_all is_digit ds) h).0 in rw first refl

pub unsigned_digits : (ds : List ℕ) (n : ℕ) → IsDigitsOf ds n → (unsigned ds ≡ ds) × (is_negative ds ≡ false)
unsigned_digits ds n h =
    let begin : begins_plain ds ≡ true = subst (λ t. begins_plain t ≡ true) (append-nil ds) (digits_begin ds [] h.digits h.some) in
    (no_sign ds begin, no_minus ds begin)

point_stops : (rest : List ℕ) → is_stop (46 ∷ rest) ≡ true
unfolding is_stop
point_stops rest = refl

point_begins : (whole rest : List ℕ) → list_all is_digit whole ≡ true → begins_plain (whole ++ 46 ∷ rest) ≡ true
unfolding begins_plain
point_begins [] rest h = refl
point_begins (c ∷ whole) rest h = let first = (and_parts (is_digit c) (list_all is_digit whole) h).0 in rw first refl

-- ── the value ──

-- the text is read as the number, and each of its bytes prints and is no blank
pub record IsRead (text : List ℕ) (v : ℚ) : Type 0 where
  pub value : field_value text ≡ Ok v
  pub marks : list_all is_mark text ≡ true

module _ (negative : Bool) (tail : List ℕ) (z : ℤ) (is_tail_of : IsTail tail z) (v : ℚ) (fits : fits_width 127 v ≡ true) where
  -- digits alone, and the exponent
  pub read_whole : (ds : List ℕ) (n : ℕ) → IsDigitsOf ds n → v ≡ ratio (signed negative n) (10 ^ 0) *ℚ power_of_ten z → IsRead (signed_text negative (ds ++ tail)) v
  read_whole ds n h is =
      let stop = tail_stops tail is_tail_of.begins in
      let begin = digits_begin ds tail h.digits h.some in
      let after : after_digits (ds ++ tail) ≡ tail = rest_front ds tail h.digits stop in
      let no_point : after_point (after_digits (ds ++ tail)) ≡ None = ap after_point after ∙ tail_pointless tail is_tail_of.begins in
      let value_is : v ≡ ratio (signed negative (digits_value (ds ++ []))) (10 ^ length {A = ℕ} []) *ℚ power_of_ten z =
      is ∙ ap (λ k. ratio (signed negative k) (10 ^ 0) *ℚ power_of_ten z) (sym (ap digits_value (append-nil ds) ∙ h.value)) in
      record {
        value = read_value (signed_text negative (ds ++ tail)) (ds ++ tail) ds [] tail (sign_taken negative (ds ++ tail) begin)
            (sym (leading_front ds tail h.digits stop))
            (sym (ap (λ (o : Option (List ℕ)). elim o [ None ↦ [] | Some t ↦ leading_digits t ]) no_point))
            (sym (ap (λ (o : Option (List ℕ)). elim o [ None ↦ after_digits (ds ++ tail) | Some t ↦ after_digits t ]) no_point ∙ after))
            (omega (arith, h.some))
            negative (sign_told negative (ds ++ tail) begin) z is_tail_of.within v (value_is, subst (λ w. fits_width 127 w ≡ true) value_is fits);
        marks = marks_signed negative (ds ++ tail) (marks_both ds tail (marks_digits ds h.digits) is_tail_of.marks);
      }

  -- digits with a point among them, and the exponent
  pub read_pointed : (whole decs : List ℕ) (n k : ℕ) → list_all is_digit whole ≡ true → list_all is_digit decs ≡ true → 0 < length whole + length decs
      → digits_value (whole ++ decs) ≡ n → length decs ≡ k → v ≡ ratio (signed negative n) (10 ^ k) *ℚ power_of_ten z → IsRead (signed_text negative (whole ++ 46 ∷ (decs ++ tail))) v
  read_pointed whole decs n k h_whole h_decs some n_is k_is is =
      let stop = tail_stops tail is_tail_of.begins in
      let body = whole ++ 46 ∷ (decs ++ tail) in
      let after : after_digits body ≡ 46 ∷ (decs ++ tail) = rest_front whole (46 ∷ (decs ++ tail)) h_whole (point_stops (decs ++ tail)) in
      let point : after_point (after_digits body) ≡ Some (decs ++ tail) = ap after_point after in
      let begin : begins_plain body ≡ true = point_begins whole (decs ++ tail) h_whole in
      let value_is : v ≡ ratio (signed negative (digits_value (whole ++ decs))) (10 ^ length decs) *ℚ power_of_ten z =
      is ∙ ap₂ (λ m j. ratio (signed negative m) (10 ^ j) *ℚ power_of_ten z) (sym n_is) (sym k_is) in
      record {
        value = read_value (signed_text negative body) body whole decs tail (sign_taken negative body begin)
            (sym (leading_front whole (46 ∷ (decs ++ tail)) h_whole (point_stops (decs ++ tail))))
            (sym (ap (λ (o : Option (List ℕ)). elim o [ None ↦ [] | Some t ↦ leading_digits t ]) point ∙ leading_front decs tail h_decs stop))
            (sym (ap (λ (o : Option (List ℕ)). elim o [ None ↦ after_digits body | Some t ↦ after_digits t ]) point ∙ rest_front decs tail h_decs stop))
            some
            negative (sign_told negative body begin) z is_tail_of.within v (value_is, subst (λ w. fits_width 127 w ≡ true) value_is fits);
        marks = marks_signed negative body (marks_both whole (46 ∷ (decs ++ tail)) (marks_digits whole h_whole) (marks_both decs tail (marks_digits decs h_decs) is_tail_of.marks));
      }

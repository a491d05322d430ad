-- From the parts of a spelling to its value.
use Rattle.std.proofs.Common.{◌≡◌, ℕ, zero, suc, ◌+◌, ◌-◌, ◌*◌, ◌<◌, ◌≤◌, List, [], ◌∷◌, ◌++◌, length, take, get_or, Option, None, Some, Result, Ok, Err, ℤ, nat_abs, Bool, true, false, cond, min, refl, sym, ◌∙◌, ap, ap₂, subst, arith, length-append, ◌^◌}
use Rattle.std.specs.Prelude.{◌==◌, if◌then◌else◌, nat_lt, take_while}
use Rattle.std.specs.List.{list_all}
use Rattle.std.proofs.lemmas.Bool.{lt-ltb, and_from}
use Rattle.std.proofs.lemmas.List.{take_more}
use Rattle.std.proofs.lemmas.List.Sums.{take_while-cons, fold-append}
use Rattle.lp_text.specs.Digits.{digits_value, is_digit}
use Rattle.rational.specs.Rational.{ℚ, ratio, ◌*ℚ◌}
use Rattle.rational.specs.Width.{fits_width}
use Rattle.mps_model.specs.declared.FieldFault.{FieldFault}
use Rattle.mps_model.specs.declared.FieldFault.TheVariants.{Exponent, Malformed, Unfit}
use Rattle.mps_model.specs.NumberField.{leading_digits, decimals, after_digits, after_point, all_digits, unsigned, after_decimals, exponent_of, field_value, fitting, spelled_value, signed, is_negative, power_of_ten}
use Rattle.number_fields.specs.Spelled.{exponent_within}

-- ---- digits

pub whole_digits : (text : List ℕ) → list_all is_digit (take_while is_digit text) ≡ true
whole_digits [] = refl
whole_digits (c ∷ text) = rw (take_while-cons is_digit c text) (each (whole_digits text) (is_digit c) refl)
  where
    each : list_all is_digit (take_while is_digit text) ≡ true → (b : Bool) → is_digit c ≡ b → list_all is_digit (cond b (c ∷ take_while is_digit text) []) ≡ true
    each rest true e = and_from _ _ e rest
    each rest false e = refl

pub take_leading : (text : List ℕ) → take (length (leading_digits text)) text ≡ leading_digits text
take_leading [] = refl
take_leading (c ∷ text) = rw (take_while-cons is_digit c text) (each (take_leading text) (is_digit c))
  where
    each : take (length (take_while is_digit text)) text ≡ take_while is_digit text → (b : Bool)
        → take (length (cond b (c ∷ take_while is_digit text) [])) (c ∷ text) ≡ cond b (c ∷ take_while is_digit text) []
    each rest true = ap (λ t. c ∷ t) rest
    each rest false = refl

pub leading_within : (text : List ℕ) → length (leading_digits text) ≤ length text
leading_within [] = omega arith
leading_within (c ∷ text) = rw (take_while-cons is_digit c text) (each (leading_within text) (is_digit c))
  where
    each : length (take_while is_digit text) ≤ length text → (b : Bool) → length (cond b (c ∷ take_while is_digit text) []) ≤ length (c ∷ text)
    each rest true = omega arith
    each rest false = omega arith

pub decimal_digits : (body : List ℕ) → list_all is_digit (decimals body) ≡ true
decimal_digits body = each (after_point (after_digits body))
  where
    each : (o : Option (List ℕ)) → list_all is_digit (elim o [ None ↦ [] | Some tail ↦ leading_digits tail ]) ≡ true
    each None = refl
    each (Some tail) = whole_digits tail

-- ---- a number that stops at 31

stops : (n d : ℕ) → min (10 * min n 31 + d) 31 ≡ min (10 * n + d) 31
stops n d = omega arith

pub one_more : (text : List ℕ) (i d : ℕ) → i < length text → digits_value (take (i + 1) text) ≡ 10 * digits_value (take i text) + (get_or text i d - 48)
one_more text i d h = ap digits_value (take_more text i d h) ∙ fold-append (λ n c. 10 * n + (c - 48)) 0 (take i text) (get_or text i d ∷ [])

pub stops_after : (text : List ℕ) (i d : ℕ) → i < length text → min (10 * min (digits_value (take i text)) 31 + (get_or text i d - 48)) 31 ≡ min (digits_value (take (i + 1) text)) 31
stops_after text i d h = stops (digits_value (take i text)) (get_or text i d - 48) ∙ ap (λ n. min n 31) (sym (one_more text i d h))

-- ---- the exponent

abbrev within : ℤ → Result ℤ FieldFault
within z = if nat_lt 30 (nat_abs z) then Err Exponent else Ok z

-- ---- the value, or the first fault

abbrev read : Option ℤ → ℕ → (ℤ → Result ℚ FieldFault) → Result ℚ FieldFault
read o n w = elim o [ None ↦ Err Malformed | Some e ↦ if nat_lt 0 n then (if nat_lt 30 (nat_abs e) then Err Exponent else w e) else Err Malformed ]

abbrev judged : Option ℤ → Result ℤ FieldFault
judged o = elim o [ None ↦ Err Malformed | Some e ↦ within e ]

nothing : (o : Option ℤ) (n : ℕ) (w : ℤ → Result ℚ FieldFault) → n ≡ 0 → read o n w ≡ Err Malformed
nothing None n w e = refl
nothing (Some z) n w e = rw e refl

faulty : (o : Option ℤ) (n : ℕ) (w : ℤ → Result ℚ FieldFault) (f : FieldFault) → 0 < n → judged o ≡ Err f → read o n w ≡ Err f
faulty None n w f some e = cc
faulty (Some z) n w f some e = rw (lt-ltb 0 n some) (each (nat_lt 30 (nat_abs z)) e)
  where
    each : (b : Bool) → (if b then Err Exponent else Ok z) ≡ Err f → (if b then Err Exponent else w z) ≡ Err f
    each true h = cc
    each false h = cc

valued : (o : Option ℤ) (n : ℕ) (w : ℤ → Result ℚ FieldFault) (z : ℤ) → 0 < n → judged o ≡ Ok z → read o n w ≡ w z
valued None n w z some e = cc
valued (Some y) n w z some e = rw (lt-ltb 0 n some) (each (nat_lt 30 (nat_abs y)) e)
  where
    each : (b : Bool) → (if b then Err Exponent else Ok y) ≡ Ok z → (if b then Err Exponent else w y) ≡ w z
    each true h = cc
    each false h = let same : y ≡ z = cc in ap w same

module _ (text : List ℕ) where
  abbrev body : List ℕ
  body = unsigned text

  count : length (all_digits body) ≡ length (leading_digits body) + length (decimals body)
  count = length-append (leading_digits body) (decimals body)

  pub field_nothing : length (leading_digits body) ≡ 0 → length (decimals body) ≡ 0 → field_value text ≡ Err Malformed
  field_nothing e f = nothing (exponent_of (after_decimals body)) (length (all_digits body)) (λ z. fitting (spelled_value text z)) (count ∙ omega arith)

  pub field_fault : (f : FieldFault) → 0 < length (leading_digits body) + length (decimals body) → exponent_within (after_decimals body) ≡ Err f → field_value text ≡ Err f
  field_fault f some e = faulty (exponent_of (after_decimals body)) (length (all_digits body)) (λ z. fitting (spelled_value text z)) f (subst (λ k. 0 < k) (sym count) some) e

  pub field_fits : (z : ℤ) → 0 < length (leading_digits body) + length (decimals body) → exponent_within (after_decimals body) ≡ Ok z → field_value text ≡ fitting (spelled_value text z)
  field_fits z some e = valued (exponent_of (after_decimals body)) (length (all_digits body)) (λ z. fitting (spelled_value text z)) z (subst (λ k. 0 < k) (sym count) some) e

-- ---- the same, from the parts that the code has

some_of : (n : ℕ) → false ≡ (n == 0) → 0 < n
some_of zero e = cc
some_of (suc n) e = omega arith

pub some_first : (n m : ℕ) → false ≡ (n == 0) → 0 < n + m
some_first n m e = let h : 0 < n = some_of n e in omega arith

pub some_second : (n m : ℕ) → false ≡ (m == 0) → 0 < n + m
some_second n m e = let h : 0 < m = some_of m e in omega arith

module _ (text body whole decs rest : List ℕ) (body_is : body ≡ unsigned text) (whole_is : whole ≡ leading_digits body) (decs_is : decs ≡ decimals body)
    (rest_is : rest ≡ after_decimals body) (some : 0 < length whole + length decs) where
  whole_here : whole ≡ leading_digits (unsigned text)
  whole_here = whole_is ∙ ap leading_digits body_is

  decs_here : decs ≡ decimals (unsigned text)
  decs_here = decs_is ∙ ap (λ b. decimals b) body_is

  some_here : 0 < length (leading_digits (unsigned text)) + length (decimals (unsigned text))
  some_here = subst (λ k. 0 < k) (ap₂ (λ w d. length w + length d) whole_here decs_here) some

  rest_here : exponent_within (after_decimals (unsigned text)) ≡ exponent_within rest
  rest_here = ap exponent_within (sym (rest_is ∙ ap (λ b. after_decimals b) body_is))

  pub read_fault : (f : FieldFault) → exponent_within rest ≡ Err f → field_value text ≡ Err f
  read_fault f e = field_fault text f some_here (rest_here ∙ e)

  module _ (negative : Bool) (negative_is : negative ≡ is_negative text) (z : ℤ) (within_is : exponent_within rest ≡ Ok z) where
    abbrev value : ℚ
    value = ratio (signed negative (digits_value (whole ++ decs))) (10 ^ length decs) *ℚ power_of_ten z

    value_is : value ≡ spelled_value text z
    value_is =
        ap (λ b. ratio (signed b (digits_value (whole ++ decs))) (10 ^ length decs) *ℚ power_of_ten z) negative_is
        ∙ ap₂ (λ w d. ratio (signed (is_negative text) (digits_value (w ++ d))) (10 ^ length d) *ℚ power_of_ten z) whole_here decs_here

    read_is : field_value text ≡ fitting value
    read_is = field_fits text z some_here (rest_here ∙ within_is) ∙ ap (λ v. fitting v) (sym value_is)

    pub read_unfit : fits_width 127 value ≡ false → field_value text ≡ Err Unfit
    read_unfit e = read_is ∙ rw e refl

    pub read_value : (r : ℚ) → (r ≡ value) × (fits_width 127 value ≡ true) → field_value text ≡ Ok r
    read_value r h = read_is ∙ rw h.1 (ap (λ v. Ok v) (sym h.0))

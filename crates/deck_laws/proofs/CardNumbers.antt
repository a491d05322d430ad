-- A number's spelling on a card is read as the number.
use Rattle.std.proofs.Common.{◌≡◌, ℕ, zero, suc, ◌+◌, ◌-◌, ◌*◌, ◌/◌, ◌%◌, ◌^◌, ◌<◌, ◌≤◌, Bool, true, false, not, ◌&&◌, List, [], ◌∷◌, ◌++◌, length, drop, take, get_or, replicate}
use Rattle.std.proofs.Common.{Option, None, Some, Result, Ok, Err, ℤ, pos, neg_ℤ, nat_abs, ◌*ℤ◌, refl, sym, ap, ap₂, subst, ◌∙◌, arith, append-nil, append_assoc, inl, inr, ◌⊎◌}
use Rattle.std.proofs.Common.{pow-add}
use Rattle.std.specs.Prelude.{◌==◌, if◌then◌else◌, nat_lt, nat_le, int_lt, option_and_then, codes}
use Rattle.std.specs.Fmt.{decimal}
use Rattle.std.specs.List.{list_all, position_or_len}
use Rattle.std.proofs.Math.Nat.{div-le_self, mod-one, mul_assoc, one-le-pow}
use Rattle.std.proofs.lemmas.Bool.{and_from, and_parts, leb-true, ltb-true}
use Rattle.std.proofs.lemmas.Nat.{div-add-mod'}
use Rattle.std.proofs.lemmas.Bool.Decides.{nat_tests}
use Rattle.std.proofs.lemmas.List.{take-append-drop, length-append, length-drop}
use Rattle.std.proofs.lemmas.List.FromFn.{get_or-range_with_len, length-range_with_len}
use Rattle.std.proofs.lemmas.List.Folds.{list_all-append}
use Rattle.std.proofs.lemmas.List.Sums.{fails_before_first, passes_at_first, prefix_len-le-length}
use Rattle.exact_frac.proofs.Lowest.{signed-*ℤ}
use Rattle.exact_frac.proofs.Split.{signed-nat_abs}
use Rattle.frac_text.specs.Card.{card_text, decimal_of, places_card, places_of, pointed, shorter, signed_text, whole_card, with_places, zeros_of, zeros_text}
use Rattle.lp_text.specs.Digits.{digits_value, is_digit}
use Rattle.rational.specs.Rational.{ℚ, ratio, ◌*ℚ◌}
use Rattle.rational.specs.Sparse.{upto}
use Rattle.rational.specs.Width.{fits_width}
use Rattle.rational.proofs.RationalRing.Parts.{IsOver, equal_over, over-*, over-whole, over_parts, over_ratio}
use Rattle.rational.proofs.WidthLaws.{fits_from_test}
use Rattle.lp_text.specs.declared.LineFault.TheVariants.{Number as number_fault}
use Rattle.mps_model.specs.declared.FieldFault.{FieldFault}
use Rattle.mps_model.specs.declared.FieldFault.TheVariants as fault
use Rattle.mps_model.specs.NumberField.{exponent_of, is_digits, is_negative, power_of_ten, signed, unsigned}
use Rattle.number_fields.specs.Spelled.{exponent_within}
use Rattle.mps_model.specs.PairCards.{number_in}
use Rattle.number_fields.proofs.Places.{value-append}
use Rattle.deck_laws.specs.Spellable.{IsNumber}
use Rattle.deck_laws.proofs.Spelled.{IsDigitsOf, IsRead, IsTail, decimal_digits, marks_digits, no_tail, read_pointed, read_whole, unsigned_digits}

-- ── the value of a spelling ──

tens : (k : ℕ) → 0 < 10 ^ k
tens k = one-le-pow k 10 (omega arith)

over_negative : (e : ℕ) → IsOver (power_of_ten (neg_ℤ (pos e))) (pos 1) (10 ^ e)
over_negative zero = over-whole (pos 1)
over_negative (suc e) = over_ratio (pos 1) (10 ^ suc e) (tens (suc e))

-- a number and its parts
module _ (v : ℚ) where
  abbrev negative : Bool
  negative = int_lt v.numerator (pos 0)

  abbrev size : ℕ
  size = nat_abs v.numerator

  abbrev below : ℕ
  below = v.denominator

  same_value : (m a r s : ℕ) (z : ℤ) → IsOver (power_of_ten z) (pos r) s → size * (10 ^ a * s) ≡ m * r * below → v ≡ ratio (signed negative m) (10 ^ a) *ℚ power_of_ten z
  same_value m a r s z over e =
      equal_over (over_parts v) (over-* (over_ratio (signed negative m) (10 ^ a) (tens a)) over)
      (ap (λ p. p *ℤ pos (10 ^ a * s)) (sym (signed-nat_abs v.numerator)) ∙ signed-*ℤ negative size (10 ^ a * s) ∙ ap (signed negative) e
      ∙ sym (ap (λ p. p *ℤ pos below) (signed-*ℤ negative m r) ∙ signed-*ℤ negative (m * r) below))

  whole_value : (m a e : ℕ) → size * 10 ^ a ≡ m * 10 ^ e * below → v ≡ ratio (signed negative m) (10 ^ a) *ℚ power_of_ten (pos e)
  whole_value m a e h = same_value m a (10 ^ e) 1 (pos e) (over-whole (pos (10 ^ e))) (omega (arith, h))

  parts_value : (m a e : ℕ) → size * (10 ^ a * 10 ^ e) ≡ m * below → v ≡ ratio (signed negative m) (10 ^ a) *ℚ power_of_ten (neg_ℤ (pos e))
  parts_value m a e h = same_value m a 1 (10 ^ e) (neg_ℤ (pos e)) (over_negative e) (omega (arith, h))

-- ── exponents ──

within_limit : (e : ℕ) → e ≤ 30 → nat_lt 30 e ≡ false
within_limit e h = grind (arith, nat_tests)

digits_told : (ds : List ℕ) → list_all is_digit ds ≡ true → 0 < length ds → (nat_le 1 (length ds) && list_all is_digit ds) ≡ true
digits_told ds h some = let low : nat_le 1 (length ds) ≡ true = grind (arith, nat_tests) in and_from (nat_le 1 (length ds)) (list_all is_digit ds) low h

module _ (text : List ℕ) (negative : Bool) (e : ℕ) (told : is_digits (unsigned text) ≡ true) (sign : is_negative text ≡ negative) (value : digits_value (unsigned text) ≡ e)
    (most : nat_lt 30 (nat_abs (signed negative e)) ≡ false) where
  exponent_is : exponent_of (69 ∷ text) ≡ Some (signed negative e)
  exponent_is =
      ap (λ b. if b then Some (signed (is_negative text) (digits_value (unsigned text))) else None) told
      ∙ ap₂ (λ b n. Some (signed b n)) sign value

  exponent_read : exponent_within (69 ∷ text) ≡ Ok (signed negative e)
  exponent_read =
      ap (λ (o : Option ℤ). elim o [ None ↦ Err fault.Malformed | Some z ↦ if nat_lt 30 (nat_abs z) then Err fault.Exponent else Ok z ]) exponent_is
      ∙ ap (λ b. if b then Err fault.Exponent else Ok (signed negative e)) most

plus_tail : (e : ℕ) → e ≤ 30 → IsTail (69 ∷ decimal e) (pos e)
plus_tail e most =
    let ds = decimal_digits e (omega arith) in
    let plain = unsigned_digits (decimal e) e ds in
    record {
      begins = refl;
      marks = marks_digits (decimal e) ds.digits;
      within = exponent_read (decimal e) false e (ap is_digits plain.0 ∙ digits_told (decimal e) ds.digits ds.some) plain.1 (ap digits_value plain.0 ∙ ds.value) (within_limit e most);
    }

abs_neg : (e : ℕ) → nat_abs (neg_ℤ (pos e)) ≡ e
abs_neg zero = refl
abs_neg (suc e) = refl

minus_tail : (e : ℕ) → e ≤ 30 → IsTail (codes "E-" ++ decimal e) (neg_ℤ (pos e))
minus_tail e most =
    let ds = decimal_digits e (omega arith) in
    record {
      begins = refl;
      marks = marks_digits (decimal e) ds.digits;
      within = exponent_read (45 ∷ decimal e) true e (digits_told (decimal e) ds.digits ds.some) refl ds.value (ap (nat_lt 30) (abs_neg e) ∙ within_limit e most);
    }

plus_thirty : IsTail (codes "E30") (pos 30)
plus_thirty = record { begins = refl; marks = refl; within = refl }

minus_thirty : IsTail (codes "E-30") (neg_ℤ (pos 30))
minus_thirty = record { begins = refl; marks = refl; within = refl }

-- ── zeros and places ──

no_rest : (n d : ℕ) → n % d ≡ 0 → n / d * d ≡ n
no_rest n d e = omega (arith, div-add-mod' n d)

is_zero : (x : ℕ) → (x == 0) ≡ true → x ≡ 0
is_zero x e = grind (arith, nat_tests)

not_nonzero : (x : ℕ) → not (x == 0) ≡ false → x ≡ 0
not_nonzero x e = grind (arith, nat_tests)

at_upto : (n k : ℕ) → k < n → get_or (upto n) k 0 ≡ k
at_upto n k h = get_or-range_with_len 0 n k 0 h ∙ omega arith

zeros_end : (n z : ℕ) → zeros_of n ≡ z → n % 10 ^ z ≡ 0
unfolding zeros_of
zeros_end n zero e = mod-one n
zeros_end n (suc j) e =
    let p : ℕ → Bool = λ z. not (n % 10 ^ (z + 1) == 0) in
    let before : j < position_or_len p (upto 39) = omega (arith, e) in
    let size : length (upto 39) ≡ 39 = refl in
    let few : j < 39 = omega (arith, before, prefix_len-le-length (λ x. not (p x)) (upto 39), size) in
    subst (λ k. n % 10 ^ k ≡ 0) (omega arith) (not_nonzero (n % 10 ^ (j + 1)) (subst (λ k. p k ≡ false) (at_upto 39 j few) (fails_before_first p (upto 39) j 0 before)))

places_end : (n d : ℕ) → places_of n d < 38 → (n * 10 ^ places_of n d) % d ≡ 0
unfolding places_of
places_end n d within =
    let p : ℕ → Bool = λ k. (n * 10 ^ k) % d == 0 in
    let inside : position_or_len p (upto 38) < length (upto 38) = rw length-range_with_len within in
    is_zero ((n * 10 ^ places_of n d) % d) (subst (λ k. p k ≡ true) (at_upto 38 (places_of n d) within) (passes_at_first p (upto 38) 0 inside))

abbrev zeros : ℕ → List ℕ
zeros j = replicate j 48

zeros_value : (j : ℕ) → digits_value (zeros j) ≡ 0
zeros_value zero = refl
zeros_value (suc j) = zeros_value j

zeros_digits : (j : ℕ) → list_all is_digit (zeros j) ≡ true
zeros_digits zero = refl
zeros_digits (suc j) = zeros_digits j

zeros-length : (j : ℕ) → length (zeros j) ≡ j
zeros-length zero = refl
zeros-length (suc j) = ap suc (zeros-length j)

-- digits and so many zeros
more_zeros : (ds : List ℕ) (n j : ℕ) → IsDigitsOf ds n → IsDigitsOf (ds ++ zeros j) (n * 10 ^ j)
more_zeros ds n j h = record {
  some = omega (arith, length-append ds (zeros j), h.some);
  digits = list_all-append is_digit ds (zeros j) ∙ and_from (list_all is_digit ds) (list_all is_digit (zeros j)) h.digits (zeros_digits j);
  value = value-append ds (zeros j) ∙ ap₂ (λ a b. a * 10 ^ b + digits_value (zeros j)) h.value (zeros-length j) ∙ omega (arith, zeros_value j);
}

-- ── a spelling with a point ──

module _ (negative : Bool) (tail : List ℕ) (z : ℤ) (is_tail_of : IsTail tail z) (v : ℚ) (fits : fits_width 127 v ≡ true) (ds : List ℕ) (n k : ℕ) (h : IsDigitsOf ds n)
    (is : v ≡ ratio (signed negative n) (10 ^ k) *ℚ power_of_ten z) where
  joined : (whole decs : List ℕ) → list_all is_digit (whole ++ decs) ≡ true → 0 < length whole + length decs → digits_value (whole ++ decs) ≡ n → length decs ≡ k
      → IsRead (signed_text negative ((whole ++ 46 ∷ decs) ++ tail)) v
  joined whole decs digits some value places =
      let each = and_parts (list_all is_digit whole) (list_all is_digit decs) (sym (list_all-append is_digit whole decs) ∙ digits) in
      subst (λ t. IsRead (signed_text negative t) v) (sym (append_assoc whole (46 ∷ decs) tail))
      (read_pointed negative tail z is_tail_of v fits whole decs n k each.0 each.1 some value places is)

  pointed_read : IsRead (signed_text negative (pointed ds k ++ tail)) v
  pointed_read = by (nat_lt k (length ds)) refl
    where
      by : (b : Bool) → nat_lt k (length ds) ≡ b
          → IsRead (signed_text negative ((if b then take (length ds - k) ds ++ 46 ∷ drop (length ds - k) ds else (46 ∷ zeros (k - length ds) ++ ds)) ++ tail)) v
      by true e =
          let few : k < length ds = grind (arith, nat_tests) in
          let all : take (length ds - k) ds ++ drop (length ds - k) ds ≡ ds = take-append-drop (length ds - k) ds in
          let places : length (drop (length ds - k) ds) ≡ k = omega (arith, length-drop (length ds - k) ds) in
          joined (take (length ds - k) ds) (drop (length ds - k) ds) (ap (list_all is_digit) all ∙ h.digits)
          (omega (arith, ap length all, length-append (take (length ds - k) ds) (drop (length ds - k) ds), h.some))
          (ap digits_value all ∙ h.value) places
      by false e =
          let many : length ds ≤ k = grind (arith, nat_tests) in
          let fill = zeros (k - length ds) in
          let sizes : length (fill ++ ds) ≡ (k - length ds) + length ds = length-append fill ds ∙ ap (λ j. j + length ds) (zeros-length (k - length ds)) in
          joined [] (fill ++ ds) (list_all-append is_digit fill ds ∙ and_from (list_all is_digit fill) (list_all is_digit ds) (zeros_digits (k - length ds)) h.digits)
          (omega (arith, sizes, h.some))
          (value-append fill ds ∙ ap (λ x. x * 10 ^ length ds + digits_value ds) (zeros_value (k - length ds)) ∙ omega (arith, h.value)) (omega (arith, sizes))

-- ── cards ──

-- the one or the other spelling, of at most 12 bytes
shorter_is : (plain scaled text : List ℕ) → shorter plain scaled ≡ Some text → ((text ≡ plain) ⊎ (text ≡ scaled)) × (length text ≤ 12)
shorter_is plain scaled text e = by (nat_le (length plain) 12) (nat_le (length scaled) 12) refl refl e
  where
    few : (t : List ℕ) → nat_le (length t) 12 ≡ true → text ≡ t → length text ≤ 12
    few t h same = let most : length t ≤ 12 = leb-true (length t) 12 h in omega (arith, most, ap length same)

    by : (a b : Bool) → nat_le (length plain) 12 ≡ a → nat_le (length scaled) 12 ≡ b → (if a then Some plain else if b then Some scaled else None) ≡ Some text
        → ((text ≡ plain) ⊎ (text ≡ scaled)) × (length text ≤ 12)
    by true b h k e = let same : text ≡ plain = cc in (inl same, few plain h same)
    by false true h k e = let same : text ≡ scaled = cc in (inr same, few scaled k same)
    by false false h k e = absurd (cc e)

-- the text of a number, and its length
abbrev IsSpelled : List ℕ → ℚ → Type 0
IsSpelled text v = IsRead text v × (length text ≤ 12)

either : (v : ℚ) (plain scaled text : List ℕ) → IsRead plain v → IsRead scaled v → shorter plain scaled ≡ Some text → IsSpelled text v
either v plain scaled text one other e =
    let found = shorter_is plain scaled text e in
    (elim found.0 [ inl same ↦ subst (λ t. IsRead t v) (sym same) one | inr same ↦ subst (λ t. IsRead t v) (sym same) other ], found.1)

module _ (v : ℚ) (fits : IsNumber v) where
  small : size v < 2 ^ 127
  small = (fits_from_test 127 v fits).numerator_below

  -- ── whole numbers ──

  module _ (n : ℕ) (n_is : n * below v ≡ size v) (n_small : n ≤ size v) where
    read_plain : IsRead (signed_text (negative v) (decimal n)) v
    read_plain =
        subst (λ t. IsRead (signed_text (negative v) t) v) (append-nil (decimal n))
        (read_whole (negative v) [] (pos 0) no_tail v fits (decimal n) n (decimal_digits n (omega (arith, small)))
        (whole_value v n 0 0 (one_less n (below v) (size v) n_is)))
      where
        one_less : (n b s : ℕ) → n * b ≡ s → s * 10 ^ 0 ≡ n * 10 ^ 0 * b
        one_less n b s e = ap (λ k. k * 1) (sym e) ∙ turn n b
          where
            turn : (n b : ℕ) → n * b * 1 ≡ n * 1 * b
            turn n b = omega arith

    module _ (z : ℕ) (z_is : zeros_of n ≡ z) where
      abbrev m : ℕ
      m = n / 10 ^ z

      m_small : m < 10 ^ 64
      m_small = omega (arith, div-le_self n (10 ^ z), n_small, small)

      m_is : m * 10 ^ z ≡ n
      m_is = no_rest n (10 ^ z) (zeros_end n z z_is)

      scaled_is : size v * 10 ^ 0 ≡ m * 10 ^ z * below v
      scaled_is = plain_of (size v) ∙ sym n_is ∙ ap (λ k. k * below v) (sym m_is)
        where
          plain_of : (s : ℕ) → s * 10 ^ 0 ≡ s
          plain_of s = omega arith

      read_scaled : IsRead (signed_text (negative v) (decimal m ++ zeros_text z)) v
      read_scaled = by (nat_le z 30) refl
        where
          by : (b : Bool) → nat_le z 30 ≡ b → IsRead (signed_text (negative v) (decimal m ++ (if b then 69 ∷ decimal z else (replicate (z - 30) 48 ++ codes "E30")))) v
          by true e = read_whole (negative v) (69 ∷ decimal z) (pos z) (plus_tail z (leb-true z 30 e)) v fits (decimal m) m (decimal_digits m m_small) (whole_value v m 0 z scaled_is)
          by false e =
              let past : 30 ≤ z = grind (arith, nat_tests) in
              let powers : 10 ^ (z - 30) * 10 ^ 30 ≡ 10 ^ z = sym (pow-add 10 (z - 30) 30) ∙ ap (λ k. 10 ^ k) (omega arith) in
              subst (λ t. IsRead (signed_text (negative v) t) v) (append_assoc (decimal m) (zeros (z - 30)) (codes "E30"))
              (read_whole (negative v) (codes "E30") (pos 30) plus_thirty v fits (decimal m ++ zeros (z - 30)) (m * 10 ^ (z - 30)) (more_zeros (decimal m) m (z - 30) (decimal_digits m m_small))
              (whole_value v (m * 10 ^ (z - 30)) 0 30 (scaled_is ∙ ap (λ k. k * below v) (ap (λ k. m * k) (sym powers) ∙ sym (mul_assoc m (10 ^ (z - 30)) (10 ^ 30))))))

  whole_spelled : (n : ℕ) (text : List ℕ) → n * below v ≡ size v → n ≤ size v → whole_card (negative v) n ≡ Some text → IsSpelled text v
  whole_spelled n text n_is n_small e =
      either v (signed_text (negative v) (decimal n)) (signed_text (negative v) (decimal (n / 10 ^ zeros_of n) ++ zeros_text (zeros_of n))) text
      (read_plain n n_is n_small) (read_scaled n n_is n_small (zeros_of n) refl) e

  -- ── numbers with decimal places ──

  module _ (m k : ℕ) (m_small : m < 10 ^ 12) (m_is : m * below v ≡ size v * 10 ^ k) where
    ds : IsDigitsOf (decimal m) m
    ds = decimal_digits m (omega (arith, m_small))

    read_point : IsRead (signed_text (negative v) (pointed (decimal m) k)) v
    read_point =
        subst (λ t. IsRead (signed_text (negative v) t) v) (append-nil (pointed (decimal m) k))
        (pointed_read (negative v) [] (pos 0) no_tail v fits (decimal m) m k ds (whole_value v m k 0 (sym m_is ∙ turn m (below v))))
      where
        turn : (n b : ℕ) → n * b ≡ n * 10 ^ 0 * b
        turn n b = omega arith

    read_places : IsRead (signed_text (negative v) (with_places (decimal m) k)) v
    read_places = by (nat_le k 30) refl
      where
        by : (b : Bool) → nat_le k 30 ≡ b → IsRead (signed_text (negative v) (if b then decimal m ++ codes "E-" ++ decimal k else pointed (decimal m) (k - 30) ++ codes "E-30")) v
        by true e =
            subst (λ t. IsRead (signed_text (negative v) t) v) (sym (append_assoc (decimal m) (codes "E-") (decimal k)))
            (read_whole (negative v) (codes "E-" ++ decimal k) (neg_ℤ (pos k)) (minus_tail k (leb-true k 30 e)) v fits (decimal m) m ds
            (parts_value v m 0 k (ap (λ j. size v * j) (one_more (10 ^ k)) ∙ sym m_is)))
          where
            one_more : (p : ℕ) → 10 ^ 0 * p ≡ p
            one_more p = omega arith
        by false e =
            let past : 30 ≤ k = grind (arith, nat_tests) in
            let powers : 10 ^ (k - 30) * 10 ^ 30 ≡ 10 ^ k = sym (pow-add 10 (k - 30) 30) ∙ ap (λ j. 10 ^ j) (omega arith) in
            pointed_read (negative v) (codes "E-30") (neg_ℤ (pos 30)) minus_thirty v fits (decimal m) m (k - 30) ds (parts_value v m (k - 30) 30 (ap (λ j. size v * j) powers ∙ sym m_is))

  places_spelled : (p : ℕ × ℕ) (text : List ℕ) → p.0 < 10 ^ 12 → p.0 * below v ≡ size v * 10 ^ p.1 → places_card (negative v) p ≡ Some text → IsSpelled text v
  places_spelled p text low is e =
      either v (signed_text (negative v) (pointed (decimal p.0) p.1)) (signed_text (negative v) (with_places (decimal p.0) p.1)) text
      (read_point p.0 p.1 low is) (read_places p.0 p.1 low is) e

  decimal_spelled : (o : Option (ℕ × ℕ)) (text : List ℕ) → decimal_of (size v) (below v) ≡ o → option_and_then (places_card (negative v)) o ≡ Some text → IsSpelled text v
  decimal_spelled None text found e = absurd (cc e)
  decimal_spelled (Some p) text found e = by (nat_lt k 38) (nat_lt w (10 ^ 12)) refl refl found
    where
      k : ℕ
      k = places_of (size v) (below v)

      w : ℕ
      w = size v * 10 ^ places_of (size v) (below v) / below v

      by : (a b : Bool) → nat_lt k 38 ≡ a → nat_lt w (10 ^ 12) ≡ b → (if a && b then Some (w, k) else None) ≡ Some p → IsSpelled text v
      by true true h l same =
          let pair : (w, k) ≡ p = cc in
          let within : places_of (size v) (below v) < 38 = ltb-true (places_of (size v) (below v)) 38 h in
          let low : w < 10 ^ 12 = ltb-true w (10 ^ 12) l in
          places_spelled p text (subst (λ (q : ℕ × ℕ). q.0 < 10 ^ 12) pair low)
          (subst (λ (q : ℕ × ℕ). q.0 * below v ≡ size v * 10 ^ q.1) pair (no_rest (size v * 10 ^ places_of (size v) (below v)) (below v) (places_end (size v) (below v) within))) e
      by true false h l same = absurd (cc same)
      by false b h l same = absurd (cc same)

-- a number's spelling is read as the number, and has at most 12 bytes, none of which is a blank
pub card_spelled : (v : ℚ) (text : List ℕ) → IsNumber v → card_text v ≡ Some text → IsRead text v × (length text ≤ 12)
card_spelled v text fits e = by (size v % below v == 0) refl e
  where
    by : (b : Bool) → (size v % below v == 0) ≡ b
        → (if b then whole_card (negative v) (size v / below v) else option_and_then (places_card (negative v)) (decimal_of (size v) (below v))) ≡ Some text → IsSpelled text v
    by true whole e = whole_spelled v fits (size v / below v) text (no_rest (size v) (below v) (is_zero (size v % below v) whole)) (div-le_self (size v) (below v)) e
    by false other e = decimal_spelled v fits (decimal_of (size v) (below v)) text refl e

pub number_read : (v : ℚ) (text : List ℕ) → IsNumber v → card_text v ≡ Some text → number_in text ≡ Ok v
number_read v text fits e = ap (λ (r : Result ℚ FieldFault). elim r [ Err why ↦ Err number_fault | Ok w ↦ Ok w ]) (card_spelled v text fits e).0.value

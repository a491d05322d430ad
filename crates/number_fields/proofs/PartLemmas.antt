-- A whole number and a fraction below 1, as one fraction.
use Rattle.std.proofs.Common.{◌≡◌, ℕ, zero, suc, ◌+◌, ◌-◌, ◌*◌, ◌/◌, ◌%◌, ◌^◌, ◌<◌, ◌≤◌, pos, ◌*ℤ◌, nat_abs, Bool, true, false, Option, None, Some, MatchOption, lit<, refl, sym, ◌∙◌, ap, subst, arith, pow-add}
use Rattle.std.specs.Int.{◌∣◌}
use Rattle.std.proofs.Math.Nat.{dvd-mul_left, le_of_dvd, pow-le-pow_right, mul_assoc, le_of_mul-le-mul_right, le-div_iff_mul-le, div-add-mod, div-one, mod-one, mod-mod_of_dvd, dvd-mul_right, eq_of_mul-eq-mul_right, mul-add-mod_self_right, le-mul_of_pos_right}
use Rattle.std.proofs.lemmas.Bool.{lt-ltb, ltb-true, and_from}
use Rattle.rational.specs.Gcd.{gcd, IsCoprime}
use Rattle.rational.proofs.Gcd.{dvd_of_coprime, gcd-comm}
use Rattle.rational.proofs.Integer.{nat_abs-*ℤ}
use Rattle.rational.specs.Rational.{ℚ, ratio, ◌*ℚ◌}
use Rattle.rational.proofs.Ratio.{coprime_from_lowest, ratio-cross, ratio-cong, positive}
use Rattle.rational.specs.Width.{fits_width}
use Rattle.rational.proofs.RationalRing.Parts.{IsOver, over_ratio, over-whole, over-*, equal_over}
use Rattle.rational.proofs.Ring.{ring_ℤ, of_pos, ◌≐◌, ◌⊙◌≗◌⟹◌, ◌⊕◌, ◌⊗◌, ⊝◌, literal}
use Rattle.exact_frac.proofs.Euclid.{gcd-rest}
use Rattle.exact_frac.proofs.Lowest.{numerator-over, denominator-over, signed-*ℤ}
use Rattle.exact_frac.proofs.Split.{nat_abs-signed}
use Rattle.mps_model.specs.NumberField.{signed, power_of_ten}
use Rattle.number_fields.specs.Parts.{IsProper, IsTooFine, Fitting}
use Rattle.number_fields.proofs.Places.{ten_pos, tens_more, rest_after}

-- ---- the last places, one by one

-- a tenth of the digit and the fraction so far is the fraction of one place more
pub carried : (x m d n q r p : ℕ) → 0 < q → x * (10 * q) ≡ (d * q + n) * m → n * p ≡ r * q → x * (p * 10) ≡ (d * p + r) * m
carried x m d n q r p some e f =
    eq_of_mul-eq-mul_right q some (x * (p * 10)) ((d * p + r) * m)
    (of_pos (ring_ℤ 7 (λ x m d n q r p. p ⊙ x ⊗ (literal (pos 10) ⊗ q) ≗ (d ⊗ q ⊕ n) ⊗ m ⟹ m ⊙ n ⊗ p ≗ r ⊗ q ⟹ x ⊗ (p ⊗ literal (pos 10)) ⊗ q ≐ (d ⊗ p ⊕ r) ⊗ m ⊗ q) tt
    (pos x) (pos m) (pos d) (pos n) (pos q) (pos r) (pos p) (ap pos e) (ap pos f)))

-- and back
pub uncarried : (x m d n q r p : ℕ) → 0 < p → x * (p * 10) ≡ (d * p + r) * m → n * p ≡ r * q → x * (10 * q) ≡ (d * q + n) * m
uncarried x m d n q r p some e f =
    eq_of_mul-eq-mul_right p some (x * (10 * q)) ((d * q + n) * m)
    (of_pos (ring_ℤ 7 (λ x m d n q r p. q ⊙ x ⊗ (p ⊗ literal (pos 10)) ≗ (d ⊗ p ⊕ r) ⊗ m ⟹ ⊝ m ⊙ n ⊗ p ≗ r ⊗ q ⟹ x ⊗ (literal (pos 10) ⊗ q) ⊗ p ≐ (d ⊗ q ⊕ n) ⊗ m ⊗ p) tt
    (pos x) (pos m) (pos d) (pos n) (pos q) (pos r) (pos p) (ap pos e) (ap pos f)))

less_times : (a b t c : ℕ) → 0 < t → a * t ≡ b * t + c → (a - b) * t ≡ c
less_times a b t c some e =
    let le : b ≤ a = le_of_mul-le-mul_right {m = b} {n = a} {k = t} (omega arith) some in
    let there : (a - b) + b ≡ a = omega arith in
    let spread : ((a - b) + b) * t ≡ (a - b) * t + b * t = both (a - b) b t in
    let whole : ((a - b) + b) * t ≡ a * t = ap (λ k. k * t) there in
    omega arith
  where
    both : (u v t : ℕ) → (u + v) * t ≡ u * t + v * t
    both u v t = of_pos (ring_ℤ 3 (λ u v t. (u ⊕ v) ⊗ t ≐ u ⊗ t ⊕ v ⊗ t) tt (pos u) (pos v) (pos t))

-- a denominator for all that stands after the point serves the last places too
pub fine_after : (n t k : ℕ) → 0 < t → IsTooFine (n % t) t → IsTooFine (n % (t * k)) (t * k)
fine_after n t k some fine x m above e =
    let r = n % (t * k) in
    let h = r / t in
    let last : r % t ≡ n % t = mod-mod_of_dvd t n (dvd-mul_right t k) in
    let split : t * h + r % t ≡ r = div-add-mod r t in
    let moved : x * k * t ≡ h * m * t + r % t * m =
    turned x k t ∙ e ∙ ap (λ y. y * m) (sym split) ∙ spread t h (r % t) m in
    fine (x * k - h * m) m above (less_times (x * k) (h * m) t (r % t * m) some moved ∙ ap (λ y. y * m) last)
  where
    turned : (x k t : ℕ) → x * k * t ≡ x * (t * k)
    turned x k t = of_pos (ring_ℤ 3 (λ x k t. x ⊗ k ⊗ t ≐ x ⊗ (t ⊗ k)) tt (pos x) (pos k) (pos t))

    spread : (t h r m : ℕ) → (t * h + r) * m ≡ h * m * t + r * m
    spread t h r m = of_pos (ring_ℤ 4 (λ t h r m. (t ⊗ h ⊕ r) ⊗ m ≐ h ⊗ m ⊗ t ⊕ r ⊗ m) tt (pos t) (pos h) (pos r) (pos m))

pub fine_further : (n i k : ℕ) → i ≤ k → IsTooFine (n % 10 ^ i) (10 ^ i) → IsTooFine (n % 10 ^ k) (10 ^ k)
fine_further n i k h fine =
    let apart : 10 ^ i * 10 ^ (k - i) ≡ 10 ^ k = sym (pow-add 10 i (k - i)) ∙ ap (λ j. 10 ^ j) (joins i k h) in
    subst (λ t. IsTooFine (n % t) t) apart (fine_after n (10 ^ i) (10 ^ (k - i)) (ten_pos i) fine)
  where
    joins : (i k : ℕ) → i ≤ k → i + (k - i) ≡ k
    joins i k h = omega arith

-- ---- whether a whole number and a fraction fit

module _ (v : ℚ) where
  unfit_numerator : 2 ^ 127 ≤ nat_abs v.numerator → fits_width 127 v ≡ false
  unfolding fits_width
  unfit_numerator h = grind (arith, ltb-true)

  unfit_denominator : 2 ^ 127 ≤ v.denominator → fits_width 127 v ≡ false
  unfolding fits_width
  unfit_denominator h = grind (arith, ltb-true)

  fitting : nat_abs v.numerator < 2 ^ 127 → v.denominator < 2 ^ 127 → fits_width 127 v ≡ true
  unfolding fits_width
  fitting h k = and_from _ _ (lt-ltb _ _ h) (lt-ltb _ _ k)

module _ (negative : Bool) (a q : ℕ) (some : 0 < q) where
  abbrev value : ℚ
  value = ratio (signed negative a) q

  sizes : nat_abs value.numerator * q ≡ a * value.denominator
  sizes =
      sym (nat_abs-*ℤ value.numerator (pos q)) ∙ ap nat_abs (ratio-cross (signed negative a) q some)
      ∙ nat_abs-*ℤ (signed negative a) (pos value.denominator) ∙ ap (λ k. k * value.denominator) (nat_abs-signed negative a)

  pub too_large : 2 ^ 127 ≤ a / q → fits_width 127 value ≡ false
  too_large h = unfit_numerator value (large (2 ^ 127) (nat_abs value.numerator) value.denominator (positive value) sizes ((le-div_iff_mul-le some).0 h))
    where
      large : (b p d : ℕ) → 0 < d → p * q ≡ a * d → b * q ≤ a → b ≤ p
      large b p d some_d e h =
          let more : a ≤ a * d = le-mul_of_pos_right a some_d in
          le_of_mul-le-mul_right {m = b} {n = p} {k = q} (omega arith) some

  denominator_within : value.denominator ≤ q
  denominator_within = le_of_dvd some (dvd_of_coprime value.denominator (nat_abs value.numerator) q
      (gcd-comm value.denominator (nat_abs value.numerator) ∙ coprime_from_lowest value.numerator value.denominator value.lowest)
      (subst (λ n. value.denominator ∣ n) (sym sizes) (dvd-mul_left value.denominator a)))

  numerator_within : nat_abs value.numerator ≤ a
  numerator_within = within (nat_abs value.numerator) value.denominator sizes denominator_within
    where
      within : (n d : ℕ) → n * q ≡ a * d → d ≤ q → n ≤ a
      within n d e h =
          let more : a * d ≤ a * q = grind arith in
          le_of_mul-le-mul_right {m = n} {n = a} {k = q} (omega arith) some

  -- a value of small parts fits
  pub small_fits : a < 2 ^ 127 → q < 2 ^ 127 → fits_width 127 value ≡ true
  small_fits h k = fitting value (omega (arith, numerator_within)) (omega (arith, denominator_within))

  pub too_fine_value : IsTooFine (a % q) q → fits_width 127 value ≡ false
  too_fine_value fine =
      let p = nat_abs value.numerator in
      let d = value.denominator in
      let h = a / q in
      let moved : p * q ≡ h * d * q + a % q * d = sizes ∙ ap (λ y. y * d) (sym (div-add-mod a q)) ∙ spread q h (a % q) d in
      unfit_denominator value (fine (p - h * d) d (positive value) (less_times p (h * d) q (a % q * d) some moved))
    where
      spread : (t h r m : ℕ) → (t * h + r) * m ≡ h * m * t + r * m
      spread t h r m = of_pos (ring_ℤ 4 (λ t h r m. (t ⊗ h ⊕ r) ⊗ m ≐ h ⊗ m ⊗ t ⊕ r ⊗ m) tt (pos t) (pos h) (pos r) (pos m))

  module _ (n m : ℕ) (proper : IsProper n m) (part : n * q ≡ a % q * m) where
    abbrev size : ℕ
    size = a / q * m + n

    denom_some : 0 < m
    denom_some = let less : n < m = proper.under in omega arith

    joined_cross : a * m ≡ size * q
    joined_cross =
        ap (λ y. y * m) (sym (div-add-mod a q)) ∙ meets q (a / q) (a % q) m n part
      where
        meets : (q h r m n : ℕ) → n * q ≡ r * m → (q * h + r) * m ≡ (h * m + n) * q
        meets q h r m n e = of_pos (ring_ℤ 5 (λ q h r m n. ⊝ literal (pos 1) ⊙ n ⊗ q ≗ r ⊗ m ⟹ (q ⊗ h ⊕ r) ⊗ m ≐ (h ⊗ m ⊕ n) ⊗ q) tt (pos q) (pos h) (pos r) (pos m) (pos n) (ap pos e))

    pub joined_is : ratio (signed negative size) m ≡ value
    joined_is =
        sym (ratio-cong (signed negative a) (signed negative size) q m some denom_some
        (signed-*ℤ negative a m ∙ ap (signed negative) joined_cross ∙ sym (signed-*ℤ negative size q)))

    joined_coprime : IsCoprime (nat_abs (signed negative size)) m
    joined_coprime =
        ap (λ k. gcd k m) (nat_abs-signed negative size)
        ∙ sym (gcd-rest size m) ∙ ap (gcd m) (mul-add-mod_self_right (a / q) m n) ∙ gcd-rest n m ∙ proper.coprime

    over : IsOver value (signed negative size) m
    over = subst (λ v. IsOver v (signed negative size) m) joined_is (over_ratio (signed negative size) m denom_some)

    top : nat_abs value.numerator ≡ size
    top = ap nat_abs (numerator-over value (signed negative size) m over joined_coprime) ∙ nat_abs-signed negative size

    bottom : value.denominator ≡ m
    bottom = denominator-over value (signed negative size) m over joined_coprime

    pub joined_unfit : 2 ^ 127 ≤ size → fits_width 127 value ≡ false
    joined_unfit h = unfit_numerator value (subst (λ k. 2 ^ 127 ≤ k) (sym top) h)

    pub joined_fits : size < 2 ^ 127 → fits_width 127 value ≡ true
    joined_fits h = fitting value (subst (λ k. k < 2 ^ 127) (sym top) h) (subst (λ k. k < 2 ^ 127) (sym bottom) proper.denom_below)

    pub joined_fitting : (o : Option ℚ) → MatchOption o (2 ^ 127 ≤ size) (λ r. (r ≡ ratio (signed negative size) m) × (size < 2 ^ 127)) → Fitting value o
    joined_fitting None h = joined_unfit h
    joined_fitting (Some r) h = (h.0 ∙ joined_is, joined_fits h.1)

-- ---- zeros after the digits, or places after the point

pub zeros_whole : (n places zeros : ℕ) → (0 < zeros → places ≡ 0) → n / 10 ^ places * 10 ^ zeros ≡ n * 10 ^ zeros / 10 ^ places
zeros_whole n places zero h = by_one (n / 10 ^ places) ∙ ap (λ k. k / 10 ^ places) (sym (by_one n))
  where
    by_one : (k : ℕ) → k * 10 ^ 0 ≡ k
    by_one k = omega arith
zeros_whole n places (suc k) h = let none : places ≡ 0 = h (omega arith) in rw none (by_ones n (10 ^ suc k))
  where
    by_ones : (n t : ℕ) → n / 1 * t ≡ n * t / 1
    by_ones n t = ap (λ k. k * t) (div-one n) ∙ sym (div-one (n * t))

pub zeros_last : (n places zeros : ℕ) → (0 < zeros → places ≡ 0) → n % 10 ^ places ≡ n * 10 ^ zeros % 10 ^ places
zeros_last n places zero h = ap (λ k. k % 10 ^ places) (sym (by_one n))
  where
    by_one : (k : ℕ) → k * 10 ^ 0 ≡ k
    by_one k = omega arith
zeros_last n places (suc k) h = let none : places ≡ 0 = h (omega arith) in rw none (by_ones n (n * 10 ^ suc k))
  where
    by_ones : (n t : ℕ) → n % 1 ≡ t % 1
    by_ones n t = mod-one n ∙ sym (mod-one t)

module _ (negative : Bool) (d places zeros : ℕ) (way : 0 < zeros → places ≡ 0) where
  abbrev all_of : ℚ
  all_of = ratio (signed negative (d * 10 ^ zeros)) (10 ^ places)

  pub shifted_large : 2 ^ 127 ≤ d / 10 ^ places * 10 ^ zeros → fits_width 127 all_of ≡ false
  shifted_large h = too_large negative (d * 10 ^ zeros) (10 ^ places) (ten_pos places) (subst (λ k. 2 ^ 127 ≤ k) (zeros_whole d places zeros way) h)

  pub shifted_fine : IsTooFine (d % 10 ^ places) (10 ^ places) → fits_width 127 all_of ≡ false
  shifted_fine h =
      too_fine_value negative (d * 10 ^ zeros) (10 ^ places) (ten_pos places) (subst (λ k. IsTooFine k (10 ^ places)) (zeros_last d places zeros way) h)

  pub shifted_fitting : (number n m : ℕ) (o : Option ℚ) → number ≡ d / 10 ^ places * 10 ^ zeros → n * 10 ^ places ≡ d % 10 ^ places * m → IsProper n m
      → MatchOption o (2 ^ 127 ≤ number * m + n) (λ r. (r ≡ ratio (signed negative (number * m + n)) m) × (number * m + n < 2 ^ 127)) → Fitting all_of o
  shifted_fitting number n m o number_is part proper h =
      joined_fitting negative (d * 10 ^ zeros) (10 ^ places) (ten_pos places) n m proper (part ∙ ap (λ r. r * m) (zeros_last d places zeros way)) o
      (subst (λ w. MatchOption o (2 ^ 127 ≤ w * m + n) (λ r. (r ≡ ratio (signed negative (w * m + n)) m) × (w * m + n < 2 ^ 127))) (number_is ∙ zeros_whole d places zeros way) h)

-- few digits over ten for each of a few places, with no zeros after them
pub short_fitting : (negative : Bool) (d places zeros : ℕ) (r : ℚ) → zeros ≡ 0 → d < 10 ^ 18 → places ≤ 18 → r ≡ ratio (signed negative d) (10 ^ places)
    → Fitting (ratio (signed negative (d * 10 ^ zeros)) (10 ^ places)) (Some r)
short_fitting negative d places zeros r none small few is =
    let same : d ≡ d * 10 ^ zeros = rw none (by_one d) in
    let below : 10 ^ places ≤ 10 ^ 18 = pow-le-pow_right (lit< tt) few in
    subst (λ n. Fitting (ratio (signed negative n) (10 ^ places)) (Some r)) same (is, small_fits negative d (10 ^ places) (ten_pos places) (omega arith) (omega arith))
  where
    by_one : (n : ℕ) → n ≡ n * 10 ^ 0
    by_one n = omega arith

-- ---- the exponent

pub over_down : (n : ℕ) → IsOver (power_of_ten (signed true n)) (pos 1) (10 ^ n)
over_down zero = over-whole (pos 1)
over_down (suc n) = over_ratio (pos 1) (10 ^ suc n) (ten_pos (suc n))

pub over_up : (n : ℕ) → IsOver (power_of_ten (signed false n)) (pos (10 ^ n)) 1
over_up n = over-whole (pos (10 ^ n))

pub shifted_value : (negative : Bool) (n count : ℕ) (p : ℚ) (a b places zeros : ℕ) → IsOver p (pos a) b → a * 10 ^ places ≡ 10 ^ zeros * (10 ^ count * b)
    → ratio (signed negative (n * 10 ^ zeros)) (10 ^ places) ≡ ratio (signed negative n) (10 ^ count) *ℚ p
shifted_value negative n count p a b places zeros o e =
    sym (equal_over (over-* (over_ratio (signed negative n) (10 ^ count) (ten_pos count)) o)
    (over_ratio (signed negative (n * 10 ^ zeros)) (10 ^ places) (ten_pos places))
    (ap (λ z. z *ℤ pos (10 ^ places)) (signed-*ℤ negative n a) ∙ signed-*ℤ negative (n * a) (10 ^ places)
    ∙ ap (signed negative) (mul_assoc n a (10 ^ places) ∙ ap (λ k. n * k) e ∙ sym (mul_assoc n (10 ^ zeros) (10 ^ count * b)))
    ∙ sym (signed-*ℤ negative (n * 10 ^ zeros) (10 ^ count * b))))

pub value_down : (negative : Bool) (n count size : ℕ) → ratio (signed negative (n * 10 ^ 0)) (10 ^ (count + size)) ≡ ratio (signed negative n) (10 ^ count) *ℚ power_of_ten (signed true size)
value_down negative n count size =
    shifted_value negative n count _ 1 (10 ^ size) (count + size) 0 (over_down size) (meets (10 ^ (count + size)) (10 ^ count * 10 ^ size) (pow-add 10 count size))
  where
    meets : (a b : ℕ) → a ≡ b → 1 * a ≡ 1 * b
    meets a b e = ap (λ k. 1 * k) e

pub value_within : (negative : Bool) (n count size : ℕ) → size ≤ count → ratio (signed negative (n * 10 ^ 0)) (10 ^ (count - size)) ≡ ratio (signed negative n)
    (10 ^ count) *ℚ power_of_ten (signed false size)
value_within negative n count size h =
    shifted_value negative n count _ (10 ^ size) 1 (count - size) 0 (over_up size)
    (meets (10 ^ size * 10 ^ (count - size)) (10 ^ count) (sym (pow-add 10 size (count - size)) ∙ ap (λ k. 10 ^ k) (joins count size h)))
  where
    joins : (count size : ℕ) → size ≤ count → size + (count - size) ≡ count
    joins count size h = omega arith

    meets : (a b : ℕ) → a ≡ b → a ≡ 1 * (b * 1)
    meets a b e = omega arith

pub value_past : (negative : Bool) (n count size : ℕ) → count < size → ratio (signed negative (n * 10 ^ (size - count))) (10 ^ 0) ≡ ratio (signed negative n)
    (10 ^ count) *ℚ power_of_ten (signed false size)
value_past negative n count size h =
    shifted_value negative n count _ (10 ^ size) 1 0 (size - count) (over_up size)
    (meets (10 ^ size) (10 ^ (size - count)) (10 ^ count) (ap (λ k. 10 ^ k) (joins count size h) ∙ pow-add 10 (size - count) count))
  where
    joins : (count size : ℕ) → count < size → size ≡ size - count + count
    joins count size h = omega arith

    meets : (a b c : ℕ) → a ≡ b * c → a * 1 ≡ b * (c * 1)
    meets a b c e = omega arith

pub fits_down : (negative down : Bool) (n count size : ℕ) (o : Option ℚ) → down ≡ true → Fitting (ratio (signed negative (n * 10 ^ 0)) (10 ^ (count + size))) o
    → Fitting (ratio (signed negative n) (10 ^ count) *ℚ power_of_ten (signed down size)) o
fits_down negative down n count size o e h =
    subst (λ b. Fitting (ratio (signed negative n) (10 ^ count) *ℚ power_of_ten (signed b size)) o) (sym e)
    (subst (λ v. Fitting v o) (value_down negative n count size) h)

pub fits_within : (negative down : Bool) (n count size : ℕ) (o : Option ℚ) → down ≡ false → size ≤ count → Fitting (ratio (signed negative (n * 10 ^ 0)) (10 ^ (count - size))) o
    → Fitting (ratio (signed negative n) (10 ^ count) *ℚ power_of_ten (signed down size)) o
fits_within negative down n count size o e le h =
    subst (λ b. Fitting (ratio (signed negative n) (10 ^ count) *ℚ power_of_ten (signed b size)) o) (sym e)
    (subst (λ v. Fitting v o) (value_within negative n count size le) h)

pub fits_past : (negative down : Bool) (n count size : ℕ) (o : Option ℚ) → down ≡ false → count < size → Fitting (ratio (signed negative (n * 10 ^ (size - count))) (10 ^ 0)) o
    → Fitting (ratio (signed negative n) (10 ^ count) *ℚ power_of_ten (signed down size)) o
fits_past negative down n count size o e lt h =
    subst (λ b. Fitting (ratio (signed negative n) (10 ^ count) *ℚ power_of_ten (signed b size)) o) (sym e)
    (subst (λ v. Fitting v o) (value_past negative n count size lt) h)

pub more_zeros : (b n zeros : ℕ) → b ≤ n → b ≤ n * 10 ^ zeros
more_zeros b n zeros h =
    let more : n ≤ n * 10 ^ zeros = le-mul_of_pos_right n (ten_pos zeros) in
    omega arith

-- ---- the steps of the last places

pub part_init : (n : ℕ) → (0 ≡ n % 1 * 1) × IsProper 0 1
unfolding gcd
part_init n = (ap (λ k. k * 1) (sym (mod-one n)), record { coprime = refl; under = lit< tt; denom_below = lit< tt })

some_denom : (n m : ℕ) → IsProper n m → 0 < m
some_denom n m proper = let less : n < m = proper.under in omega arith

pub part_further : (n k d x m a b : ℕ) → d ≡ n / 10 ^ k % 10 → x * 10 ^ k ≡ n % 10 ^ k * m → IsProper x m → a * (10 * m) ≡ (d * m + x) * b → a * 10 ^ (k + 1) ≡ n % 10 ^ (k + 1) * b
part_further n k d x m a b d_is part proper e =
    ap (λ t. a * t) (tens_more k) ∙ carried a b d x m (n % 10 ^ k) (10 ^ k) (some_denom x m proper) e part
    ∙ ap (λ t. t * b) (ap (λ t. t * 10 ^ k + n % 10 ^ k) d_is ∙ sym (rest_after n k))

pub part_fine : (n k places d x m : ℕ) → k + 1 ≤ places → d ≡ n / 10 ^ k % 10 → x * 10 ^ k ≡ n % 10 ^ k * m → IsProper x m → IsTooFine (d * m + x) (10 * m) → IsTooFine (n % 10 ^ places) (10 ^ places)
part_fine n k places d x m h d_is part proper fine = fine_further n (k + 1) places h here
  where
    here : IsTooFine (n % 10 ^ (k + 1)) (10 ^ (k + 1))
    here a b above e =
        fine a b above (uncarried a b d x m (n % 10 ^ k) (10 ^ k) (ten_pos k)
        (ap (λ t. a * t) (sym (tens_more k)) ∙ e ∙ ap (λ t. t * b) (rest_after n k ∙ ap (λ t. t * 10 ^ k + n % 10 ^ k) (sym d_is))) part)

-- Products and reciprocals of fractions by their parts.
use Rattle.std.proofs.Common.{◌≡◌, ◌≢◌, ℕ, zero, suc, ◌*◌, ◌/◌, ◌^◌, ◌<◌, ◌≤◌, pos, ◌*ℤ◌, neg_ℤ, nat_abs, Bool, true, false, not, Result, refl, sym, ◌∙◌, ap, ap₂, subst, arith}
use mathlib.Core.Bool.{beq}
use Rattle.std.proofs.Math.Nat.{mul-pos, div-mul_cancel}
use Rattle.rational.specs.Gcd.{gcd, IsCoprime}
use Rattle.rational.proofs.Gcd.{coprime_after, gcd_pos, gcd_left, gcd_right, coprime_comm, coprime_of_dvd, coprime-mul, quotient_divides}
use Rattle.rational.specs.Rational.{ℚ, ratio, whole, zero_ℚ, neg_ℚ, ◌*ℚ◌, flipped, inverse}
use Rattle.rational.specs.Width.{FitsWidth}
use Rattle.rational.proofs.Ring.{ring_ℤ, of_pos, ◌≐◌, ◌⊗◌, ⊝◌, 𝟘, 𝟙}
use Rattle.rational.proofs.RationalRing.{ring_ℚ, *ℚ_comm, *ℚ-one, whole-zero, whole-one}
use Rattle.rational.proofs.RationalRing.Parts.{IsOver, over_parts, over_ratio, over_same, over-*, over-neg, over-whole, equal_over}
use Rattle.exact_frac.specs.Parts.{signed, AreLowest, Splits}
use Rattle.exact_frac.specs.Exact.{Exact}
use Rattle.exact_frac.specs.declared.unfit.Unfit.{Unfit}
use Rattle.exact_frac.specs.Product.{product_size, product_denom}
use Rattle.exact_frac.proofs.Split.{nat_abs-signed}
use Rattle.exact_frac.proofs.Lowest.{over_split, fits_split, numerator-over, denominator-over, signed-*ℤ, quotient_pos}
use Rattle.rational.proofs.FieldLaws.{zero_from_numerator}

module _ (a b c d : ℕ) (some_b : 0 < b) (some_d : 0 < d) where
  first_pos : 0 < gcd a d
  first_pos = gcd_pos a d some_d

  second_pos : 0 < gcd c b
  second_pos = gcd_pos c b some_b

  pub product_denom_pos : 0 < product_denom a b c d
  product_denom_pos = mul-pos (quotient_pos (gcd c b) b second_pos some_b (gcd_right c b)) (quotient_pos (gcd a d) d first_pos some_d (gcd_right a d))

  pub product_coprime : IsCoprime a b → IsCoprime c d → IsCoprime (product_size a b c d) (product_denom a b c d)
  product_coprime left right =
      let a' = a / gcd a d in
      let b' = b / gcd c b in
      let c' = c / gcd c b in
      let d' = d / gcd a d in
      let ab : IsCoprime a' b' = coprime_of_dvd a b a' b' left (quotient_divides (gcd a d) a (gcd_left a d)) (quotient_divides (gcd c b) b (gcd_right c b)) in
      let cd : IsCoprime c' d' = coprime_of_dvd c d c' d' right (quotient_divides (gcd c b) c (gcd_left c b)) (quotient_divides (gcd a d) d (gcd_right a d)) in
      let ad : IsCoprime a' d' = coprime_after a d some_d in
      let cb : IsCoprime c' b' = coprime_after c b some_b in
      coprime_comm (b' * d') (a' * c') (coprime-mul (b' * d') a' c' (coprime_comm a' (b' * d') (coprime-mul a' b' d' ab ad)) (coprime_comm c' (b' * d') (coprime-mul c' b' d' cb cd)))

  regrouped : (a' b' c' d' g h : ℕ) → a' * c' * (b' * h * (d' * g)) ≡ a' * g * (c' * h) * (b' * d')
  regrouped a' b' c' d' g h =
      of_pos (ring_ℤ 6 (λ a b c d g h. a ⊗ c ⊗ (b ⊗ h ⊗ (d ⊗ g)) ≐ a ⊗ g ⊗ (c ⊗ h) ⊗ (b ⊗ d)) tt (pos a') (pos b') (pos c') (pos d') (pos g) (pos h))

  -- the reduced parts, crosswise with those that are not
  pub product_cross : product_size a b c d * (b * d) ≡ a * c * product_denom a b c d
  product_cross =
      let g = gcd a d in
      let h = gcd c b in
      ap₂ (λ x y. product_size a b c d * (x * y)) (sym (div-mul_cancel h (gcd_right c b))) (sym (div-mul_cancel g (gcd_right a d)))
      ∙ regrouped (a / g) (b / h) (c / h) (d / g) g h
      ∙ ap₂ (λ x y. x * y * product_denom a b c d) (div-mul_cancel g (gcd_left a d)) (div-mul_cancel h (gcd_left c b))

-- ---- the product with -1, 0 or 1

pub unit_is : (a : ℚ) (negative : Bool) (size denom : ℕ) → Splits a negative size denom → denom ≡ 1 → a ≡ whole (signed negative size)
unfolding whole
unit_is a negative size denom s e =
    equal_over (over_split a negative size denom s) (over-whole (signed negative size)) (ap (λ n. signed negative size *ℤ pos n) (sym e))

zero_signed : (negative : Bool) → signed negative 0 ≡ pos 0
zero_signed true = refl
zero_signed false = refl

pub by_zero : (a : ℚ) (negative : Bool) (size : ℕ) → size ≡ 0 → zero_ℚ ≡ a *ℚ whole (signed negative size)
by_zero a negative size e =
    ring_ℚ 1 (λ x. 𝟘 ≐ x ⊗ 𝟘) tt a ∙ ap (λ z. a *ℚ z) (sym whole-zero) ∙ ap (λ n. a *ℚ whole n) (sym (zero_signed negative) ∙ ap (signed negative) (sym e))

pub by_one : (a : ℚ) (size : ℕ) → size ≤ 1 → size ≢ 0 → a ≡ a *ℚ whole (pos size)
by_one a size most some =
    let one : size ≡ 1 = omega arith in
    sym (*ℚ-one a) ∙ ap (λ z. a *ℚ z) (sym whole-one) ∙ ap (λ n. a *ℚ whole (pos n)) (sym one)

minus_one : (a : ℚ) → neg_ℚ a ≡ a *ℚ whole (neg_ℤ (pos 1))
minus_one a =
    equal_over (over-neg (over_parts a)) (over-* (over_parts a) (over-whole (neg_ℤ (pos 1))))
    (ring_ℤ 2 (λ n d. ⊝ n ⊗ (d ⊗ 𝟙) ≐ n ⊗ ⊝ 𝟙 ⊗ d) tt a.numerator (pos a.denominator))

pub by_minus_one : (a : ℚ) (size : ℕ) → size ≤ 1 → size ≢ 0 → neg_ℚ a ≡ a *ℚ whole (neg_ℤ (pos size))
by_minus_one a size most some =
    let one : size ≡ 1 = omega arith in
    minus_one a ∙ ap (λ n. a *ℚ whole (neg_ℤ (pos n))) (sym one)

-- what is exact for the turned product
pub exact_turned : (a b c : ℚ) (w : ℕ) (r : Result ℚ Unfit) → c ≡ b *ℚ a → Exact w c r → Exact w (a *ℚ b) r
exact_turned a b c w r e h = subst (λ v. Exact w v r) (e ∙ *ℚ_comm b a) h

-- ---- the product of two fractions

signed-apart : (s t : Bool) (a b : ℕ) → signed (not (beq s t)) (a * b) ≡ signed s a *ℤ signed t b
signed-apart true true a b = ring_ℤ 2 (λ a b. a ⊗ b ≐ ⊝ a ⊗ ⊝ b) tt (pos a) (pos b)
signed-apart true false a b = ring_ℤ 2 (λ a b. ⊝ (a ⊗ b) ≐ ⊝ a ⊗ b) tt (pos a) (pos b)
signed-apart false true a b = ring_ℤ 2 (λ a b. ⊝ (a ⊗ b) ≐ a ⊗ ⊝ b) tt (pos a) (pos b)
signed-apart false false a b = refl

module _ (a b : ℚ) (s t : Bool) (x p y q : ℕ) (left : Splits a s x p) (right : Splits b t y q) where
  over_product : IsOver (a *ℚ b) (signed (not (beq s t)) (product_size x p y q)) (product_denom x p y q)
  over_product =
      let negative = not (beq s t) in
      let size = product_size x p y q in
      let denom = product_denom x p y q in
      over_same (over-* (over_split a s x p left) (over_split b t y q right)) (signed negative size) denom (product_denom_pos x p y q left.lowest.some right.lowest.some)
      (ap (λ z. z *ℤ pos denom) (sym (signed-apart s t x y)) ∙ signed-*ℤ negative (x * y) denom
      ∙ ap (signed negative) (sym (product_cross x p y q left.lowest.some right.lowest.some))
      ∙ sym (signed-*ℤ negative size (p * q)))

  lowest_product : IsCoprime (nat_abs (signed (not (beq s t)) (product_size x p y q))) (product_denom x p y q)
  lowest_product =
      ap (λ n. gcd n (product_denom x p y q)) (nat_abs-signed (not (beq s t)) (product_size x p y q))
      ∙ product_coprime x p y q left.lowest.some right.lowest.some left.lowest.coprime right.lowest.coprime

  pub product_unfit : ¬ ((product_size x p y q < 2 ^ 127) × (product_denom x p y q < 2 ^ 127)) → ¬ FitsWidth 127 (a *ℚ b)
  product_unfit none fits =
      let negative = not (beq s t) in
      let top : nat_abs (a *ℚ b).numerator ≡ product_size x p y q =
      ap nat_abs (numerator-over (a *ℚ b) (signed negative (product_size x p y q)) (product_denom x p y q) over_product lowest_product)
      ∙ nat_abs-signed negative (product_size x p y q) in
      let bottom = denominator-over (a *ℚ b) (signed negative (product_size x p y q)) (product_denom x p y q) over_product lowest_product in
      none (subst (λ n. n < 2 ^ 127) top fits.numerator_below, subst (λ n. n < 2 ^ 127) bottom fits.denominator_below)

  module _ (size denom : ℕ) (is : ((product_size x p y q < 2 ^ 127) × (product_denom x p y q < 2 ^ 127)) × (◌≡◌ {A = ℕ × ℕ} (size, denom) (product_size x p y q, product_denom x p y q))) where
    pub product_lowest : AreLowest size denom
    product_lowest =
        subst (λ r. AreLowest r.0 r.1) (sym is.1) (record {
          coprime = product_coprime x p y q left.lowest.some right.lowest.some left.lowest.coprime right.lowest.coprime;
          some = product_denom_pos x p y q left.lowest.some right.lowest.some;
          size_below = is.0.0;
          denom_below = is.0.1;
        })

    pub product_is : (r : ℚ) → Splits r (not (beq s t)) size denom → (r ≡ a *ℚ b) × FitsWidth 127 (a *ℚ b)
    product_is r h =
        let negative = not (beq s t) in
        let reduced : Splits r negative (product_size x p y q) (product_denom x p y q) = subst (λ n. Splits r negative n.0 n.1) is.1 h in
        let e : r ≡ a *ℚ b = equal_over (over_split r negative (product_size x p y q) (product_denom x p y q) reduced) over_product refl in
        (e, subst (FitsWidth 127) e (fits_split r (not (beq s t)) size denom h))

-- ---- the reciprocal

flipped-signed : (negative : Bool) (size denom : ℕ) → 0 < size → flipped (signed negative size) denom ≡ ratio (signed negative denom) size
unfolding flipped
flipped-signed negative zero denom some = absurd (omega arith)
flipped-signed true (suc n) denom some = refl
flipped-signed false (suc n) denom some = refl

module _ (a : ℚ) (negative : Bool) (size denom : ℕ) (s : Splits a negative size denom) (some : a ≢ zero_ℚ) where
  size_pos : 0 < size
  size_pos = from_apart (λ e. some (zero_from_numerator a (s.numerator ∙ ap (signed negative) e ∙ zero_signed negative)))
    where
      from_apart : size ≢ 0 → 0 < size
      from_apart n = omega arith

  pub inverted_lowest : AreLowest denom size
  inverted_lowest = record {
    coprime = coprime_comm size denom s.lowest.coprime;
    some = size_pos;
    size_below = s.lowest.denom_below;
    denom_below = s.lowest.size_below;
  }

  pub inverted_is : (r : ℚ) → Splits r negative denom size → r ≡ inverse a
  unfolding inverse
  inverted_is r h =
      equal_over (over_split r negative denom size h) (over_ratio (signed negative denom) size size_pos) refl
      ∙ sym (flipped-signed negative size denom size_pos)
      ∙ ap₂ flipped (sym s.numerator) (sym s.denominator)

-- The sum of two fractions: the floors, and what is left above them over the least common denominator, in lowest terms.
use Rattle.std.proofs.Common.{◌≡◌, ℕ, ◌+◌, ◌*◌, ◌/◌, ◌^◌, ◌<◌, ◌≤◌, ℤ, pos, ◌+ℤ◌, ◌*ℤ◌, nat_abs, Bool, sym, ◌∙◌, ap, ap₂, subst, arith}
use Rattle.std.specs.Int.{◌∣◌}
use Rattle.std.proofs.lemmas.Nat.Gcd.{dvd_trans, dvd_refl}
use Rattle.std.proofs.Math.Nat.{mul-pos, div-mul_cancel, dvd-add_iff_right, dvd-add_iff_left, dvd-mul_left_of_dvd, dvd-mul_right, mul-div_assoc, mul-le-mul_left, mul-le-mul_right, lt_of_mul-lt-mul_right, mul-lt-mul_of_pos_right, le_of_dvd}
use Rattle.rational.specs.Gcd.{gcd, IsCoprime}
use Rattle.rational.proofs.Gcd.{coprime_after, gcd_pos, dvd_of_coprime, gcd_left, gcd_right, coprime_comm, coprime_of_dvd, coprime-mul, quotient_divides, common_is_one}
use Rattle.rational.specs.Rational.{ℚ, ◌+ℚ◌}
use Rattle.rational.specs.Width.{FitsWidth}
use Rattle.rational.proofs.RationalRing.Parts.{IsOver, over_same, over-+}
use Rattle.rational.proofs.Ring.{ring_ℤ, of_pos, ◌≐◌, ◌⊙◌≗◌⟹◌, ◌⊕◌, ◌⊖◌, ◌⊗◌, ⊝◌, 𝟙}
use Rattle.exact_frac.specs.Parts.{signed, Splits}
use Rattle.exact_frac.proofs.Split.{nat_abs-signed}
use Rattle.exact_frac.proofs.Lowest.{over_split, numerator-over, denominator-over, quotient_pos}
use Rattle.exact_frac.proofs.Combination.{gcd-combination}

-- two denominators over their greatest common divisor
pub record OverCommon (a b g l r : ℕ) : Type 0 where
  pub some_a : 0 < a
  pub some_b : 0 < b
  pub common : g ≡ gcd a b
  pub left : l ≡ a / g
  pub right : r ≡ b / g

pub over_common : (a b g l r : ℕ) → 0 < a → 0 < b → g ≡ gcd a b → l ≡ a / g → r ≡ b / g → OverCommon a b g l r
over_common a b g l r some_a some_b common left right = record {
  some_a = some_a;
  some_b = some_b;
  common = common;
  left = left;
  right = right;
}

-- the same for the denominators of two fractions
pub over_parts_common : (u v : ℚ) (s w : Bool) (m n a b g l r : ℕ) → Splits u s m a → Splits v w n b
    → g ≡ gcd u.denominator v.denominator → l ≡ u.denominator / g → r ≡ v.denominator / g → OverCommon a b g l r
over_parts_common u v s w m n a b g l r left right common left_is right_is = record {
  some_a = left.lowest.some;
  some_b = right.lowest.some;
  common = common ∙ ap₂ gcd left.denominator right.denominator;
  left = left_is ∙ ap (λ k. k / g) left.denominator;
  right = right_is ∙ ap (λ k. k / g) right.denominator;
}

module _ (a b g l r : ℕ) (o : OverCommon a b g l r) where
  pub common_pos : 0 < g
  common_pos = subst (λ n. 0 < n) (sym o.common) (gcd_pos a b o.some_b)

  common_divides_a : g ∣ a
  common_divides_a = subst (λ n. n ∣ a) (sym o.common) (gcd_left a b)

  common_divides_b : g ∣ b
  common_divides_b = subst (λ n. n ∣ b) (sym o.common) (gcd_right a b)

  pub common_below : b < 2 ^ 127 → g < 2 ^ 127
  common_below h = let most : g ≤ b = le_of_dvd o.some_b common_divides_b in omega arith

  pub left_is : l * g ≡ a
  left_is = ap (λ n. n * g) o.left ∙ div-mul_cancel g common_divides_a

  pub right_is : r * g ≡ b
  right_is = ap (λ n. n * g) o.right ∙ div-mul_cancel g common_divides_b

  right_pos : 0 < r
  right_pos = subst (λ n. 0 < n) (sym o.right) (quotient_pos g b common_pos o.some_b common_divides_b)

  left_coprime : IsCoprime l r
  left_coprime =
      ap₂ gcd (o.left ∙ ap (λ n. a / n) o.common) (o.right ∙ ap (λ n. b / n) o.common) ∙ coprime_after a b o.some_b

  left_divides : l ∣ a
  left_divides = subst (λ n. l ∣ n) left_is (dvd-mul_right l g)

  right_divides : r ∣ b
  right_divides = subst (λ n. r ∣ n) right_is (dvd-mul_right r g)

-- numbers that leave the same rests by the denominators as the numerators do, over the least common denominator, and what these two share
pub record SumTerms (a b g l r x y h : ℕ) : Type 0 where
  pub over : OverCommon a b g l r
  pub shared : h ≡ gcd (x * r + y * l) g

pub sum_terms : (a b g l r x y h : ℕ) → OverCommon a b g l r → h ≡ gcd (x * r + y * l) g → SumTerms a b g l r x y h
sum_terms a b g l r x y h over shared = record { over = over; shared = shared }

module _ (a b g l r x y h : ℕ) (t : SumTerms a b g l r x y h) where
  pub shared_pos : 0 < h
  shared_pos = subst (λ n. 0 < n) (sym t.shared) (gcd_pos (x * r + y * l) g (common_pos a b g l r t.over))

  pub shared_divides : h ∣ x * r + y * l
  shared_divides = subst (λ n. n ∣ x * r + y * l) (sym t.shared) (gcd_left (x * r + y * l) g)

  shared_divides_g : h ∣ g
  shared_divides_g = subst (λ n. n ∣ g) (sym t.shared) (gcd_right (x * r + y * l) g)

  shared_divides_a : h ∣ a
  shared_divides_a = dvd_trans h shared_divides_g (common_divides_a a b g l r t.over)

  shared_most : h ≤ g
  shared_most = le_of_dvd (common_pos a b g l r t.over) shared_divides_g

  pub right_fits : b < 2 ^ 127 → r * h < 2 ^ 128
  right_fits p =
      let most : r * h ≤ r * g = mul-le-mul_left r shared_most in
      let is = right_is a b g l r t.over in
      omega arith

  pub left_fits : a < 2 ^ 127 → l * h < 2 ^ 128
  left_fits p =
      let most : l * h ≤ l * g = mul-le-mul_left l shared_most in
      let is = left_is a b g l r t.over in
      omega arith

  module _ (d : ℕ) (d_is : d ≡ a / h * r) where
    pub denom_pos : 0 < d
    denom_pos = subst (λ n. 0 < n) (sym d_is) (mul-pos (quotient_pos h a shared_pos t.over.some_a shared_divides_a) (right_pos a b g l r t.over))

    denom-shared : d * h ≡ a * r
    denom-shared =
        ap (λ n. n * h) d_is
        ∙ of_pos (ring_ℤ 3 (λ q r s. q ⊗ r ⊗ s ≐ q ⊗ s ⊗ r) tt (pos (a / h)) (pos r) (pos h))
        ∙ ap (λ n. n * r) (div-mul_cancel h shared_divides_a)

    crosswise : b * l ≡ a * r
    crosswise =
        of_pos (ring_ℤ 5 (λ a b g l r. ⊝ l ⊙ r ⊗ g ≗ b ⟹ r ⊙ l ⊗ g ≗ a ⟹ b ⊗ l ≐ a ⊗ r) tt (pos a) (pos b) (pos g) (pos l) (pos r)
        (ap pos (right_is a b g l r t.over)) (ap pos (left_is a b g l r t.over)))

    pub part_below : x < a → y < b → (x * r + y * l) / h < 2 * d
    part_below x_below y_below =
        let first : x * r < a * r = mul-lt-mul_of_pos_right x_below (right_pos a b g l r t.over) in
        let second : y * l ≤ b * l = mul-le-mul_right l (below y b y_below) in
        let whole : (x * r + y * l) / h * h ≡ x * r + y * l = div-mul_cancel h shared_divides in
        let same = crosswise in
        let bottom = denom-shared in
        let all : (x * r + y * l) / h * h < 2 * d * h = omega arith in
        lt_of_mul-lt-mul_right h all
      where
        below : (m n : ℕ) → m < n → m ≤ n
        below m n p = omega arith

    -- ---- lowest terms

    total_left : IsCoprime x a → IsCoprime (x * r + y * l) l
    total_left coprime =
        let e = gcd (x * r + y * l) l in
        let in_l : e ∣ l = gcd_right (x * r + y * l) l in
        let in_product : e ∣ x * r = (dvd-add_iff_left e (dvd-mul_left_of_dvd e in_l y)).1 (gcd_left (x * r + y * l) l) in
        let apart : IsCoprime x e = coprime_of_dvd x a x e coprime (dvd_refl x) (dvd_trans e in_l (left_divides a b g l r t.over)) in
        common_is_one l r e (left_coprime a b g l r t.over) in_l (dvd_of_coprime e x r (coprime_comm x e apart) in_product)

    total_right : IsCoprime y b → IsCoprime (x * r + y * l) r
    total_right coprime =
        let e = gcd (x * r + y * l) r in
        let in_r : e ∣ r = gcd_right (x * r + y * l) r in
        let in_product : e ∣ y * l = (dvd-add_iff_right e (dvd-mul_left_of_dvd e in_r x)).1 (gcd_left (x * r + y * l) r) in
        let apart : IsCoprime y e = coprime_of_dvd y b y e coprime (dvd_refl y) (dvd_trans e in_r (right_divides a b g l r t.over)) in
        common_is_one l r e (left_coprime a b g l r t.over) (dvd_of_coprime e y l (coprime_comm y e apart) in_product) in_r

    pub denom_factors : d ≡ l * (g / h) * r
    denom_factors = d_is ∙ ap (λ n. n * r) (ap (λ n. n / h) (sym (left_is a b g l r t.over)) ∙ mul-div_assoc h l shared_divides_g)

    part_coprime : IsCoprime x a → IsCoprime y b → IsCoprime ((x * r + y * l) / h) d
    part_coprime left right =
        let total = x * r + y * l in
        let p = total / h in
        let divides : p ∣ total = quotient_divides h total shared_divides in
        let with_l : IsCoprime p l = coprime_of_dvd total l p l (total_left left) divides (dvd_refl l) in
        let with_r : IsCoprime p r = coprime_of_dvd total r p r (total_right right) divides (dvd_refl r) in
        let with_rest : IsCoprime p (g / h) =
        ap₂ (λ m n. gcd (total / m) (g / n)) t.shared t.shared ∙ coprime_after total g (common_pos a b g l r t.over) in
        ap (gcd p) denom_factors ∙ coprime-mul p (l * (g / h)) r (coprime-mul p l (g / h) with_l with_rest) with_r

    -- ---- the sum

    part_cross : (p : ℕ) → p ≡ (x * r + y * l) / h → (x * b + y * a) * d ≡ p * (a * b)
    part_cross p p_is =
        let whole : p * h ≡ x * r + y * l = ap (λ n. n * h) p_is ∙ div-mul_cancel h shared_divides in
        of_pos (ring_ℤ 10
        (λ x y a b d p h g r l.
        ⊝ (d ⊗ g) ⊙ p ⊗ h ≗ x ⊗ r ⊕ y ⊗ l ⟹ p ⊗ g ⊙ d ⊗ h ≗ a ⊗ r ⟹ (p ⊗ a ⊖ x ⊗ d) ⊙ r ⊗ g ≗ b ⟹ ⊝ (y ⊗ d) ⊙ l ⊗ g ≗ a
        ⟹ (x ⊗ b ⊕ y ⊗ a) ⊗ d ≐ p ⊗ (a ⊗ b)) tt
        (pos x) (pos y) (pos a) (pos b) (pos d) (pos p) (pos h) (pos g) (pos r) (pos l)
        (ap pos whole) (ap pos denom-shared) (ap pos (right_is a b g l r t.over)) (ap pos (left_is a b g l r t.over)))

    module _ (u v : ℚ) (s w : Bool) (m n : ℕ) (fa fb : ℤ) (left : Splits u s m a) (right : Splits v w n b)
        (whole_a : signed s m ≡ fa *ℤ pos a +ℤ pos x) (whole_b : signed w n ≡ fb *ℤ pos b +ℤ pos y) (p : ℕ) (p_is : p ≡ (x * r + y * l) / h) where
      abbrev top : ℤ
      top = (fa +ℤ fb) *ℤ pos d +ℤ pos p

      x_coprime : IsCoprime x a
      x_coprime = sym (gcd-combination a x fa) ∙ (ap (λ z. gcd (nat_abs z) a) (sym whole_a) ∙ ap (λ k. gcd k a) (nat_abs-signed s m) ∙ left.lowest.coprime)

      y_coprime : IsCoprime y b
      y_coprime = sym (gcd-combination b y fb) ∙ (ap (λ z. gcd (nat_abs z) b) (sym whole_b) ∙ ap (λ k. gcd k b) (nat_abs-signed w n) ∙ right.lowest.coprime)

      top_coprime : IsCoprime (nat_abs top) d
      top_coprime = gcd-combination d p (fa +ℤ fb) ∙ (ap (λ k. gcd k d) p_is ∙ part_coprime x_coprime y_coprime)

      over_sum : IsOver (u +ℚ v) top d
      over_sum =
          over_same (over-+ (over_split u s m a left) (over_split v w n b right)) top d denom_pos
          (ring_ℤ 10
          (λ P Q a b d f k x y p.
          b ⊗ d ⊙ P ≗ f ⊗ a ⊕ x ⟹ a ⊗ d ⊙ Q ≗ k ⊗ b ⊕ y ⟹ 𝟙 ⊙ (x ⊗ b ⊕ y ⊗ a) ⊗ d ≗ p ⊗ (a ⊗ b)
          ⟹ (P ⊗ b ⊕ Q ⊗ a) ⊗ d ≐ ((f ⊕ k) ⊗ d ⊕ p) ⊗ (a ⊗ b)) tt
          (signed s m) (signed w n) (pos a) (pos b) (pos d) fa fb (pos x) (pos y) (pos p)
          whole_a whole_b (ap pos (part_cross p p_is)))

      pub unfit_denom : ¬ (d < 2 ^ 127) → ¬ FitsWidth 127 (u +ℚ v)
      unfit_denom wide fits =
          wide (subst (λ k. k < 2 ^ 127) (denominator-over (u +ℚ v) top d over_sum top_coprime) fits.denominator_below)

      pub unfit_top : (z : ℤ) → z ≡ top → 2 ^ 127 ≤ nat_abs z → ¬ FitsWidth 127 (u +ℚ v)
      unfit_top z z_is wide fits =
          let below : nat_abs z < 2 ^ 127 = subst (λ k. nat_abs k < 2 ^ 127) (numerator-over (u +ℚ v) top d over_sum top_coprime ∙ sym z_is) fits.numerator_below in
          omega arith

      pub sum_splits : (z : ℤ) → z ≡ top → (negative : Bool) (size : ℕ) → signed negative size ≡ z → size < 2 ^ 127 → d < 2 ^ 127 → Splits (u +ℚ v) negative size d
      sum_splits z z_is negative size is size_below denom_below = record {
        numerator = numerator-over (u +ℚ v) top d over_sum top_coprime ∙ sym (is ∙ z_is);
        denominator = denominator-over (u +ℚ v) top d over_sum top_coprime;
        lowest = record {
          coprime = ap (λ k. gcd k d) (sym (nat_abs-signed negative size) ∙ ap nat_abs (is ∙ z_is)) ∙ top_coprime;
          some = denom_pos;
          size_below = size_below;
          denom_below = denom_below;
        };
      }

-- The sum of two fractions by the products of each numerator with what the other's denominator does not share: with g the greatest common
-- divisor of the denominators a = l * g and b = r * g, and h that of the total and g, it is total / h over l * r * (g / h).
use Rattle.std.proofs.Common.{◌≡◌, ℕ, ◌+◌, ◌-◌, ◌*◌, ◌/◌, ◌^◌, ◌<◌, ◌≤◌, ℤ, pos, ◌+ℤ◌, ◌*ℤ◌, neg_ℤ, nat_abs, Bool, true, false, int_lt, refl, sym, ◌∙◌, ap, ap₂, subst, arith}
use Rattle.std.proofs.Math.Nat.{div-mul_cancel, le-mul_of_pos_right, mul_right_comm}
use Rattle.rational.specs.Gcd.{gcd}
use Rattle.rational.proofs.Gcd.{gcd_pos, gcd_left, gcd_right}
use Rattle.rational.proofs.Integer.{*ℤ-cancel}
use Rattle.rational.specs.Rational.{ℚ, ◌+ℚ◌}
use Rattle.rational.specs.Width.{FitsWidth}
use Rattle.rational.proofs.Ring.{ring_ℤ, ◌≐◌, ◌⊙◌≗◌⟹◌, ◌⊕◌, ◌⊗◌, ⊝◌, 𝟘, 𝟙}
use Rattle.exact_frac.specs.Parts.{signed, Splits}
use Rattle.exact_frac.proofs.Split.{nat_abs-signed, signed-nat_abs}
use Rattle.exact_frac.proofs.Lowest.{signed-*ℤ, quotient_pos}
use Rattle.exact_frac.proofs.Floors.{from_wide}
use Rattle.exact_frac.proofs.Combination.{gcd-combination}
use Rattle.exact_frac.proofs.Sums.{OverCommon, SumTerms, sum_terms, common_pos, left_is, right_is, shared_divides, denom_factors, unfit_denom, unfit_top, sum_splits}

-- ---- a natural number with the same rest by a as a numerator

abbrev floor_of : Bool → ℕ → ℤ
floor_of true m = neg_ℤ (pos m)
floor_of false m = pos 0

abbrev rest_of : Bool → ℕ → ℕ → ℕ
rest_of true m a = m * (a - 1)
rest_of false m a = m

whole_of : (s : Bool) (m a : ℕ) → 0 < a → signed s m ≡ floor_of s m *ℤ pos a +ℤ pos (rest_of s m a)
whole_of true m a some =
    let less : a - 1 + 1 ≡ a = omega arith in
    ring_ℤ 3 (λ m a k. ⊝ m ⊙ k ⊕ 𝟙 ≗ a ⟹ ⊝ m ≐ ⊝ m ⊗ a ⊕ m ⊗ k) tt (pos m) (pos a) (pos (a - 1)) (ap pos less)
whole_of false m a some = ring_ℤ 2 (λ m a. m ≐ 𝟘 ⊗ a ⊕ m) tt (pos m) (pos a)

module _ (u v : ℚ) (s w : Bool) (m n a b g l r : ℕ) (left : Splits u s m a) (right : Splits v w n b) (o : OverCommon a b g l r) where
  abbrev x : ℕ
  x = rest_of s m a

  abbrev y : ℕ
  y = rest_of w n b

  abbrev floors : ℤ
  floors = floor_of s m +ℤ floor_of w n

  abbrev numerators : ℤ
  numerators = signed s m *ℤ pos r +ℤ signed w n *ℤ pos l

  whole_a : signed s m ≡ floor_of s m *ℤ pos a +ℤ pos x
  whole_a = whole_of s m a o.some_a

  whole_b : signed w n ≡ floor_of w n *ℤ pos b +ℤ pos y
  whole_b = whole_of w n b o.some_b

  -- the numerators' total and x * r + y * l leave the same rest by g
  rests : numerators ≡ floors *ℤ pos (l * r) *ℤ pos g +ℤ pos (x * r + y * l)
  rests =
      ring_ℤ 11
      (λ X Y f k a b g l r x y.
      r ⊙ X ≗ f ⊗ a ⊕ x ⟹ l ⊙ Y ≗ k ⊗ b ⊕ y ⟹ ⊝ (f ⊗ r) ⊙ l ⊗ g ≗ a ⟹ ⊝ (k ⊗ l) ⊙ r ⊗ g ≗ b
      ⟹ X ⊗ r ⊕ Y ⊗ l ≐ (f ⊕ k) ⊗ (l ⊗ r) ⊗ g ⊕ (x ⊗ r ⊕ y ⊗ l)) tt
      (signed s m) (signed w n) (floor_of s m) (floor_of w n) (pos a) (pos b) (pos g) (pos l) (pos r) (pos x) (pos y)
      whole_a whole_b (ap pos (left_is a b g l r o)) (ap pos (right_is a b g l r o))

  module _ (negative : Bool) (total : ℕ) (is : signed negative total ≡ numerators) where
    abbrev h : ℕ
    h = gcd total g

    abbrev part : ℕ
    part = (x * r + y * l) / h

    shared : h ≡ gcd (x * r + y * l) g
    shared =
        ap (λ k. gcd k g) (sym (nat_abs-signed negative total) ∙ ap nat_abs (is ∙ rests))
        ∙ gcd-combination g (x * r + y * l) (floors *ℤ pos (l * r))

    terms : SumTerms a b g l r x y h
    terms = sum_terms a b g l r x y h o shared

    h_pos : 0 < h
    h_pos = gcd_pos total g (common_pos a b g l r o)

    denom_is : l * r * (g / h) ≡ a / h * r
    denom_is = mul_right_comm l r (g / h) ∙ sym (denom_factors a b g l r x y h terms (a / h * r) refl)

    abbrev top : ℤ
    top = floors *ℤ pos (l * r * (g / h)) +ℤ pos part

    total_is : numerators ≡ top *ℤ pos h
    total_is =
        ring_ℤ 9
        (λ N f l r g h q p t.
        𝟙 ⊙ N ≗ f ⊗ (l ⊗ r) ⊗ g ⊕ t ⟹ ⊝ 𝟙 ⊙ p ⊗ h ≗ t ⟹ ⊝ (f ⊗ l ⊗ r) ⊙ q ⊗ h ≗ g ⟹ N ≐ (f ⊗ (l ⊗ r ⊗ q) ⊕ p) ⊗ h) tt
        numerators floors (pos l) (pos r) (pos g) (pos h) (pos (g / h)) (pos part) (pos (x * r + y * l))
        rests (ap pos (div-mul_cancel h (shared_divides a b g l r x y h terms))) (ap pos (div-mul_cancel h (gcd_right total g)))

    size_is : signed negative (total / h) ≡ top
    size_is =
        *ℤ-cancel (signed negative (total / h)) top h h_pos
        (signed-*ℤ negative (total / h) h ∙ ap (signed negative) (div-mul_cancel h (gcd_left total g)) ∙ is ∙ total_is)

    wide_denom : ¬ (l * r * (g / h) < 2 ^ 127) → ¬ FitsWidth 127 (u +ℚ v)
    wide_denom =
        unfit_denom a b g l r x y h terms (l * r * (g / h)) denom_is u v s w m n (floor_of s m) (floor_of w n) left right whole_a whole_b part refl

    wide_size : ¬ (total / h < 2 ^ 127) → ¬ FitsWidth 127 (u +ℚ v)
    wide_size wide =
        let size = ap nat_abs (sym size_is) ∙ nat_abs-signed negative (total / h) in
        unfit_top a b g l r x y h terms (l * r * (g / h)) denom_is u v s w m n (floor_of s m) (floor_of w n) left right whole_a whole_b part refl
        top refl (subst (λ k. 2 ^ 127 ≤ k) (sym size) (from_wide (total / h) wide))

    total_splits : total / h < 2 ^ 127 → l * r * (g / h) < 2 ^ 127 → Splits (u +ℚ v) negative (total / h) (l * r * (g / h))
    total_splits size_below denom_below =
        sum_splits a b g l r x y h terms (l * r * (g / h)) denom_is u v s w m n (floor_of s m) (floor_of w n) left right whole_a whole_b part refl
        top refl negative (total / h) size_is size_below denom_below

    -- the same at the values that the code has
    module _ (e k q z : ℕ) (e_is : e ≡ gcd total g) (k_is : k ≡ l * r) (q_is : q ≡ g / e) (z_is : z ≡ total / e) where
      denom_seen : k * q ≡ l * r * (g / h)
      denom_seen = ap₂ ◌*◌ k_is (q_is ∙ ap (λ n. g / n) e_is)

      size_seen : z ≡ total / h
      size_seen = z_is ∙ ap (λ n. total / n) e_is

      pub seen_wide_denom : ¬ (k * q < 2 ^ 127) → ¬ FitsWidth 127 (u +ℚ v)
      seen_wide_denom wide = wide_denom (λ below. wide (subst (λ n. n < 2 ^ 127) (sym denom_seen) below))

      pub seen_wide_size : ¬ (z < 2 ^ 127) → ¬ FitsWidth 127 (u +ℚ v)
      seen_wide_size wide = wide_size (λ below. wide (subst (λ n. n < 2 ^ 127) (sym size_seen) below))

      pub seen_splits : (size denom : ℕ) → (z < 2 ^ 127) × (size ≡ z) → (k * q < 2 ^ 127) × (denom ≡ k * q) → Splits (u +ℚ v) negative size denom
      seen_splits size denom top_is bottom_is =
          let top : size ≡ total / h = top_is.1 ∙ size_seen in
          let bottom : denom ≡ l * r * (g / h) = bottom_is.1 ∙ denom_seen in
          subst (λ n. Splits (u +ℚ v) negative n denom) (sym top)
          (subst (λ n. Splits (u +ℚ v) negative (total / h) n) (sym bottom)
          (total_splits (subst (λ n. n < 2 ^ 127) size_seen top_is.0) (subst (λ n. n < 2 ^ 127) denom_seen bottom_is.0)))

    factor_most : l * r ≤ l * r * (g / h)
    factor_most = le-mul_of_pos_right (l * r) (quotient_pos h g h_pos (common_pos a b g l r o) (gcd_right total g))

  -- what each denominator does not share with the other is in the sum's
  pub wide_factor : ¬ (l * r < 2 ^ 127) → ¬ FitsWidth 127 (u +ℚ v)
  wide_factor wide =
      let most = factor_most (int_lt numerators (pos 0)) (nat_abs numerators) (signed-nat_abs numerators) in
      wide_denom (int_lt numerators (pos 0)) (nat_abs numerators) (signed-nat_abs numerators) (λ below. wide (under _ _ most below))
    where
      under : (i j : ℕ) → i ≤ j → j < 2 ^ 127 → i < 2 ^ 127
      under i j p q = omega arith

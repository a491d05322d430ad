-- The order of products, which the linear solver lacks.
use Rattle.std.proofs.Common.{◌≡◌, ◌*◌, ◌<◌, mul-pos, ℤ, pos, negsuc, ◌*ℤ◌, ◌≤ℤ◌, ◌<ℤ◌, arith}
use Rattle.std.proofs.lemmas.Int.{ints}
use Rattle.rational.specs.Rational.{ℚ, zero_ℚ, neg_ℚ, ◌-ℚ◌, ◌*ℚ◌, inverse, ◌≤ℚ◌, ◌<ℚ◌}
use Rattle.rational.proofs.Ratio.{positive}
use Rattle.rational.proofs.Ring.{⊝◌, ◌≐◌, ◌⊗◌, ◌⊖◌, 𝟘, 𝟙}
use Rattle.rational.proofs.RationalRing.{ring_ℚ}
use Rattle.rational.proofs.RationalRing.Parts.{over_parts, over-*, zero_over}
use Rattle.rational.proofs.FieldLaws.{*ℚ-inverse}
use Rattle.rational.proofs.OrderLaws.{by_lt_ℚ}
use Rattle.rational.proofs.Linear.{linear, ◌≼◌, ◌≺◌, ◌≐◌, ◌⟹◌, never}
use Rattle.rational.proofs.Linear.Transfer.{le_to, le_from, lt_to, lt_from}

nonnegative : (m n : ℤ) → pos 0 ≤ℤ m → pos 0 ≤ℤ n → pos 0 ≤ℤ (m *ℤ n)
nonnegative (pos m) (pos n) p q = omega (arith, ints)
nonnegative (pos m) (negsuc n) p q = absurd q.le
nonnegative (negsuc m) n p q = absurd p.le

pub *ℚ_nonnegative : (a b : ℚ) → zero_ℚ ≤ℚ a → zero_ℚ ≤ℚ b → zero_ℚ ≤ℚ a *ℚ b
*ℚ_nonnegative a b p q =
    let m = le_from (zero_over a.denominator (positive a)) (over_parts a) p in
    let n = le_from (zero_over b.denominator (positive b)) (over_parts b) q in
    let product = over-* (over_parts a) (over_parts b) in
    le_to (zero_over _ product.some) product (nonnegative a.numerator b.numerator m n)

-- a product with what is not negative keeps the order
pub *ℚ_mono : (k a b : ℚ) → zero_ℚ ≤ℚ k → a ≤ℚ b → k *ℚ a ≤ℚ k *ℚ b
*ℚ_mono k a b p q =
    let more : zero_ℚ ≤ℚ b -ℚ a = linear 2 (λ x y. x ≼ y ⟹ 𝟘 ≼ y ⊖ x) (omega (arith, ints)) a b q in
    let product : zero_ℚ ≤ℚ k *ℚ (b -ℚ a) = *ℚ_nonnegative k (b -ℚ a) p more in
    linear 3 (λ s u v. 𝟘 ≼ s ⟹ s ≐ v ⊖ u ⟹ u ≼ v) (omega (arith, ints)) (k *ℚ (b -ℚ a)) (k *ℚ a) (k *ℚ b)
    product (ring_ℚ 3 (λ k a b. k ⊗ (b ⊖ a) ≐ k ⊗ b ⊖ k ⊗ a) tt k a b)

positive_product : (m n : ℤ) → pos 0 <ℤ m → pos 0 <ℤ n → pos 0 <ℤ (m *ℤ n)
positive_product (pos m) (pos n) p q = let more : 0 < m * n = mul-pos (omega (arith, ints)) (omega (arith, ints)) in omega (arith, ints)
positive_product (pos m) (negsuc n) p q = absurd q.lt
positive_product (negsuc m) n p q = absurd p.lt

pub *ℚ_positive : (a b : ℚ) → zero_ℚ <ℚ a → zero_ℚ <ℚ b → zero_ℚ <ℚ a *ℚ b
*ℚ_positive a b p q =
    let m = lt_from (zero_over a.denominator (positive a)) (over_parts a) p in
    let n = lt_from (zero_over b.denominator (positive b)) (over_parts b) q in
    let product = over-* (over_parts a) (over_parts b) in
    lt_to (zero_over _ product.some) product (positive_product a.numerator b.numerator m n)

-- a product with what is positive keeps the strict order
pub *ℚ_strict_mono : (k a b : ℚ) → zero_ℚ <ℚ k → a <ℚ b → k *ℚ a <ℚ k *ℚ b
*ℚ_strict_mono k a b p q =
    let more : zero_ℚ <ℚ b -ℚ a = linear 2 (λ x y. x ≺ y ⟹ 𝟘 ≺ y ⊖ x) (omega (arith, ints)) a b q in
    linear 3 (λ s u v. 𝟘 ≺ s ⟹ s ≐ v ⊖ u ⟹ u ≺ v) (omega (arith, ints)) (k *ℚ (b -ℚ a)) (k *ℚ a) (k *ℚ b)
    (*ℚ_positive k (b -ℚ a) p more) (ring_ℚ 3 (λ k a b. k ⊗ (b ⊖ a) ≐ k ⊗ b ⊖ k ⊗ a) tt k a b)

-- a product with what is not above 0 turns the order
pub product-turned : (c a b : ℚ) → c ≤ℚ zero_ℚ → a ≤ℚ b → c *ℚ b ≤ℚ c *ℚ a
product-turned c a b sign order =
    linear 4 (λ p p' n n'. n' ≼ n ⟹ n ≐ ⊝ p ⟹ n' ≐ ⊝ p' ⟹ p ≼ p') (omega (arith, ints)) (c *ℚ b) (c *ℚ a) (neg_ℚ c *ℚ b) (neg_ℚ c *ℚ a)
    (*ℚ_mono (neg_ℚ c) a b (linear 1 (λ c. c ≼ 𝟘 ⟹ 𝟘 ≼ ⊝ c) (omega (arith, ints)) c sign) order)
    (ring_ℚ 2 (λ c x. (⊝ c) ⊗ x ≐ ⊝ (c ⊗ x)) tt c b) (ring_ℚ 2 (λ c x. (⊝ c) ⊗ x ≐ ⊝ (c ⊗ x)) tt c a)

-- and what is positive may be taken away from both sides
pub *ℚ_cancel_le : (k a b : ℚ) → zero_ℚ <ℚ k → k *ℚ a ≤ℚ k *ℚ b → a ≤ℚ b
*ℚ_cancel_le k a b p q =
    by_lt_ℚ b a
    (λ h. absurd (linear 2 (λ u v. u ≼ v ⟹ v ≺ u ⟹ never) (omega (arith, ints)) (k *ℚ a) (k *ℚ b) q (*ℚ_strict_mono k b a p h)))
    (λ h. h)

pub inverse_positive : (a : ℚ) → zero_ℚ <ℚ a → zero_ℚ <ℚ inverse a
inverse_positive a p =
    let apart : ¬ (a ≡ zero_ℚ) = linear 1 (λ x. 𝟘 ≺ x ⟹ x ≐ 𝟘 ⟹ never) (omega (arith, ints)) a p in
    by_lt_ℚ zero_ℚ (inverse a) (λ h. h)
    (λ h. absurd (linear 2 (λ u v. u ≼ v ⟹ v ≐ 𝟘 ⟹ u ≐ 𝟙 ⟹ never) (omega (arith, ints)) (a *ℚ inverse a) (a *ℚ zero_ℚ)
    (*ℚ_mono a (inverse a) zero_ℚ (linear 1 (λ x. 𝟘 ≺ x ⟹ 𝟘 ≼ x) (omega (arith, ints)) a p) h)
    (ring_ℚ 1 (λ x. x ⊗ 𝟘 ≐ 𝟘) tt a) (*ℚ-inverse a apart)))

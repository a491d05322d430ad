-- The order of two products, and products by halves.
use Rattle.std.proofs.Common.{◌≡◌, ◌≢◌, ℕ, ◌+◌, ◌*◌, ◌^◌, pos, ◌<◌, ◌∙◌, ap, ap₂, arith}
use Rattle.std.specs.declared.cmp.Ordering.{Ordering}
use Rattle.std.specs.declared.cmp.Ordering.TheVariants.{Less, Equal, Greater}
use Rattle.std.specs.Ordering.{MatchOrdering, nat_cmp}
use Rattle.std.specs.Cmp.{ranks, one_rank}
use Rattle.std.proofs.Math.Nat.{mul-lt-mul_of_pos_right}
use Rattle.rational.proofs.Ring.{ring_ℤ, of_pos, ◌≐◌, ◌⊙◌≗◌⟹◌, ◌⊕◌, ◌⊗◌, 𝟙}

ranks_as : (r : Ordering) {P Q R S T U : Type 0} → MatchOrdering r P Q R → (P → S) → (Q → T) → (R → U) → MatchOrdering r S T U
ranks_as Less h f g k = f h
ranks_as Equal h f g k = g h
ranks_as Greater h f g k = k h

-- pairs that stand alike compare alike
same_rank : (x y u v : ℕ) → (x < y → u < v) → (x ≡ y → u ≡ v) → (y < x → v < u) → nat_cmp x y ≡ nat_cmp u v
same_rank x y u v f g k =
    one_rank ◌<◌ (λ (n : ℕ) (h : n < n). irrefl n h) (λ (l m n : ℕ) (p : l < m) (q : m < n). chain l m n p q) u v (nat_cmp x y) (nat_cmp u v)
    (ranks_as (nat_cmp x y) (ranks x y) f g k) (ranks u v)
  where
    irrefl : (n : ℕ) → n < n → ⊥
    irrefl n h = omega arith

    chain : (l m n : ℕ) → l < m → m < n → l < n
    chain l m n p q = omega arith

pub cmp_scaled : (a c d : ℕ) → 0 < d → nat_cmp a c ≡ nat_cmp (a * d) (c * d)
cmp_scaled a c d some =
    same_rank a c (a * d) (c * d) (λ h. mul-lt-mul_of_pos_right h some) (λ e. ap (λ n. n * d) e) (λ h. mul-lt-mul_of_pos_right h some)

cmp-add : (k x y : ℕ) → nat_cmp x y ≡ nat_cmp (k + x) (k + y)
cmp-add k x y = same_rank x y (k + x) (k + y) (λ h. omega arith) (λ e. omega arith) (λ h. omega arith)

-- ---- halves of 128 bits

module _ (h i l k x y : ℕ) (left : h * 2 ^ 128 + l ≡ x) (right : i * 2 ^ 128 + k ≡ y) where
  pub cmp_low : h ≡ i → nat_cmp l k ≡ nat_cmp x y
  cmp_low same =
      cmp-add (h * 2 ^ 128) l k ∙ ap₂ nat_cmp left (ap (λ n. n * 2 ^ 128 + k) same ∙ right)

  pub cmp_high : h ≢ i → l < 2 ^ 128 → k < 2 ^ 128 → nat_cmp h i ≡ nat_cmp x y
  cmp_high apart l_below k_below = same_rank h i x y (λ p. omega arith) (λ e. absurd (apart e)) (λ p. omega arith)

-- ---- a product of two words by two, with the carries that the code has

pub product_by_words : (w a b c d first carry middle carry' second carry'' third fourth : ℕ)
    → first + carry * w ≡ b * d + 0 → middle + carry' * w ≡ a * d + carry → second + carry'' * w ≡ b * c + middle
    → third + fourth * w ≡ a * c + carry' + carry''
    → (fourth * w + third) * (w * w) + (second * w + first) ≡ (w * a + b) * (w * c + d)
product_by_words w a b c d first carry middle carry' second carry'' third fourth e f g h =
    of_pos (ring_ℤ 13
    (λ w a b c d p x m y q z r s.
    𝟙 ⊙ p ⊕ x ⊗ w ≗ b ⊗ d ⟹ w ⊙ m ⊕ y ⊗ w ≗ a ⊗ d ⊕ x ⟹ w ⊙ q ⊕ z ⊗ w ≗ b ⊗ c ⊕ m ⟹ w ⊗ w ⊙ r ⊕ s ⊗ w ≗ a ⊗ c ⊕ y ⊕ z
    ⟹ (s ⊗ w ⊕ r) ⊗ (w ⊗ w) ⊕ (q ⊗ w ⊕ p) ≐ (w ⊗ a ⊕ b) ⊗ (w ⊗ c ⊕ d)) tt
    (pos w) (pos a) (pos b) (pos c) (pos d) (pos first) (pos carry) (pos middle) (pos carry') (pos second) (pos carry'') (pos third) (pos fourth)
    (ap pos (e ∙ omega arith)) (ap pos f) (ap pos g) (ap pos h))

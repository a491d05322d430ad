-- The fractions are a field: what is not 0 has an inverse.
use Rattle.std.proofs.Common.{◌≡◌, ◌≢◌, ℕ, zero, suc, ◌<◌, ℤ, pos, negsuc, ◌*ℤ◌, neg_ℤ, refl, ◌∙◌, ap, arith}
use Rattle.rational.specs.Rational.{ℚ, zero_ℚ, one_ℚ, flipped, inverse, ◌-ℚ◌, ◌*ℚ◌, ◌/ℚ◌}
use Rattle.rational.proofs.Ratio.{positive}
use Rattle.rational.proofs.RationalRing.{ring_ℚ, *ℚ_comm}
use Rattle.rational.proofs.RationalRing.Parts.{IsOver, over_parts, over_ratio, over-zero, over-one, over-*, equal_over}
use Rattle.rational.proofs.Ring.{ring_ℤ, ◌≐◌, ◌⊙◌≗◌⟹◌, ◌⊖◌, ◌⊗◌, ⊝◌, 𝟘, 𝟙}

pub numerator-zero_ℚ : zero_ℚ.numerator ≡ pos 0
unfolding zero_ℚ
numerator-zero_ℚ = refl

-- a fraction with numerator 0 is 0
pub zero_from_numerator : (a : ℚ) → a.numerator ≡ pos 0 → a ≡ zero_ℚ
zero_from_numerator a e =
    equal_over (over_parts a) over-zero (ap (λ z. z *ℤ pos 1) e ∙ ring_ℤ 1 (λ d. 𝟘 ⊗ 𝟙 ≐ 𝟘 ⊗ d) tt (pos a.denominator))

-- the inverse of p over q is q over p, with the sign in the numerator
over_flipped : (a : ℚ) (p : ℤ) (q : ℕ) → 0 < q → IsOver a p q → (p ≢ pos 0) → a *ℚ flipped p q ≡ one_ℚ
unfolding flipped
over_flipped a (pos zero) q some o other = absurd (other refl)
over_flipped a (pos (suc p)) q some o other =
    equal_over (over-* o (over_ratio (pos q) (suc p) (omega arith))) over-one
    (ring_ℤ 2 (λ p q. p ⊗ q ⊗ 𝟙 ≐ 𝟙 ⊗ (q ⊗ p)) tt (pos (suc p)) (pos q))
over_flipped a (negsuc p) q some o other =
    equal_over (over-* o (over_ratio (neg_ℤ (pos q)) (suc p) (omega arith))) over-one
    (ring_ℤ 2 (λ p q. (⊝ p) ⊗ (⊝ q) ⊗ 𝟙 ≐ 𝟙 ⊗ (q ⊗ p)) tt (pos (suc p)) (pos q))

pub *ℚ-inverse : (a : ℚ) → a ≢ zero_ℚ → a *ℚ inverse a ≡ one_ℚ
unfolding inverse
*ℚ-inverse a other =
    over_flipped a a.numerator a.denominator (positive a) (over_parts a) (λ e. other (zero_from_numerator a e))

pub /ℚ_is : (a b : ℚ) → a /ℚ b ≡ a *ℚ inverse b
unfolding ◌/ℚ◌
/ℚ_is a b = refl

-- a quotient times its divisor
pub /ℚ-*ℚ : (a b : ℚ) → b ≢ zero_ℚ → (a /ℚ b) *ℚ b ≡ a
/ℚ-*ℚ a b other =
    ap (λ q. q *ℚ b) (/ℚ_is a b)
    ∙ ring_ℚ 3 (λ a b i. a ⊙ b ⊗ i ≗ 𝟙 ⟹ a ⊗ i ⊗ b ≐ a) tt a b (inverse b) (*ℚ-inverse b other)

-- a divisor times its quotient
pub *ℚ-/ℚ : (a b : ℚ) → b ≢ zero_ℚ → b *ℚ (a /ℚ b) ≡ a
*ℚ-/ℚ a b other = *ℚ_comm b (a /ℚ b) ∙ /ℚ-*ℚ a b other

-- what is not 0 times what is not 0 is not 0
pub *ℚ_nonzero : (a b : ℚ) → a ≢ zero_ℚ → b *ℚ a ≡ zero_ℚ → b ≡ zero_ℚ
*ℚ_nonzero a b other e =
    ring_ℚ 3 (λ a b i. ⊝ b ⊙ a ⊗ i ≗ 𝟙 ⟹ i ⊙ b ⊗ a ≗ 𝟘 ⟹ b ≐ 𝟘) tt a b (inverse a) (*ℚ-inverse a other) e

pub zero_from_equal : (a b : ℚ) → a ≡ b → a -ℚ b ≡ zero_ℚ
zero_from_equal a b e = ap (λ c. c -ℚ b) e ∙ ring_ℚ 1 (λ a. a ⊖ a ≐ 𝟘) tt b

pub equal_from_zero : (a b : ℚ) → a -ℚ b ≡ zero_ℚ → a ≡ b
equal_from_zero a b e = ring_ℚ 2 (λ a b. 𝟙 ⊙ a ⊖ b ≗ 𝟘 ⟹ a ≐ b) tt a b e

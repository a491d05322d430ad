-- The number 0, by its numerator.
use Rattle.std.proofs.Common.{◌≡◌, ℕ, ℤ, pos, negsuc, IsTrue, nat_eq, ◌↔◌, Result, sym, ◌∙◌, ap, subst, arith, eq-eqb}
use borrow.Author.Tests.{eqb-true}
use Rattle.std.specs.Int.{w128, cast_unsigned}
use Rattle.std.proofs.lemmas.Int.{ints}
use Rattle.rational.specs.Rational.{ℚ, ratio, zero_ℚ, ◌+ℚ◌}
use Rattle.rational.proofs.FieldLaws.{numerator-zero_ℚ, zero_from_numerator}
use Rattle.rational.proofs.Ratio.{numerator-ratio}
use Rattle.rational.proofs.Ring.{◌≐◌, ◌⊕◌, 𝟘}
use Rattle.rational.proofs.RationalRing.{ring_ℚ}
use Rattle.exact_frac.specs.declared.unfit.Unfit.{Unfit}
use Rattle.exact_frac.specs.Exact.{Exact}
use Rattle.exact_frac.specs.Parts.{FitsLowest}

by_bits : (p : ℤ) (q : ℕ) → FitsLowest p q → (cast_unsigned w128 p ≡ 0) ↔ (p ≡ pos 0)
by_bits (pos n) q h = (λ e. ap pos e, λ e. omega (arith, ints))
by_bits (negsuc n) q h = let below = h.numerator_below in (λ e. absurd (omega arith), λ e. absurd (omega (arith, ints)))

-- the test of the numerator's bits
pub zero_test : (p : ℤ) (q : ℕ) (a : ℚ) → FitsLowest p q → ratio p q ≡ a → IsTrue (nat_eq (cast_unsigned w128 p) 0) ↔ (a ≡ zero_ℚ)
zero_test p q a h e =
    let top : a.numerator ≡ p = ap (λ (b : ℚ). b.numerator) (sym e) ∙ numerator-ratio p q h.lowest in (
      λ t. zero_from_numerator a (top ∙ (by_bits p q h).0 (eqb-true _ _ t)),
      λ z. eq-eqb _ _ ((by_bits p q h).1 (sym top ∙ ap (λ (b : ℚ). b.numerator) z ∙ numerator-zero_ℚ)),
    )

-- ---- sums with 0

pub zero_added : (a b : ℚ) (r : Result ℚ Unfit) → a ≡ zero_ℚ → Exact 127 b r → Exact 127 (a +ℚ b) r
zero_added a b r e h = subst (λ v. Exact 127 v r) (ring_ℚ 1 (λ x. x ≐ 𝟘 ⊕ x) tt b ∙ ap (λ z. z +ℚ b) (sym e)) h

pub added_zero : (a b : ℚ) (r : Result ℚ Unfit) → b ≡ zero_ℚ → Exact 127 a r → Exact 127 (a +ℚ b) r
added_zero a b r e h = subst (λ v. Exact 127 v r) (ring_ℚ 1 (λ x. x ≐ x ⊕ 𝟘) tt a ∙ ap (λ z. a +ℚ z) (sym e)) h

-- The linear solver: a fact on fractions that is linear in them follows from the same fact on integers, which `omega` proves.
--     linear n (λ x y .. . h ⟹ .. ⟹ fact) (omega (arith, ints)) a b .. p ..
-- proves `fact` at x = a, y = b, .. from the proofs p, .. of h, ..
-- Finitely many fractions are integers over one number d above 0, and d times a linear fact is a fact on those integers.
-- `docs/SOLVERS.md` says more.
pub mod Facts
pub mod Transfer
pub mod Denominator
use Rattle.std.proofs.Common.{◌≡◌, ℕ, zero, suc, ◌<◌, Bool, true, false, ◌↔◌, T, ℤ, pos, refl, sym, subst, arith}
use Rattle.std.proofs.lemmas.Int.{ints}
use mathlib.Core.Path.{fun_ext}
use Rattle.rational.specs.Rational.{ℚ, zero_ℚ, one_ℚ, whole, ◌+ℚ◌, ◌-ℚ◌, ◌*ℚ◌, neg_ℚ, ◌≤ℚ◌, ◌<ℚ◌}
use Rattle.rational.proofs.Ring.{◌⊕◌, ◌⊖◌, ◌⊗◌, ⊝◌, 𝟘, 𝟙, literal}
use Rattle.rational.proofs.Ring.Expressions.{variable}
use Rattle.rational.proofs.Ring.Values.{rest, with_first}
use Rattle.rational.proofs.RationalRing.Parts.{IsOver}
use Facts.{Where, is_linear, is_linear_fact, is_linear_over, Holds, HoldsScaled, ForFractions, ForIntegers}
pub use Facts.{Fact, FactOver, OfIntegers, ◌≼◌, ◌≺◌, ◌≐◌, ◌⟹◌, never}
use Transfer.{le_to, le_from, lt_to, lt_from, eq_to, eq_from}
use Denominator.{Common, none_common, one_more_common, both_parts, scaled_over}

-- ---- a fact holds of fractions exactly where d times it holds of integers

module _ (ρ : ℕ → ℚ) (ν : ℕ → ℤ) (d : ℕ) (some : 0 < d) (over : (i : ℕ) → IsOver (ρ i) (ν i) d) where
  transfer : (fact : Fact) → T (is_linear_fact fact) → HoldsScaled d ν fact ↔ Holds ρ fact
  transfer (l ≼ r) t =
      let each = both_parts (is_linear l) (is_linear r) t in
      let o = scaled_over ρ ν d some over l each.0 in
      let u = scaled_over ρ ν d some over r each.1 in
      (le_to o u, le_from o u)
  transfer (l ≺ r) t =
      let each = both_parts (is_linear l) (is_linear r) t in
      let o = scaled_over ρ ν d some over l each.0 in
      let u = scaled_over ρ ν d some over r each.1 in
      (lt_to o u, lt_from o u)
  transfer (l ≐ r) t =
      let each = both_parts (is_linear l) (is_linear r) t in
      let o = scaled_over ρ ν d some over l each.0 in
      let u = scaled_over ρ ν d some over r each.1 in
      (eq_to o u, eq_from o u)
  transfer (a ⟹ b) t =
      let each = both_parts (is_linear_fact a) (is_linear_fact b) t in
      let first = transfer a each.0 in
      let second = transfer b each.1 in
      (λ f h. second.0 (f (first.1 h)), λ f h. second.1 (f (first.0 h)))
  transfer never t = (λ h. h, λ h. h)

-- ---- the solver

-- a function of numbers is its first value before the rest
same_first : (ν : ℕ → ℤ) → with_first (ν 0) (rest ν) ≡ ν
same_first ν = fun_ext (elim [ zero ↦ refl | suc i ↦ refl ])

for_fractions : (n : ℕ) (f : FactOver n) → T (is_linear_over n f) → (ρ : ℕ → ℚ) → Common ρ
    → ((d : ℕ) (ν : ℕ → ℤ) → 0 < d → ((i : ℕ) → IsOver (ρ i) (ν i) d) → ForIntegers n d ν f)
    → ForFractions n ρ f
for_fractions zero fact t ρ c h = (transfer ρ c.numerators c.number c.some c.over fact t).0 (h c.number c.numerators c.some c.over)
for_fractions (suc n) f t ρ c h = λ a.
    for_fractions n (f (variable n)) t (with_first a ρ) (one_more_common c a)
    (λ d ν some over. subst (λ (μ : ℕ → ℤ). ForIntegers n d μ (f (variable n))) (same_first ν) (h d (rest ν) some (λ i. over (suc i)) (ν 0)))

-- the variables that are not used are all 0
zeros : (ν : ℕ → ℤ) (d : ℕ) → 0 < d → ((i : ℕ) → IsOver zero_ℚ (ν i) d) → (λ (i : ℕ). pos 0) ≡ ν
zeros ν d some over = fun_ext (λ i. eq_from (scaled_over (λ i. zero_ℚ) ν d some over 𝟘 tt) (over i) refl)

where_linear : (n : ℕ) (f : FactOver n) (linear : Bool) → is_linear_over n f ≡ linear
    → Where linear ((d : ℕ) → 0 < d → ForIntegers n d (λ i. pos 0) f) → ForFractions n (λ i. zero_ℚ) f
where_linear n f true e h =
    for_fractions n f (subst T (sym e) tt) (λ i. zero_ℚ) none_common
    (λ d ν some over. subst (λ (μ : ℕ → ℤ). ForIntegers n d μ f) (zeros ν d some over) (h d some))
where_linear n f false e h = elim h [ ]

pub linear : (n : ℕ) (f : FactOver n) → OfIntegers n f → ForFractions n (λ i. zero_ℚ) f
linear n f h = where_linear n f (is_linear_over n f) refl h

-- ---- how to use it

line₁ : (a b c : ℚ) → a +ℚ b ≤ℚ c → c ≤ℚ a → b ≤ℚ zero_ℚ
line₁ a b c p q = linear 3 (λ x y z. x ⊕ y ≼ z ⟹ z ≼ x ⟹ y ≼ 𝟘) (omega (arith, ints)) a b c p q

line₂ : (a b : ℚ) → a <ℚ b → a +ℚ one_ℚ <ℚ b +ℚ one_ℚ
line₂ a b p = linear 2 (λ x y. x ≺ y ⟹ x ⊕ 𝟙 ≺ y ⊕ 𝟙) (omega (arith, ints)) a b p

line₃ : (a b : ℚ) → a ≤ℚ b → b ≤ℚ a → a ≡ b
line₃ a b p q = linear 2 (λ x y. x ≼ y ⟹ y ≼ x ⟹ x ≐ y) (omega (arith, ints)) a b p q

line₄ : (a b : ℚ) → whole (pos 2) *ℚ a ≤ℚ b -ℚ whole (pos 3) → b <ℚ a +ℚ one_ℚ → a <ℚ neg_ℚ (whole (pos 2))
line₄ a b p q = linear 2 (λ x y. literal (pos 2) ⊗ x ≼ y ⊖ literal (pos 3) ⟹ y ≺ x ⊕ 𝟙 ⟹ x ≺ ⊝ literal (pos 2)) (omega (arith, ints)) a b p q

line₅ : (a b : ℚ) → a <ℚ b → b ≤ℚ a → ⊥
line₅ a b p q = linear 2 (λ x y. x ≺ y ⟹ y ≼ x ⟹ never) (omega (arith, ints)) a b p q

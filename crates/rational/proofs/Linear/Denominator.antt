-- Finitely many fractions over one number, and the value of a linear expression over it.
use Rattle.std.proofs.Common.{ℕ, zero, suc, ◌*◌, ◌<◌, Bool, true, false, ◌&&◌, T, ℤ, pos, ◌+ℤ◌, ◌-ℤ◌, ◌*ℤ◌, mul-pos, arith}
use Rattle.rational.specs.Rational.{ℚ, zero_ℚ, whole, ◌+ℚ◌, ◌-ℚ◌, ◌*ℚ◌}
use Rattle.rational.proofs.Ring.{ring_ℤ, ◌≐◌, ◌⊕◌, ◌⊖◌, ◌⊗◌, ⊝◌, 𝟘, 𝟙, literal}
use Rattle.rational.proofs.Ring.Expressions.{Expression, variable}
use Rattle.rational.proofs.Ring.Values.{with_first, eval}
use Rattle.rational.proofs.RationalRing.{rationals}
use Rattle.rational.proofs.RationalRing.Parts.{IsOver, over_parts, over_same, over-whole, over-zero, over-one, over-+, over--, over-*, over-neg}
use Rattle.rational.proofs.Linear.Facts.{is_linear, scaled}

-- every variable is its numerator over one number
pub record Common (ρ : ℕ → ℚ) : Type 0 where
  pub number : ℕ
  pub some : 0 < number
  pub numerators : ℕ → ℤ
  pub over : (i : ℕ) → IsOver (ρ i) (numerators i) number

pub none_common : Common (λ i. zero_ℚ)
none_common = record { number = 1; some = omega arith; numerators = λ i. pos 0; over = λ i. over-zero }

-- with one more, the number is multiplied by its denominator
pub one_more_common : {ρ : ℕ → ℚ} → Common ρ → (a : ℚ) → Common (with_first a ρ)
one_more_common {ρ} c a =
    let q = a.denominator in
    let d = c.number in
    let first = over_parts a in
    let some = mul-pos c.some first.some in
    let times : ℤ → ℤ = λ z. z *ℤ pos q in
    record {
      number = d * q;
      some = some;
      numerators = with_first (a.numerator *ℤ pos d) (λ i. c.numerators i *ℤ pos q);
      over = elim [
        | zero ↦ over_same first _ (d * q) some (ring_ℤ 3 (λ p d q. p ⊗ (d ⊗ q) ≐ p ⊗ d ⊗ q) tt a.numerator (pos d) (pos q))
        | suc i ↦ over_same (c.over i) _ (d * q) some (ring_ℤ 3 (λ p d q. p ⊗ (d ⊗ q) ≐ p ⊗ q ⊗ d) tt (c.numerators i) (pos d) (pos q))
      ];
    }

-- ---- the value of a linear expression

sum_over : {a b : ℚ} {m n : ℤ} {d : ℕ} → IsOver a m d → IsOver b n d → IsOver (a +ℚ b) (m +ℤ n) d
sum_over {a} {b} {m} {n} {d} o u = over_same (over-+ o u) (m +ℤ n) d o.some (ring_ℤ 3 (λ m n d. (m ⊗ d ⊕ n ⊗ d) ⊗ d ≐ (m ⊕ n) ⊗ (d ⊗ d)) tt m n (pos d))

difference_over : {a b : ℚ} {m n : ℤ} {d : ℕ} → IsOver a m d → IsOver b n d → IsOver (a -ℚ b) (m -ℤ n) d
difference_over {a} {b} {m} {n} {d} o u = over_same (over-- o u) (m -ℤ n) d o.some (ring_ℤ 3 (λ m n d. (m ⊗ d ⊕ ⊝ n ⊗ d) ⊗ d ≐ (m ⊖ n) ⊗ (d ⊗ d)) tt m n (pos d))

integer_over : (z : ℤ) (d : ℕ) → 0 < d → IsOver (whole z) (z *ℤ pos d) d
integer_over z d some = over_same (over-whole z) (z *ℤ pos d) d some (ring_ℤ 2 (λ z d. z ⊗ d ≐ z ⊗ d ⊗ 𝟙) tt z (pos d))

multiple_over : (z : ℤ) {a : ℚ} {m : ℤ} {d : ℕ} → IsOver a m d → IsOver (whole z *ℚ a) (z *ℤ m) d
multiple_over z {a} {m} {d} o = over_same (over-* (over-whole z) o) (z *ℤ m) d o.some (ring_ℤ 3 (λ z m d. z ⊗ m ⊗ d ≐ z ⊗ m ⊗ (𝟙 ⊗ d)) tt z m (pos d))

pub both_parts : (a b : Bool) → T (a && b) → T a × T b
both_parts true true t = (tt, tt)
both_parts true false t = absurd t
both_parts false b t = absurd t

module _ (ρ : ℕ → ℚ) (ν : ℕ → ℤ) (d : ℕ) (some : 0 < d) (over : (i : ℕ) → IsOver (ρ i) (ν i) d) where
  pub scaled_over : (e : Expression) → T (is_linear e) → IsOver (eval rationals ρ e) (scaled d ν e) d
  scaled_over (variable n) t = over n
  scaled_over (literal z) t = integer_over z d some
  scaled_over 𝟘 t = over_same over-zero (pos 0) d some (ring_ℤ 1 (λ d. 𝟘 ⊗ d ≐ 𝟘 ⊗ 𝟙) tt (pos d))
  scaled_over 𝟙 t = over_same over-one (pos d) d some (ring_ℤ 1 (λ d. 𝟙 ⊗ d ≐ d ⊗ 𝟙) tt (pos d))
  scaled_over (x ⊕ y) t = let each = both_parts (is_linear x) (is_linear y) t in sum_over (scaled_over x each.0) (scaled_over y each.1)
  scaled_over (x ⊖ y) t = let each = both_parts (is_linear x) (is_linear y) t in difference_over (scaled_over x each.0) (scaled_over y each.1)
  scaled_over (literal z ⊗ y) t = multiple_over z (scaled_over y t)
  scaled_over (x ⊗ y) t = absurd t
  scaled_over (⊝ x) t = over-neg (scaled_over x t)

-- Floors, and an integer made of a floor and of what is left above it.
use Rattle.std.proofs.Common.{◌≡◌, ℕ, zero, suc, ◌+◌, ◌-◌, ◌*◌, ◌/◌, ◌%◌, ◌^◌, ◌<◌, ◌≤◌, ℤ, pos, negsuc, ◌+ℤ◌, ◌-ℤ◌, ◌*ℤ◌, neg_ℤ, nat_abs, Bool, true, lit<, sym, ◌∙◌, ap, ap₂, subst, arith}
use Rattle.std.specs.Int.{w128, cast_signed, cast_unsigned}
use Rattle.std.proofs.lemmas.Int.{ints, to_z-of_z}
use Rattle.std.proofs.Math.Nat.{div-add-mod, mod-lt, div-le_self, le-mul_of_pos_right}
use mir.Val.{SFits}
use Rattle.rational.proofs.Ring.{ring_ℤ, ◌≐◌, ◌⊙◌≗◌⟹◌, ◌⊕◌, ◌⊖◌, ◌⊗◌, ⊝◌, 𝟙}
use Rattle.exact_frac.specs.Parts.{signed}
use Rattle.exact_frac.specs.Floor.{IsFloor}

-- ---- the floor below 0 of a fraction that is no integer

floor_below : (size denom w r : ℕ) → denom * w + r ≡ size → r < denom → neg_ℤ (pos size) ≡ (neg_ℤ (pos w) -ℤ pos 1) *ℤ pos denom +ℤ pos (denom - r)
floor_below size denom w r e below =
    let left : denom - r + r ≡ denom = omega arith in
    ring_ℤ 5 (λ s d w r l. 𝟙 ⊙ d ⊗ w ⊕ r ≗ s ⟹ ⊝ 𝟙 ⊙ l ⊕ r ≗ d ⟹ ⊝ s ≐ (⊝ w ⊖ 𝟙) ⊗ d ⊕ l) tt
    (pos size) (pos denom) (pos w) (pos r) (pos (denom - r)) (ap pos e) (ap pos left)

pub below_is : (negative : Bool) (size denom w r : ℕ) → negative ≡ true → size < 2 ^ 127 → 0 < denom → w ≡ size / denom → r ≡ size % denom → 0 < r
    → IsFloor (signed negative size) denom (cast_signed w128 (cast_unsigned w128 (cast_signed w128 (cast_unsigned w128 (pos 0 -ℤ cast_signed w128 w)) -ℤ pos 1))) (denom - r)
below_is negative size denom w r is below some w_is r_is more =
    let smaller : size / denom ≤ size = div-le_self size denom in
    let in_bits : w < 2 ^ 127 = omega arith in
    let floor : cast_signed w128 (cast_unsigned w128 (cast_signed w128 (cast_unsigned w128 (pos 0 -ℤ cast_signed w128 w)) -ℤ pos 1)) ≡ neg_ℤ (pos w) -ℤ pos 1 = omega (arith, ints) in
    let rest : r < denom = subst (λ n. n < denom) (sym r_is) (mod-lt size some) in
    record {
      whole = ap (λ b. signed b size) is
          ∙ floor_below size denom w r (ap₂ (λ x y. denom * x + y) w_is r_is ∙ div-add-mod size denom) rest
          ∙ ap (λ f. f *ℤ pos denom +ℤ pos (denom - r)) (sym floor);
      part_below = omega arith;
    }

-- ---- floor * denom + part

pub from_wide : (n : ℕ) → ¬ (n < 2 ^ 127) → 2 ^ 127 ≤ n
from_wide n h = omega arith

-- a floor that does not fit 128 bits makes a number of more than 127 bits
wide_floor : (floor : ℤ) (denom part : ℕ) → 0 < denom → part < 2 * denom → ¬ SFits w128 floor → 2 ^ 127 ≤ nat_abs (floor *ℤ pos denom +ℤ pos part)
wide_floor (pos f) denom part some below wide =
    let more : f ≤ f * denom = le-mul_of_pos_right f some in
    let high : 2 ^ 127 ≤ f = from_wide f (λ h. wide (record { sfits = h })) in
    omega arith
wide_floor (negsuc zero) denom part some below wide = absurd (wide (record { sfits = lit< tt }))
wide_floor (negsuc (suc e)) denom part some below wide =
    let more : e ≤ e * denom = le-mul_of_pos_right e some in
    let high : 2 ^ 127 ≤ suc e = from_wide (suc e) (λ h. wide (record { sfits = h })) in
    apart (suc (suc e) * denom) part (omega arith)
  where
    apart : (m n : ℕ) → n + 2 ^ 127 ≤ m → 2 ^ 127 ≤ nat_abs (neg_ℤ (pos m) +ℤ pos n)
    apart m n h = omega (arith, ints)

-- a sum of floors, as the code reads them
pub seen : (l r : ℤ) → SFits w128 l → SFits w128 r → cast_signed w128 (cast_unsigned w128 l) +ℤ cast_signed w128 (cast_unsigned w128 r) ≡ l +ℤ r
seen l r fits_l fits_r = ap₂ ◌+ℤ◌ (to_z-of_z w128 l fits_l) (to_z-of_z w128 r fits_r)

pub joined_seen : (l r : ℤ) (denom part : ℕ) → SFits w128 l → SFits w128 r
    → (cast_signed w128 (cast_unsigned w128 l) +ℤ cast_signed w128 (cast_unsigned w128 r)) *ℤ pos denom +ℤ pos part ≡ (l +ℤ r) *ℤ pos denom +ℤ pos part
joined_seen l r denom part fits_l fits_r = ap (λ z. z *ℤ pos denom +ℤ pos part) (seen l r fits_l fits_r)

module _ (l r : ℤ) (denom part : ℕ) (fits_l : SFits w128 l) (fits_r : SFits w128 r) where
  pub wide_sum : part < 2 * denom → ¬ SFits w128 (cast_signed w128 (cast_unsigned w128 l) +ℤ cast_signed w128 (cast_unsigned w128 r)) → 2 ^ 127 ≤ nat_abs ((l +ℤ r) *ℤ pos denom +ℤ pos part)
  wide_sum below wide = wide_floor (l +ℤ r) denom part (omega arith) below (λ h. wide (subst (SFits w128) (sym (seen l r fits_l fits_r)) h))

  module _ (f : ℤ) (is : SFits w128 (cast_signed w128 (cast_unsigned w128 l) +ℤ cast_signed w128 (cast_unsigned w128 r))
      × (f ≡ cast_signed w128 (cast_unsigned w128 l) +ℤ cast_signed w128 (cast_unsigned w128 r))) where
    fits_f : SFits w128 f
    fits_f = subst (SFits w128) (sym is.1) is.0

    f_is : cast_signed w128 (cast_unsigned w128 f) ≡ l +ℤ r
    f_is = to_z-of_z w128 f fits_f ∙ is.1 ∙ seen l r fits_l fits_r

    pub carried : (f' : ℤ) → SFits w128 (cast_signed w128 (cast_unsigned w128 f) +ℤ pos 1) × (f' ≡ cast_signed w128 (cast_unsigned w128 f) +ℤ pos 1) → denom ≤ part
        → cast_signed w128 (cast_unsigned w128 f') *ℤ pos denom +ℤ pos (part - denom) ≡ (l +ℤ r) *ℤ pos denom +ℤ pos part
    carried f' next more =
        let fits : SFits w128 f' = subst (SFits w128) (sym next.1) next.0 in
        let f'_is : cast_signed w128 (cast_unsigned w128 f') ≡ (l +ℤ r) +ℤ pos 1 = to_z-of_z w128 f' fits ∙ next.1 ∙ ap (λ z. z +ℤ pos 1) f_is in
        let left : part - denom + denom ≡ part = omega arith in
        ap (λ z. z *ℤ pos denom +ℤ pos (part - denom)) f'_is
        ∙ ring_ℤ 4 (λ s d p l. 𝟙 ⊙ l ⊕ d ≗ p ⟹ (s ⊕ 𝟙) ⊗ d ⊕ l ≐ s ⊗ d ⊕ p) tt (l +ℤ r) (pos denom) (pos part) (pos (part - denom)) (ap pos left)

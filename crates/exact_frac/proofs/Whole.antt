-- Integers as fractions.
use Rattle.std.proofs.Common.{◌≡◌, ℕ, ◌^◌, ◌<◌, ◌≤◌, ℤ, pos, negsuc, ◌+ℤ◌, ◌*ℤ◌, nat_abs, int_le, true, T, Option, Some, None, SomeIff, lit<, sym, ◌∙◌, ap, ap₂, subst, arith}
use Rattle.std.specs.Int.{w128, cast_signed, cast_unsigned}
use Rattle.std.proofs.lemmas.Int.{to_z-of_z, fits_signed_mul}
use Rattle.std.proofs.lemmas.Bool.{leb-true}
use mir.Val.{SFits}
use Rattle.rational.specs.Rational.{ℚ, ratio, whole, ◌+ℚ◌, ◌*ℚ◌}
use Rattle.rational.specs.Width.{FitsWidth}
use Rattle.rational.proofs.Ratio.{lowest_from, numerator-ratio, denominator-ratio}
use Rattle.rational.specs.Gcd.{is_lowest}
use Rattle.rational.proofs.RationalRing.{whole-+ℚ, whole-*ℚ}
use Rattle.exact_frac.specs.Parts.{FitsLowest}
use Rattle.exact_frac.proofs.Split.{bits_back}
use Rattle.exact_frac.proofs.Scaled.{gcd-one}
use Rattle.exact_frac.proofs.Floors.{from_wide}

whole_lowest : (p : ℤ) → T (is_lowest p 1)
whole_lowest p = lowest_from p 1 (sym (gcd-one (nat_abs p))) (omega arith)

fits_whole : (p : ℤ) → nat_abs p < 2 ^ 127 → FitsLowest p 1
fits_whole p below = record { lowest = whole_lowest p; numerator_below = below; denominator_below = lit< tt }

width_whole : (p : ℤ) → nat_abs p < 2 ^ 127 → FitsWidth 127 (whole p)
unfolding whole
width_whole p below = record {
  numerator_below = subst (λ z. nat_abs z < 2 ^ 127) (sym (numerator-ratio p 1 (whole_lowest p))) below;
  denominator_below = subst (λ n. n < 2 ^ 127) (sym (denominator-ratio p 1 (whole_lowest p))) (lit< tt);
}

unfit_whole : (p : ℤ) → 2 ^ 127 ≤ nat_abs p → ¬ FitsWidth 127 (whole p)
unfolding whole
unfit_whole p wide fits =
    let below : nat_abs p < 2 ^ 127 = subst (λ z. nat_abs z < 2 ^ 127) (numerator-ratio p 1 (whole_lowest p)) fits.numerator_below in
    omega arith

-- a fraction with denominator 1
pub whole_seen : (p : ℤ) (q : ℕ) (a : ℚ) → q ≡ 1 → ratio p q ≡ a → a ≡ whole p
unfolding whole
whole_seen p q a e view = sym view ∙ ap (ratio p) e

-- ---- the sum of two integers, as the code has it

wide_by_bits : (p : ℤ) → ¬ SFits w128 p → 2 ^ 127 ≤ nat_abs p
wide_by_bits (pos n) wide = from_wide n (λ h. wide (record { sfits = h }))
wide_by_bits (negsuc n) wide = let high : 2 ^ 127 ≤ n = from_wide n (λ h. wide (record { sfits = h })) in omega arith

-- ---- an integer that is there where it fits 128 bits

pub settled_none : (o : Option ℤ) → o ≡ None → (v : ℤ) → SomeIff o (SFits w128 v) v → ¬ FitsWidth 127 (whole v)
settled_none o e v h = unfit_whole v (wide_by_bits v (subst (λ r. SomeIff r (SFits w128 v) v) e h))

module _ (o : Option ℤ) (z : ℤ) (size : ℕ) (e : o ≡ Some z) (size_is : size ≡ nat_abs (cast_signed w128 (cast_unsigned w128 z))) where
  bits_are : (v : ℤ) → SomeIff o (SFits w128 v) v → cast_signed w128 (cast_unsigned w128 z) ≡ v
  bits_are v h =
      let is : SFits w128 v × (z ≡ v) = subst (λ r. SomeIff r (SFits w128 v) v) e h in
      to_z-of_z w128 z (subst (SFits w128) (sym is.1) is.0) ∙ is.1

  pub settled_fits : size < 2 ^ 127 → FitsLowest (cast_signed w128 (cast_unsigned w128 z)) 1
  settled_fits below = fits_whole (cast_signed w128 (cast_unsigned w128 z)) (subst (λ n. n < 2 ^ 127) size_is below)

  pub settled_is : size < 2 ^ 127 → (v : ℤ) → SomeIff o (SFits w128 v) v → (ratio (cast_signed w128 (cast_unsigned w128 z)) 1 ≡ whole v) × FitsWidth 127 (whole v)
  unfolding whole
  settled_is below v h = (ap (λ p. ratio p 1) (bits_are v h), width_whole v (subst (λ n. n < 2 ^ 127) (size_is ∙ ap nat_abs (bits_are v h)) below))

  pub settled_wide : 2 ^ 127 ≤ size → (v : ℤ) → SomeIff o (SFits w128 v) v → ¬ FitsWidth 127 (whole v)
  settled_wide wide v h = unfit_whole v (subst (λ n. 2 ^ 127 ≤ n) (size_is ∙ ap nat_abs (bits_are v h)) wide)

-- ---- the product of two integers of 64 bits

within_64 : (z : ℤ) → int_le (negsuc 9223372036854775807) z ≡ true → int_le z (pos 9223372036854775807) ≡ true → nat_abs z ≤ 2 ^ 63
within_64 (pos n) low high = omega (arith, leb-true n 9223372036854775807 high)
within_64 (negsuc n) low high = omega (arith, leb-true n 9223372036854775807 low)

pub small_by_tests : (z : ℤ) → SFits w128 z → int_le (negsuc 9223372036854775807) (cast_signed w128 (cast_unsigned w128 z)) ≡ true
    → int_le (cast_signed w128 (cast_unsigned w128 z)) (pos 9223372036854775807) ≡ true → nat_abs z ≤ 2 ^ 63
small_by_tests z fits low high =
    within_64 z (subst (λ y. int_le (negsuc 9223372036854775807) y ≡ true) (to_z-of_z w128 z fits) low)
    (subst (λ y. int_le y (pos 9223372036854775807) ≡ true) (to_z-of_z w128 z fits) high)

pub small_product : (a b : ℤ) → SFits w128 a → SFits w128 b → nat_abs a ≤ 2 ^ 63 → nat_abs b ≤ 2 ^ 63
    → SFits w128 (a *ℤ b) × (cast_signed w128 (cast_unsigned w128 (cast_signed w128 (cast_unsigned w128 a) *ℤ cast_signed w128 (cast_unsigned w128 b))) ≡ a *ℤ b)
small_product a b fits_a fits_b small_a small_b =
    let fits : SFits w128 (a *ℤ b) = fits_signed_mul w128 a b (2 ^ 63) (2 ^ 63) small_a small_b (lit< tt) in (
      fits,
      ap₂ (λ y z. cast_signed w128 (cast_unsigned w128 (y *ℤ z))) (to_z-of_z w128 a fits_a) (to_z-of_z w128 b fits_b) ∙ to_z-of_z w128 (a *ℤ b) fits,
    )

-- ---- fractions with denominator 1

module _ (p q : ℤ) (d e : ℕ) (a b : ℚ) (fits_p : FitsLowest p d) (fits_q : FitsLowest q e) (d_is : d ≡ 1) (e_is : e ≡ 1) (view_a : ratio p d ≡ a) (view_b : ratio q e ≡ b) where
  pub wholes_added : whole (cast_signed w128 (cast_unsigned w128 p) +ℤ cast_signed w128 (cast_unsigned w128 q)) ≡ a +ℚ b
  wholes_added =
      ap₂ (λ y z. whole (y +ℤ z)) (bits_back p fits_p.numerator_below) (bits_back q fits_q.numerator_below)
      ∙ whole-+ℚ p q
      ∙ ap₂ ◌+ℚ◌ (sym (whole_seen p d a d_is view_a)) (sym (whole_seen q e b e_is view_b))

  pub wholes_multiplied : whole (cast_signed w128 (cast_unsigned w128 p) *ℤ cast_signed w128 (cast_unsigned w128 q)) ≡ a *ℚ b
  wholes_multiplied =
      ap₂ (λ y z. whole (y *ℤ z)) (bits_back p fits_p.numerator_below) (bits_back q fits_q.numerator_below)
      ∙ whole-*ℚ p q
      ∙ ap₂ ◌*ℚ◌ (sym (whole_seen p d a d_is view_a)) (sym (whole_seen q e b e_is view_b))

-- Fractions and their signs, sizes and denominators.
use Rattle.std.proofs.Common.{◌≡◌, ℕ, ◌^◌, ◌<◌, ℤ, pos, negsuc, ◌-ℤ◌, neg_ℤ, nat_abs, Bool, true, false, int_lt, refl, sym, ◌∙◌, ap, ap₂, subst, arith}
use Rattle.std.specs.Int.{w128, cast_signed, cast_unsigned}
use Rattle.std.proofs.lemmas.Bool.Decides.{nat_tests}
use Rattle.std.proofs.lemmas.Int.{ints, to_z-of_z, fits_signed_from_abs}
use Rattle.rational.specs.Gcd.{gcd}
use Rattle.rational.proofs.Integer.{nat_abs-neg_ℤ}
use Rattle.rational.specs.Rational.{ℚ, ratio, neg_ℚ}
use Rattle.rational.proofs.Ratio.{coprime_from_lowest, positive_from_lowest, lowest_from, numerator-ratio, denominator-ratio}
use Rattle.exact_frac.specs.Parts.{FitsLowest, signed, AreLowest, Splits}

pub nat_abs-signed : (negative : Bool) (size : ℕ) → nat_abs (signed negative size) ≡ size
nat_abs-signed true size = nat_abs-neg_ℤ (pos size)
nat_abs-signed false size = refl

-- an integer by its sign and its size
pub signed-nat_abs : (p : ℤ) → signed (int_lt p (pos 0)) (nat_abs p) ≡ p
signed-nat_abs (pos n) = ap (λ b. signed b n) (not_below n)
  where
    not_below : (k : ℕ) → int_lt (pos k) (pos 0) ≡ false
    not_below k = grind (arith, nat_tests)
signed-nat_abs (negsuc n) = refl

-- a size below 2^127 passes through the bits of an `i128`
pub bits_back : (p : ℤ) → nat_abs p < 2 ^ 127 → cast_signed w128 (cast_unsigned w128 p) ≡ p
bits_back p below = to_z-of_z w128 p (fits_signed_from_abs w128 p below)

pub are_lowest : (p : ℤ) (q : ℕ) → FitsLowest p q → AreLowest (nat_abs p) q
are_lowest p q h = record {
  coprime = coprime_from_lowest p q h.lowest;
  some = positive_from_lowest p q h.lowest;
  size_below = h.numerator_below;
  denom_below = h.denominator_below;
}

pub fits_lowest : (negative : Bool) (size denom : ℕ) → AreLowest size denom → FitsLowest (signed negative size) denom
fits_lowest negative size denom h =
    let size_is = nat_abs-signed negative size in
    record {
      lowest = lowest_from (signed negative size) denom (ap (λ n. gcd n denom) size_is ∙ h.coprime) h.some;
      numerator_below = subst (λ n. n < 2 ^ 127) (sym size_is) h.size_below;
      denominator_below = h.denom_below;
    }

splits_ratio : (p : ℤ) (q : ℕ) → FitsLowest p q → Splits (ratio p q) (int_lt p (pos 0)) (nat_abs p) q
splits_ratio p q h = record {
  numerator = numerator-ratio p q h.lowest ∙ sym (signed-nat_abs p);
  denominator = denominator-ratio p q h.lowest;
  lowest = are_lowest p q h;
}

-- ---- the parts that the code reads

pub splits_seen : (p z : ℤ) (q size : ℕ) (a : ℚ) → FitsLowest p q → ratio p q ≡ a → z ≡ p → size ≡ nat_abs z → Splits a (int_lt z (pos 0)) size q
splits_seen p z q size a h view same size_is =
    subst (λ b. Splits b (int_lt z (pos 0)) size q) view
    (subst (λ n. Splits (ratio p q) (int_lt z (pos 0)) n q) (sym size_is)
    (subst (λ y. Splits (ratio p q) (int_lt y (pos 0)) (nat_abs y) q) (sym same) (splits_ratio p q h)))

-- ---- a fraction that the code makes of its parts

pub fits_joined : (z : ℤ) (negative : Bool) (size denom : ℕ) → AreLowest size denom → z ≡ signed negative size → FitsLowest (cast_signed w128 (cast_unsigned w128 z)) denom
fits_joined z negative size denom h e =
    let fits = fits_lowest negative size denom h in
    subst (λ y. FitsLowest y denom) (sym (ap (λ y. cast_signed w128 (cast_unsigned w128 y)) e ∙ bits_back (signed negative size) fits.numerator_below)) fits

pub splits_joined : (z : ℤ) (negative : Bool) (size denom : ℕ) → AreLowest size denom → z ≡ signed negative size → Splits (ratio (cast_signed w128 (cast_unsigned w128 z)) denom) negative size denom
splits_joined z negative size denom h e =
    let fits = fits_lowest negative size denom h in
    let back : cast_signed w128 (cast_unsigned w128 z) ≡ signed negative size =
    ap (λ y. cast_signed w128 (cast_unsigned w128 y)) e ∙ bits_back (signed negative size) fits.numerator_below in
    record {
      numerator = ap (λ y. (ratio y denom).numerator) back ∙ numerator-ratio (signed negative size) denom fits.lowest;
      denominator = ap (λ y. (ratio y denom).denominator) back ∙ denominator-ratio (signed negative size) denom fits.lowest;
      lowest = h;
    }

-- ---- the opposite

opposite : (p : ℤ) → pos 0 -ℤ p ≡ neg_ℤ p
opposite p = omega (arith, ints)

opposite_bits : (p : ℤ) → nat_abs p < 2 ^ 127 → cast_signed w128 (cast_unsigned w128 (pos 0 -ℤ cast_signed w128 (cast_unsigned w128 p))) ≡ neg_ℤ p
opposite_bits p below =
    ap (λ y. cast_signed w128 (cast_unsigned w128 (pos 0 -ℤ y))) (bits_back p below)
    ∙ ap (λ y. cast_signed w128 (cast_unsigned w128 y)) (opposite p)
    ∙ bits_back (neg_ℤ p) (subst (λ n. n < 2 ^ 127) (sym (nat_abs-neg_ℤ p)) below)

fits_opposite : (p : ℤ) (q : ℕ) → FitsLowest p q → FitsLowest (neg_ℤ p) q
fits_opposite p q h = record {
  lowest = lowest_from (neg_ℤ p) q (ap (λ n. gcd n q) (nat_abs-neg_ℤ p) ∙ coprime_from_lowest p q h.lowest) (positive_from_lowest p q h.lowest);
  numerator_below = subst (λ n. n < 2 ^ 127) (sym (nat_abs-neg_ℤ p)) h.numerator_below;
  denominator_below = h.denominator_below;
}

pub fits_negated : (p : ℤ) (q : ℕ) → FitsLowest p q → FitsLowest (cast_signed w128 (cast_unsigned w128 (pos 0 -ℤ cast_signed w128 (cast_unsigned w128 p)))) q
fits_negated p q h = subst (λ y. FitsLowest y q) (sym (opposite_bits p h.numerator_below)) (fits_opposite p q h)

pub negated_is : (p : ℤ) (q : ℕ) (a : ℚ) → FitsLowest p q → ratio p q ≡ a → ratio (cast_signed w128 (cast_unsigned w128 (pos 0 -ℤ cast_signed w128 (cast_unsigned w128 p)))) q ≡ neg_ℚ a
unfolding neg_ℚ
negated_is p q a h view =
    ap (λ y. ratio y q) (opposite_bits p h.numerator_below)
    ∙ ap₂ (λ x y. ratio (neg_ℤ x) y) (sym (numerator-ratio p q h.lowest) ∙ ap (λ (b : ℚ). b.numerator) view) (sym (denominator-ratio p q h.lowest) ∙ ap (λ (b : ℚ). b.denominator) view)

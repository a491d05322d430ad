-- Whether a fraction fits a width, by shifts of its parts.
use Rattle.std.proofs.Common.{◌≡◌, ℕ, ◌*◌, ◌/◌, ◌^◌, ◌<◌, ℤ, nat_abs, IsTrue, nat_eq, ◌↔◌, sym, ◌∙◌, ap, subst, arith}
use Rattle.std.specs.Int.{w128, cast_signed, cast_unsigned}
use Rattle.std.proofs.lemmas.Bool.{eqb-true, eq-eqb}
use Rattle.std.proofs.lemmas.Nat.{pow_pos}
use Rattle.std.proofs.Math.Nat.{div-lt_iff_lt-mul, div-eq_of_lt}
use Rattle.rational.specs.Rational.{ℚ, ratio}
use Rattle.rational.specs.Width.{FitsWidth}
use Rattle.rational.proofs.Ratio.{numerator-ratio, denominator-ratio}
use Rattle.exact_frac.specs.Parts.{FitsLowest}
use Rattle.exact_frac.proofs.Split.{bits_back}

-- a number is below 2^w exactly where its shift by w is 0
below_from_shift : (n w : ℕ) → n / 2 ^ w ≡ 0 → n < 2 ^ w
below_from_shift n w e =
    let under : n < 1 * 2 ^ w = (div-lt_iff_lt-mul (pow_pos w)).0 (less e) in
    omega arith
  where
    less : n / 2 ^ w ≡ 0 → n / 2 ^ w < 1
    less h = omega arith

module _ (p : ℤ) (q : ℕ) (a : ℚ) (fits : FitsLowest p q) (view : ratio p q ≡ a) (w size : ℕ) (size_is : size ≡ nat_abs (cast_signed w128 (cast_unsigned w128 p))) where
  top : nat_abs a.numerator ≡ size
  top =
      ap (λ (b : ℚ). nat_abs b.numerator) (sym view) ∙ ap nat_abs (numerator-ratio p q fits.lowest ∙ sym (bits_back p fits.numerator_below)) ∙ sym size_is

  bottom : a.denominator ≡ q
  bottom = ap (λ (b : ℚ). b.denominator) (sym view) ∙ denominator-ratio p q fits.lowest

  pub fits_by_shifts : size / 2 ^ w ≡ 0 → IsTrue (nat_eq (q / 2 ^ w) 0) ↔ FitsWidth w a
  fits_by_shifts e = (
    λ t. record {
      numerator_below = subst (λ n. n < 2 ^ w) (sym top) (below_from_shift size w e);
      denominator_below = subst (λ n. n < 2 ^ w) (sym bottom) (below_from_shift q w (eqb-true (q / 2 ^ w) 0 t));
    },
    λ f. eq-eqb (q / 2 ^ w) 0 (div-eq_of_lt (subst (λ n. n < 2 ^ w) bottom f.denominator_below)),
  )

-- Lowest terms: what a fraction's own parts are, and that it is made of reduced parts.
use Rattle.std.proofs.Common.{◌≡◌, ℕ, ◌*◌, ◌/◌, ◌^◌, ◌<◌, ◌≤◌, ℤ, pos, negsuc, ◌*ℤ◌, ◌<ℤ◌, nat_abs, Bool, true, false, int_lt, refl, sym, ◌∙◌, ap, ap₂, subst, arith}
use Rattle.std.specs.Ordering.{int_cmp}
use Rattle.std.proofs.Math.Nat.{mul_assoc, mul_comm, div-mul_cancel, div-le_self, le-div_iff_mul-le, le_of_dvd, one-mul}
use Rattle.std.specs.Int.{◌∣◌, w128, cast_signed, cast_unsigned}
use Rattle.std.proofs.lemmas.Int.{ints, to_z-of_z}
use mir.Val.{SFits}
use Rattle.rational.specs.Gcd.{gcd, IsCoprime}
use Rattle.rational.proofs.Gcd.{IsGcd-gcd, gcd_pos, coprime_after}
use Rattle.rational.proofs.Integer.{neg_ℤ-*ℤ}
use Rattle.rational.specs.Rational.{ℚ, ratio, cmp_ℚ}
use Rattle.rational.proofs.Ratio.{lowest_from, same_ℚ, numerator-ratio, denominator-ratio}
use Rattle.rational.specs.Width.{FitsWidth}
use Rattle.rational.proofs.RationalRing.Parts.{IsOver, over_ratio, equal_over}
use Rattle.exact_frac.specs.Parts.{signed, AreLowest, Splits}
use Rattle.exact_frac.proofs.Split.{nat_abs-signed, signed-nat_abs, bits_back}

-- a fraction over parts in lowest terms has these parts
pub numerator-over : (a : ℚ) (p : ℤ) (q : ℕ) → IsOver a p q → IsCoprime (nat_abs p) q → a.numerator ≡ p
numerator-over a p q o coprime =
    ap (λ (b : ℚ). b.numerator) (equal_over o (over_ratio p q o.some) refl)
    ∙ numerator-ratio p q (lowest_from p q coprime o.some)

pub denominator-over : (a : ℚ) (p : ℤ) (q : ℕ) → IsOver a p q → IsCoprime (nat_abs p) q → a.denominator ≡ q
denominator-over a p q o coprime =
    ap (λ (b : ℚ). b.denominator) (equal_over o (over_ratio p q o.some) refl)
    ∙ denominator-ratio p q (lowest_from p q coprime o.some)

pub over_split : (a : ℚ) (negative : Bool) (size denom : ℕ) → Splits a negative size denom → IsOver a (signed negative size) denom
over_split a negative size denom s = record {
  some = s.lowest.some;
  cross = ap₂ (λ p q. p *ℤ pos q) s.numerator (sym s.denominator);
}

pub fits_split : (a : ℚ) (negative : Bool) (size denom : ℕ) → Splits a negative size denom → FitsWidth 127 a
fits_split a negative size denom s = record {
  numerator_below = subst (λ n. n < 2 ^ 127) (sym (ap nat_abs s.numerator ∙ nat_abs-signed negative size)) s.lowest.size_below;
  denominator_below = subst (λ n. n < 2 ^ 127) (sym s.denominator) s.lowest.denom_below;
}

pub same_split : (a b : ℚ) (negative : Bool) (size denom : ℕ) → Splits a negative size denom → Splits b negative size denom → a ≡ b
same_split a b negative size denom s t = same_ℚ a b (s.numerator ∙ sym t.numerator) (s.denominator ∙ sym t.denominator)

pub signed-*ℤ : (negative : Bool) (a b : ℕ) → signed negative a *ℤ pos b ≡ signed negative (a * b)
signed-*ℤ true a b = neg_ℤ-*ℤ (pos a) (pos b)
signed-*ℤ false a b = refl

-- a divisor of both moves from one factor to the other
pub divisor_moves : (g x q : ℕ) → g ∣ x → g ∣ q → x / g * q ≡ x * (q / g)
divisor_moves g x q d e =
    ap (λ n. x / g * n) (sym (div-mul_cancel g e) ∙ mul_comm (q / g) g)
    ∙ sym (mul_assoc (x / g) g (q / g))
    ∙ ap (λ n. n * (q / g)) (div-mul_cancel g d)

pub quotient_pos : (g q : ℕ) → 0 < g → 0 < q → g ∣ q → 0 < q / g
quotient_pos g q positive some d =
    (le-div_iff_mul-le positive).1 (subst (λ n. n ≤ q) (sym (one-mul g)) (le_of_dvd some d))

-- ---- an integer over a positive one, as the code reads and reduces them

module _ (p y : ℤ) (in_range : nat_abs p < 2 ^ 127) (above : pos 0 <ℤ y) (fits : SFits w128 y) (x q g : ℕ)
    (size : x ≡ nat_abs (cast_signed w128 (cast_unsigned w128 p))) (denom : q ≡ nat_abs (cast_signed w128 (cast_unsigned w128 y))) (common : g ≡ gcd x q) where
  size_is : x ≡ nat_abs p
  size_is = size ∙ ap nat_abs (bits_back p in_range)

  denom_is : q ≡ nat_abs y
  denom_is = denom ∙ ap nat_abs (to_z-of_z w128 y fits)

  denom_pos : 0 < q
  denom_pos = subst (λ n. 0 < n) (sym denom_is) (above_zero y above)
    where
      above_zero : (z : ℤ) → pos 0 <ℤ z → 0 < nat_abs z
      above_zero (pos n) h = omega (arith, ints)
      above_zero (negsuc n) h = absurd (omega (arith, ints))

  denom_below : q < 2 ^ 127
  denom_below = subst (λ n. n < 2 ^ 127) (sym denom_is) (in_bits y above fits)
    where
      in_bits : (z : ℤ) → pos 0 <ℤ z → SFits w128 z → nat_abs z < 2 ^ 127
      in_bits (pos n) h k = k.sfits
      in_bits (negsuc n) h k = absurd (omega (arith, ints))

  pub common_pos : 0 < g
  common_pos = subst (λ n. 0 < n) (sym common) (gcd_pos x q denom_pos)

  module _ (n d : ℕ) (top : n ≡ x / g) (bottom : d ≡ q / g) where
    pub reduced_lowest : AreLowest n d
    reduced_lowest =
        let smaller_x : x / gcd x q ≤ x = div-le_self x (gcd x q) in
        let smaller_q : q / gcd x q ≤ q = div-le_self q (gcd x q) in
        let result : AreLowest (x / gcd x q) (q / gcd x q) = record {
          coprime = coprime_after x q denom_pos;
          some = quotient_pos (gcd x q) q (gcd_pos x q denom_pos) denom_pos (IsGcd-gcd x q).1;
          size_below = omega (arith, size_is, in_range);
          denom_below = omega (arith, denom_below);
        } in
        subst (λ m. AreLowest m d) (sym (top ∙ ap (λ k. x / k) common))
        (subst (λ m. AreLowest (x / gcd x q) m) (sym (bottom ∙ ap (λ k. q / k) common)) result)

    pub reduced_is : (r : ℚ) → Splits r (int_lt (cast_signed w128 (cast_unsigned w128 p)) (pos 0)) n d → r ≡ ratio p (nat_abs y)
    reduced_is r s =
        let z = cast_signed w128 (cast_unsigned w128 p) in
        let negative = int_lt z (pos 0) in
        let left : g ∣ x = subst (λ k. k ∣ x) (sym common) (IsGcd-gcd x q).0 in
        let right : g ∣ q = subst (λ k. k ∣ q) (sym common) (IsGcd-gcd x q).1 in
        let moved : n * q ≡ x * d = ap (λ k. k * q) top ∙ divisor_moves g x q left right ∙ ap (λ k. x * k) (sym bottom) in
        let whole : signed negative x ≡ p = ap (signed negative) size ∙ signed-nat_abs z ∙ bits_back p in_range in
        equal_over (over_split r negative n d s) (over_ratio p q denom_pos)
        (signed-*ℤ negative n q ∙ ap (signed negative) moved ∙ sym (signed-*ℤ negative x d) ∙ ap (λ k. k *ℤ pos d) whole)
        ∙ ap (ratio p) denom_is

-- ---- the order by parts

pub cmp_split : (a b : ℚ) (s t : Bool) (x p y q : ℕ) → Splits a s x p → Splits b t y q
    → int_cmp (signed s x *ℤ pos q) (signed t y *ℤ pos p) ≡ cmp_ℚ a b
unfolding cmp_ℚ
cmp_split a b s t x p y q left right =
    ap₂ int_cmp (ap₂ (λ m n. m *ℤ pos n) (sym left.numerator) (sym right.denominator)) (ap₂ (λ m n. m *ℤ pos n) (sym right.numerator) (sym left.denominator))

-- A number and its opposite take as much width.
use Rattle.std.proofs.Common.{◌≡◌, ℕ, ◌^◌, ◌<◌, nat_abs, neg_ℤ, ltb, eqb, ◌&&◌, T, sym, ◌∙◌, ap, subst}
use Rattle.rational.specs.Gcd.{gcd, is_lowest}
use Rattle.rational.specs.Rational.{ℚ, neg_ℚ}
use Rattle.rational.specs.Width.{FitsWidth}
use Rattle.rational.proofs.Integer.{nat_abs-neg_ℤ}
use Rattle.rational.proofs.Ratio.{denominator-ratio, numerator-ratio}

lowest-opposite : (a : ℚ) → T (is_lowest (neg_ℤ a.numerator) a.denominator)
unfolding is_lowest
lowest-opposite a = subst (λ n. T (eqb (gcd n a.denominator) 1 && ltb 0 a.denominator)) (sym (nat_abs-neg_ℤ a.numerator)) a.lowest

module _ (w : ℕ) (a : ℚ) where
  numerator-opposite : nat_abs (neg_ℚ a).numerator ≡ nat_abs a.numerator
  unfolding neg_ℚ
  numerator-opposite = ap nat_abs (numerator-ratio (neg_ℤ a.numerator) a.denominator (lowest-opposite a)) ∙ nat_abs-neg_ℤ a.numerator

  denominator-opposite : (neg_ℚ a).denominator ≡ a.denominator
  unfolding neg_ℚ
  denominator-opposite = denominator-ratio (neg_ℤ a.numerator) a.denominator (lowest-opposite a)

  -- where the opposite fits, so does the number
  pub fits-opposite : FitsWidth w (neg_ℚ a) → FitsWidth w a
  fits-opposite fits = record {
    numerator_below = subst (λ n. n < 2 ^ w) numerator-opposite fits.numerator_below;
    denominator_below = subst (λ n. n < 2 ^ w) denominator-opposite fits.denominator_below;
  }

  -- and the other way round
  pub opposite-fits : FitsWidth w a → FitsWidth w (neg_ℚ a)
  opposite-fits fits = record {
    numerator_below = subst (λ n. n < 2 ^ w) (sym numerator-opposite) fits.numerator_below;
    denominator_below = subst (λ n. n < 2 ^ w) (sym denominator-opposite) fits.denominator_below;
  }

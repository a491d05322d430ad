-- Exact fractions. A fraction is a pair in lowest terms, so two fractions are equal exactly where their pairs are.
use Rattle.std.proofs.Common.{ℕ, zero, suc, ◌*◌, ◌/◌, ℤ, pos, negsuc, ◌+ℤ◌, ◌*ℤ◌, neg_ℤ, nat_abs, Bool, ◌&&◌, T, eqb, arith}
use Rattle.std.specs.Prelude.{int_le, int_lt, if◌then◌else◌}
use Rattle.std.specs.Ordering.{int_cmp, int_eq}
use Rattle.std.specs.declared.cmp.Ordering.{Ordering}
use Rattle.rational.specs.Gcd.{gcd, gcd_within, is_lowest, quotient}
use Rattle.rational.specs.Inner.Lowest.{lowest_after}

-- a whole number over a positive one, in lowest terms
pub record ℚ : Type 0 where
  pub numerator : ℤ
  pub denominator : ℕ
  pub lowest : T (is_lowest numerator denominator)

-- p over q in lowest terms; 0 where q is 0
unfoldable pub ratio : ℤ → ℕ → ℚ
unfolding quotient gcd gcd_within is_lowest
ratio p zero = record { numerator = pos 0; denominator = 1; lowest = tt }
ratio p (suc q) = record {
  numerator = quotient p (gcd (nat_abs p) (suc q));
  denominator = suc q / gcd (nat_abs p) (suc q);
  lowest = lowest_after p (suc q) (omega arith);
}

-- ── the operations ──

-- an integer as a fraction
unfoldable pub whole : ℤ → ℚ
unfolding ratio
whole p = ratio p 1

unfoldable pub zero_ℚ : ℚ
unfolding whole
zero_ℚ = whole (pos 0)

unfoldable pub one_ℚ : ℚ
unfolding whole
one_ℚ = whole (pos 1)

infixl 6 ◌+ℚ◌
unfoldable pub ◌+ℚ◌ : ℚ → ℚ → ℚ
unfolding ratio
a +ℚ b = ratio (a.numerator *ℤ pos b.denominator +ℤ b.numerator *ℤ pos a.denominator) (a.denominator * b.denominator)

unfoldable pub neg_ℚ : ℚ → ℚ
unfolding ratio
neg_ℚ a = ratio (neg_ℤ a.numerator) a.denominator

infixl 6 ◌-ℚ◌
unfoldable pub ◌-ℚ◌ : ℚ → ℚ → ℚ
unfolding ◌+ℚ◌ neg_ℚ
a -ℚ b = a +ℚ neg_ℚ b

infixl 7 ◌*ℚ◌
unfoldable pub ◌*ℚ◌ : ℚ → ℚ → ℚ
unfolding ratio
a *ℚ b = ratio (a.numerator *ℤ b.numerator) (a.denominator * b.denominator)

-- q over p, the sign kept in the numerator; 0 where p is 0
unfoldable pub flipped : ℤ → ℕ → ℚ
unfolding ratio
flipped (pos p) q = ratio (pos q) p
flipped (negsuc p) q = ratio (neg_ℤ (pos q)) (suc p)

-- 1 over a; 0 where a is 0
unfoldable pub inverse : ℚ → ℚ
unfolding flipped
inverse a = flipped a.numerator a.denominator

infixl 7 ◌/ℚ◌
unfoldable pub ◌/ℚ◌ : ℚ → ℚ → ℚ
unfolding ◌*ℚ◌ inverse
a /ℚ b = a *ℚ inverse b

-- ── the order ──

unfoldable pub le_ℚ : ℚ → ℚ → Bool
le_ℚ a b = int_le (a.numerator *ℤ pos b.denominator) (b.numerator *ℤ pos a.denominator)

unfoldable pub lt_ℚ : ℚ → ℚ → Bool
lt_ℚ a b = int_lt (a.numerator *ℤ pos b.denominator) (b.numerator *ℤ pos a.denominator)

-- equality as a test
unfoldable pub eq_ℚ : ℚ → ℚ → Bool
eq_ℚ a b = int_eq a.numerator b.numerator && eqb a.denominator b.denominator

-- 0 for 0, and 1 for any other number: it counts the numbers that are not 0, and the products of a factor, which are skipped where it is 0
abbrev pub one_unless_zero : ℚ → ℕ
one_unless_zero a = if eq_ℚ a zero_ℚ then 0 else 1

infix 4 ◌≤ℚ◌
pub record ◌≤ℚ◌ (a b : ℚ) : Type 0 where
  pub le : T (le_ℚ a b)

infix 4 ◌<ℚ◌
pub record ◌<ℚ◌ (a b : ℚ) : Type 0 where
  pub lt : T (lt_ℚ a b)

-- how two fractions compare by value
unfoldable pub cmp_ℚ : ℚ → ℚ → Ordering
cmp_ℚ a b = int_cmp (a.numerator *ℤ pos b.denominator) (b.numerator *ℤ pos a.denominator)

-- the size of a fraction
unfoldable pub abs_ℚ : ℚ → ℚ
unfolding ratio
abs_ℚ a = ratio (pos (nat_abs a.numerator)) a.denominator

-- The ends that a bound sets, from comparisons of its number.
use Rattle.std.specs.Prelude.{◌≡◌, Bool, cond, ◌&&◌, not, Option, Some, None}
use Rattle.std.specs.Ordering.{is_le, is_lt}
use Rattle.std.proofs.Common.{◌∙◌, ap}
use Rattle.rational.specs.Rational.{ℚ, cmp_ℚ, le_ℚ, lt_ℚ, neg_ℚ, zero_ℚ}
use Rattle.rational.proofs.OrderLaws.{is_le-cmp_ℚ, is_lt-cmp_ℚ}
use Rattle.mps_model.specs.BoundCards.{infinity, is_minus_infinity, is_plus_infinity, lower_end, upper_end}

-- ── comparisons with ∞ and with -∞ ──

pub plus_infinity : (v i : ℚ) (b : Bool) → i ≡ infinity → b ≡ is_le (cmp_ℚ i v) → b ≡ is_plus_infinity v
plus_infinity v i b e f = f ∙ is_le-cmp_ℚ i v ∙ ap (λ x. le_ℚ x v) e

pub minus_infinity : (v i n : ℚ) (b : Bool) → i ≡ infinity → n ≡ neg_ℚ i → b ≡ is_le (cmp_ℚ v n) → b ≡ is_minus_infinity v
minus_infinity v i n b e g f = f ∙ is_le-cmp_ℚ v n ∙ ap (le_ℚ v) (g ∙ ap neg_ℚ e)

-- ── the ends ──

pub below_plus : (v i : ℚ) (b : Bool) → i ≡ infinity → b ≡ is_le (cmp_ℚ i v) → cond b None (Some v) ≡ upper_end v
below_plus v i b e f = ap (λ t. cond t None (Some v)) (plus_infinity v i b e f)

pub above_minus : (v i n : ℚ) (b : Bool) → i ≡ infinity → n ≡ neg_ℚ i → b ≡ is_le (cmp_ℚ v n) → cond b None (Some v) ≡ lower_end v
above_minus v i n b e g f = ap (λ t. cond t None (Some v)) (minus_infinity v i n b e g f)

pub taken_away : (v z : ℚ) (x : Option ℚ) (b low : Bool) → z ≡ zero_ℚ → b ≡ is_lt (cmp_ℚ v z) → cond (b && not low) None x ≡ cond (lt_ℚ v zero_ℚ && not low) None x
taken_away v z x b low e f = ap (λ t. cond (t && not low) None x) (f ∙ is_lt-cmp_ℚ v z ∙ ap (lt_ℚ v) e)

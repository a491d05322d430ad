-- Laws of the order of fractions: two of them stand in one of three ways, and the tests say which.
use Rattle.std.proofs.Common.{◌≡◌, ◌≢◌, Bool, true, false, ◌&&◌, cond, T, IsTrue, ◌↔◌, ℕ, ◌≤◌, ℤ, pos, negsuc, neg_ℤ, nat_abs, ◌*ℤ◌, ◌<ℤ◌, refl, sym, ◌∙◌, ap, ap₂, subst, arith}
use Rattle.std.proofs.lemmas.Int.{ints, by_lt_z}
use Rattle.std.proofs.lemmas.Bool.{and_parts}
use Rattle.std.proofs.lemmas.Bool.Decides.{Decides-eqb}
use Rattle.std.specs.Prelude.{int_lt, int_le, nat_eq}
use Rattle.std.specs.Bool.{Decides}
use Rattle.std.specs.Cmp.{IsTotalOrder, strict, both_ways, tied_itself, Equal-is, signed_Decides}
use Rattle.std.specs.Ordering.{MatchOrdering, int_cmp, int_eq, is_eq, is_le, is_lt, eq_by_cmp}
use Rattle.std.specs.declared.cmp.Ordering.{Ordering}
use Rattle.std.specs.declared.cmp.Ordering.TheVariants.{Less, Equal, Greater}
use Rattle.rational.specs.Rational.{ℚ, ratio, zero_ℚ, neg_ℚ, abs_ℚ, cmp_ℚ, eq_ℚ, one_unless_zero, le_ℚ, lt_ℚ, ◌≤ℚ◌, ◌<ℚ◌}
use Rattle.rational.proofs.Ratio.{positive, ratio-parts, same_ℚ}
use Rattle.rational.proofs.Ring.{⊝◌, 𝟘}
use Rattle.rational.proofs.RationalRing.Parts.{over_parts, zero_over}
use Rattle.rational.proofs.Linear.{linear, ◌≼◌, ◌≺◌, ◌≐◌, ◌⟹◌, never}
use Rattle.rational.proofs.Linear.Transfer.{lt_from}

-- one of two fractions is below the other, or not
pub by_lt_ℚ : {P : Type 0} (a b : ℚ) → (a <ℚ b → P) → (b ≤ℚ a → P) → P
unfolding le_ℚ lt_ℚ
by_lt_ℚ a b below above =
    by_lt_z (a.numerator *ℤ pos b.denominator) (b.numerator *ℤ pos a.denominator)
    (λ h. below (record { lt = h.lt })) (λ h. above (record { le = h.le }))

pub <ℚ_irrefl : (a : ℚ) → ¬ (a <ℚ a)
<ℚ_irrefl a = linear 1 (λ x. x ≺ x ⟹ never) (omega (arith, ints)) a

pub <ℚ_trans : (a b c : ℚ) → a <ℚ b → b <ℚ c → a <ℚ c
<ℚ_trans a b c = linear 3 (λ x y z. x ≺ y ⟹ y ≺ z ⟹ x ≺ z) (omega (arith, ints)) a b c

-- a number above 0 is its own size
pub abs_ℚ-above : (a : ℚ) → zero_ℚ <ℚ a → abs_ℚ a ≡ a
unfolding abs_ℚ
abs_ℚ-above a h = ap (λ z. ratio z a.denominator) (its_size a.numerator (lt_from (zero_over a.denominator (positive a)) (over_parts a) h)) ∙ ratio-parts a
  where
    its_size : (z : ℤ) → pos 0 <ℤ z → pos (nat_abs z) ≡ z
    its_size (pos n) h = refl
    its_size (negsuc n) h = absurd h.lt

-- a number below 0 has its negative as its size
pub abs_ℚ-below : (a : ℚ) → a <ℚ zero_ℚ → abs_ℚ a ≡ neg_ℚ a
unfolding abs_ℚ neg_ℚ
abs_ℚ-below a h = ap (λ z. ratio z a.denominator) (its_size a.numerator (lt_from (over_parts a) (zero_over a.denominator (positive a)) h))
  where
    not_below : (n : ℕ) → pos n <ℤ pos 0 → ⊥
    not_below n h = omega (arith, ints)

    its_size : (z : ℤ) → z <ℤ pos 0 → pos (nat_abs z) ≡ neg_ℤ z
    its_size (pos n) h = absurd (not_below n h)
    its_size (negsuc n) h = refl

zero_size : zero_ℚ ≤ℚ abs_ℚ zero_ℚ
unfolding abs_ℚ zero_ℚ le_ℚ
zero_size = record { le = tt }

-- no size is below 0
pub abs_ℚ-not_below : (a : ℚ) → zero_ℚ ≤ℚ abs_ℚ a
abs_ℚ-not_below a =
    by_lt_ℚ zero_ℚ a (λ above. subst (λ s. zero_ℚ ≤ℚ s) (sym (abs_ℚ-above a above)) (linear 1 (λ x. 𝟘 ≺ x ⟹ 𝟘 ≼ x) (omega (arith, ints)) a above))
    (λ not_above. by_lt_ℚ a zero_ℚ (λ below. subst (λ s. zero_ℚ ≤ℚ s) (sym (abs_ℚ-below a below)) (linear 1 (λ x. x ≺ 𝟘 ⟹ 𝟘 ≼ ⊝ x) (omega (arith, ints)) a below))
    (λ not_below. subst (λ z. zero_ℚ ≤ℚ abs_ℚ z) (linear 1 (λ x. x ≼ 𝟘 ⟹ 𝟘 ≼ x ⟹ 𝟘 ≐ x) (omega (arith, ints)) a not_above not_below) zero_size))

-- ── the tests ──

pub lt_ℚ-below : (a b : ℚ) → a <ℚ b → lt_ℚ a b ≡ true
lt_ℚ-below a b h = by_test (lt_ℚ a b) h.lt
  where
    by_test : (t : Bool) → T t → t ≡ true
    by_test true h = refl
    by_test false h = absurd h

pub lt_ℚ-above : (a b : ℚ) → b ≤ℚ a → lt_ℚ a b ≡ false
lt_ℚ-above a b h = by_test (lt_ℚ a b) refl
  where
    by_test : (t : Bool) → lt_ℚ a b ≡ t → t ≡ false
    by_test true e = absurd (linear 2 (λ x y. y ≼ x ⟹ x ≺ y ⟹ never) (omega (arith, ints)) a b h (record { lt = subst T (sym e) tt }))
    by_test false e = refl

pub above_from_test : (a b : ℚ) → lt_ℚ a b ≡ false → b ≤ℚ a
above_from_test a b e = by_lt_ℚ a b (λ h. absurd (subst T e h.lt)) (λ h. h)

pub eq_ℚ-decides : (a b : ℚ) → Decides (eq_ℚ a b) (a ≡ b)
unfolding eq_ℚ
eq_ℚ-decides a b = (
  λ h. let parts = and_parts (int_eq a.numerator b.numerator) (nat_eq a.denominator b.denominator) h in
      same_ℚ a b ((signed_Decides a.numerator b.numerator).0 parts.0) ((Decides-eqb a.denominator b.denominator).0 parts.1),
  λ e. ap₂ ◌&&◌ ((signed_Decides a.numerator b.numerator).1 (ap (λ (x : ℚ). x.numerator) e)) ((Decides-eqb a.denominator b.denominator).1 (ap (λ (x : ℚ). x.denominator) e)),
)

-- a test that holds exactly at 0 is that test
pub eq_ℚ-tested : (r : Bool) (v : ℚ) → IsTrue r ↔ (v ≡ zero_ℚ) → eq_ℚ v zero_ℚ ≡ r
eq_ℚ-tested true v h = (eq_ℚ-decides v zero_ℚ).1 (h.0 refl)
eq_ℚ-tested false v h = by (eq_ℚ v zero_ℚ) refl
  where
    by : (b : Bool) → eq_ℚ v zero_ℚ ≡ b → b ≡ false
    by true e = sym (h.1 ((eq_ℚ-decides v zero_ℚ).0 e))
    by false e = refl

pub eq_ℚ-other : (v : ℚ) → v ≢ zero_ℚ → eq_ℚ v zero_ℚ ≡ false
eq_ℚ-other v other = eq_ℚ-tested false v ((λ h. absurd (cc)), (λ e. absurd (other e)))

pub one_unless_zero-le : (a : ℚ) → one_unless_zero a ≤ 1
one_unless_zero-le a = by (eq_ℚ a zero_ℚ)
  where
    by : (t : Bool) → cond t 0 1 ≤ 1
    by true = omega arith
    by false = omega arith

pub one_unless_zero-zero : one_unless_zero zero_ℚ ≡ 0
one_unless_zero-zero = ap (λ t. cond t 0 1) ((eq_ℚ-decides zero_ℚ zero_ℚ).1 refl)

pub one_unless_zero-other : (a : ℚ) → a ≢ zero_ℚ → one_unless_zero a ≡ 1
one_unless_zero-other a other = ap (λ t. cond t 0 1) (eq_ℚ-other a other)

-- ── comparing ──

pub cmp_ℚ-tests : (a b : ℚ) → cmp_ℚ a b ≡ cond (lt_ℚ a b) Less (cond (lt_ℚ b a) Greater Equal)
unfolding cmp_ℚ lt_ℚ
cmp_ℚ-tests a b = refl

-- what holds in each case of a comparison holds of it
pub by_cmp : (P : Ordering → Type 0) (a b : ℚ) → (a <ℚ b → P Less) → (a ≡ b → P Equal) → (b <ℚ a → P Greater) → P (cmp_ℚ a b)
by_cmp P a b less equal more = subst P (sym (cmp_ℚ-tests a b)) (by_test (lt_ℚ a b) refl (lt_ℚ b a) refl)
  where
    by_test : (x : Bool) → lt_ℚ a b ≡ x → (y : Bool) → lt_ℚ b a ≡ y → P (cond x Less (cond y Greater Equal))
    by_test true e y f = less (record { lt = subst T (sym e) tt })
    by_test false e true f = more (record { lt = subst T (sym f) tt })
    by_test false e false f = equal (linear 2 (λ x y. x ≼ y ⟹ y ≼ x ⟹ x ≐ y) (omega (arith, ints)) a b (above_from_test b a f) (above_from_test a b e))

pub cmp_ℚ_ranks : (a b : ℚ) → MatchOrdering (cmp_ℚ a b) (a <ℚ b) (a ≡ b) (b <ℚ a)
cmp_ℚ_ranks a b = by_cmp (λ r. MatchOrdering r (a <ℚ b) (a ≡ b) (b <ℚ a)) a b (λ h. h) (λ e. e) (λ h. h)

pub cmp_less : (a b : ℚ) → cmp_ℚ a b ≡ Less → a <ℚ b
cmp_less a b h = subst (λ r. MatchOrdering r (a <ℚ b) (a ≡ b) (b <ℚ a)) h (cmp_ℚ_ranks a b)

pub cmp_equal : (a b : ℚ) → cmp_ℚ a b ≡ Equal → a ≡ b
cmp_equal a b h = subst (λ r. MatchOrdering r (a <ℚ b) (a ≡ b) (b <ℚ a)) h (cmp_ℚ_ranks a b)

pub cmp_greater : (a b : ℚ) → cmp_ℚ a b ≡ Greater → b <ℚ a
cmp_greater a b h = subst (λ r. MatchOrdering r (a <ℚ b) (a ≡ b) (b <ℚ a)) h (cmp_ℚ_ranks a b)

abs-zero : abs_ℚ zero_ℚ ≡ zero_ℚ
unfolding abs_ℚ zero_ℚ
abs-zero = refl

-- the size of a number by how it compares with 0
module _ (a z : ℚ) (zero : z ≡ zero_ℚ) where
  pub size_below : Less ≡ cmp_ℚ a z → neg_ℚ a ≡ abs_ℚ a
  size_below e = sym (abs_ℚ-below a (subst (λ z. a <ℚ z) zero (cmp_less a z (sym e))))

  pub size_equal : Equal ≡ cmp_ℚ a z → a ≡ abs_ℚ a
  size_equal e = let none : a ≡ zero_ℚ = cmp_equal a z (sym e) ∙ zero in none ∙ sym abs-zero ∙ ap abs_ℚ (sym none)

  pub size_above : Greater ≡ cmp_ℚ a z → a ≡ abs_ℚ a
  size_above e = sym (abs_ℚ-above a (subst (λ z. z <ℚ a) zero (cmp_greater a z (sym e))))

pub cmp_ℚ_total : IsTotalOrder cmp_ℚ
cmp_ℚ_total = strict ◌<ℚ◌ <ℚ_irrefl <ℚ_trans cmp_ℚ cmp_ℚ_ranks

lt_of : (u v : ℤ) → is_lt (int_cmp u v) ≡ int_lt u v
lt_of u v = grind (arith, ints)

le_of : (u v : ℤ) → is_le (int_cmp u v) ≡ int_le u v
le_of u v = grind (arith, ints)

pub is_lt-cmp_ℚ : (a b : ℚ) → is_lt (cmp_ℚ a b) ≡ lt_ℚ a b
unfolding cmp_ℚ lt_ℚ
is_lt-cmp_ℚ a b = lt_of (a.numerator *ℤ pos b.denominator) (b.numerator *ℤ pos a.denominator)

pub is_le-cmp_ℚ : (a b : ℚ) → is_le (cmp_ℚ a b) ≡ le_ℚ a b
unfolding cmp_ℚ le_ℚ
is_le-cmp_ℚ a b = le_of (a.numerator *ℤ pos b.denominator) (b.numerator *ℤ pos a.denominator)

-- equality of the parts answers what the order answers
pub eq_by_parts : (a b : ℚ) → (int_eq a.numerator b.numerator && nat_eq a.denominator b.denominator) ≡ eq_by_cmp cmp_ℚ a b
unfolding eq_ℚ
eq_by_parts a b =
    both_ways (eq_ℚ a b) (eq_by_cmp cmp_ℚ a b)
    (λ t. subst (λ z. eq_by_cmp cmp_ℚ a z ≡ true) ((eq_ℚ-decides a b).0 t) (ap is_eq (tied_itself cmp_ℚ_total a)))
    (λ t. (eq_ℚ-decides a b).1 (cmp_equal a b ((Equal-is (cmp_ℚ a b)).0 t)))

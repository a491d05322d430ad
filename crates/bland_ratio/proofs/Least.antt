-- The least of the limits that were looked at.
use Rattle.std.proofs.Common.{◌≡◌, ◌⊎◌, inl, inr, Option, Some, None, MatchBool, Bool, true, false, leb, refl, sym, ◌∙◌, ap, subst, arith}
use Rattle.std.proofs.lemmas.Bool.Decides.{nat_tests}
use Rattle.rational.specs.Rational.{◌<ℚ◌}
use Rattle.rational.proofs.OrderLaws.{<ℚ_trans}
use Rattle.lp_run.specs.Step.{Limit, NotAfter}
use Rattle.bland_ratio.specs.Inner.Limits.{IsEarlier}

-- at equal ratios the columns say
pub ties : (a b : Limit) → a.ratio ≡ b.ratio → MatchBool (leb a.column b.column) (NotAfter a b) (NotAfter b a)
ties a b e = by_test (leb a.column b.column) refl
  where
    by_test : (t : Bool) → leb a.column b.column ≡ t → MatchBool t (NotAfter a b) (NotAfter b a)
    by_test true h = inr (e, grind (arith, nat_tests))
    by_test false h = inr (sym e, grind (arith, nat_tests))

to_itself : (a b : Limit) → a ≡ b → NotAfter a b
to_itself a b e = inr (ap (λ l. l.ratio) e, omega (arith, ap (λ l. l.column) e))

not_after_trans : (a b c : Limit) → NotAfter a b → NotAfter b c → NotAfter a c
not_after_trans a b c (inl h) (inl k) = inl (<ℚ_trans a.ratio b.ratio c.ratio h k)
not_after_trans a b c (inl h) (inr k) = inl (subst (λ r. a.ratio <ℚ r) k.0 h)
not_after_trans a b c (inr h) (inl k) = inl (subst (λ r. r <ℚ c.ratio) (sym h.0) k)
not_after_trans a b c (inr h) (inr k) = inr (h.0 ∙ k.0, omega (arith, h.1, k.1))

-- the least of some limits, or that there are none
abbrev pub IsLeast : (Limit → Type 0) → Option Limit → Type 0
IsLeast P None = (l : Limit) → P l → ⊥
IsLeast P (Some a) = P a × ((other : Limit) → P other → NotAfter a other)

some_same : (a b : Limit) → Some a ≡ Some b → a ≡ b
some_same a b e = cc

-- one more limit is looked at, or none
module _ (P Q : Limit → Type 0) (b : Option Limit) (more : (l : Limit) → Q l → P l ⊎ (b ≡ Some l)) (old : (l : Limit) → P l → Q l) (new : (l : Limit) → b ≡ Some l → Q l) where
  first_found : (b' : Option Limit) → b ≡ b' → IsLeast P None → IsLeast Q b'
  first_found None e none = λ l h. by l (more l h)
    where
      by : (l : Limit) → P l ⊎ (b ≡ Some l) → ⊥
      by l (inl p) = none l p
      by l (inr f) = absurd (cc (sym e ∙ f))
  first_found (Some a) e none = (new a e, λ other h. by other (more other h))
    where
      by : (other : Limit) → P other ⊎ (b ≡ Some other) → NotAfter a other
      by other (inl p) = absurd (none other p)
      by other (inr f) = to_itself a other (some_same a other (sym e ∙ f))

  kept : (a : Limit) → IsLeast P (Some a) → ((l : Limit) → b ≡ Some l → NotAfter a l) → IsLeast Q (Some a)
  kept a (p, least) before = (old a p, λ other h. by other (more other h))
    where
      by : (other : Limit) → P other ⊎ (b ≡ Some other) → NotAfter a other
      by other (inl p) = least other p
      by other (inr f) = before other f

  replaced : (a c : Limit) → IsLeast P (Some a) → b ≡ Some c → NotAfter c a → IsLeast Q (Some c)
  replaced a c (p, least) e before = (new c e, λ other h. by other (more other h))
    where
      by : (other : Limit) → P other ⊎ (b ≡ Some other) → NotAfter c other
      by other (inl p) = not_after_trans c a other before (least other p)
      by other (inr f) = to_itself c other (some_same c other (sym e ∙ f))

  pub least_more : (a first : Option Limit) → IsLeast P a → IsEarlier a b first → IsLeast Q first
  least_more None first least e = subst (IsLeast Q) (sym e) (first_found b refl least)
  least_more (Some a) first least e = by_next b refl e
    where
      by_next : (b' : Option Limit) → b ≡ b' → IsEarlier (Some a) b' first → IsLeast Q first
      by_next None f e = subst (IsLeast Q) (sym e) (kept a least (λ l g. absurd (cc (sym f ∙ g))))
      by_next (Some c) f (inl (e, before)) = subst (IsLeast Q) (sym e) (kept a least (λ l g. subst (NotAfter a) (some_same c l (sym f ∙ g)) before))
      by_next (Some c) f (inr (e, before)) = subst (IsLeast Q) (sym e) (replaced a c least f before)

-- Where an interval is missing that was there, the count of unfit results has risen.
use Rattle.std.proofs.Common.{◌≡◌, ◌≢◌, ℕ, ◌<◌, ◌≤◌, ◌⊎◌, inl, inr, List, ◌++◌, length, get_or, set, drop, take, Option, Some, None, sym, ◌∙◌, subst, get_or-set_other, get_or-set_same, length-set, arith}
use Rattle.std.proofs.lemmas.Grind.{common_steps}
use Rattle.lp_model.specs.Deck.{Interval}
use Rattle.exact_frac.specs.Count.{raised}
use Rattle.rational.proofs.SumLaws.{at_or_other}
use Rattle.rational.specs.Rational.{ℚ}
use Rattle.lp_run.specs.Instance.{Instance}
use Rattle.lp_run.specs.State.{State}
use Rattle.ranging.specs.declared.limits.Limits.{Limits}
use Rattle.ranging.specs.Inner.Found.{AreBegun, HasRisen, Misses, RisesFor, RisesForLimits}

-- a list whose front is replaced by one as long
pub whole_front : {A : Type 0} (new old : List A) (n : ℕ) → n ≡ length old → length new ≡ length old → take n (new ++ drop (length new) old) ≡ new
whole_front new old n all same = grind (arith, common_steps, all, same)

raised_later : (a b c : ℕ) → a ≤ b → raised b 1 ≤ c → raised a 1 ≤ c
raised_later a b c low h = omega (arith, low, h)

module _ (old new : List (Option Interval)) where
  pub rises_later : (a b c : ℕ) → b ≤ c → RisesFor a b old new → RisesFor a c old new
  rises_later a b c up rises misses = by_part (rises misses)
    where
      by_part : Misses old ⊎ (raised a 1 ≤ b) → Misses old ⊎ (raised a 1 ≤ c)
      by_part (inl h) = inl h
      by_part (inr h) = inr (omega (arith, h, up))

  pub rises_earlier : (a b c : ℕ) → a ≤ b → RisesFor b c old new → RisesFor a c old new
  rises_earlier a b c low rises misses = by_part (rises misses)
    where
      by_part : Misses old ⊎ (raised b 1 ≤ c) → Misses old ⊎ (raised a 1 ≤ c)
      by_part (inl h) = inl h
      by_part (inr h) = inr (raised_later a b c low h)

  pub rises_written : (a b n : ℕ) → n ≡ length old → length new ≡ length old → RisesFor a b old new → RisesFor a b old (take n (new ++ drop (length new) old))
  rises_written a b n all same rises = subst (RisesFor a b old) (sym (whole_front new old n all same)) rises

-- one more interval is set
pub rises_set : (a b c : ℕ) (old rights : List (Option Interval)) (i : ℕ) (was is : Option Interval) → a ≤ b → b ≤ c → i < length rights → get_or rights i None ≡ was
    → (is ≡ None → was ≢ None → raised b 1 ≤ c) → RisesFor a b old rights → RisesFor a c old (set rights i is)
rises_set a b c old rights i was is low up within here one rises (k, below, none) =
    at_or_other (λ k. k < length rights → get_or (set rights i is) k None ≡ None → Misses old ⊎ (raised a 1 ≤ c)) i k
    (λ below none. by_was was here (one (sym (get_or-set_same rights i is None within) ∙ none)))
    (λ other below none. rises_later old rights a b c up rises (k, below, sym (get_or-set_other rights i k is None other) ∙ none))
    (subst (λ n. k < n) (length-set rights i is) below) none
  where
    by_was : (was : Option Interval) → get_or rights i None ≡ was → (was ≢ None → raised b 1 ≤ c) → Misses old ⊎ (raised a 1 ≤ c)
    by_was None here one = rises_later old rights a b c up rises (i, within, here)
    by_was (Some v) here one = inr (raised_later a b c low (one (λ e. cc e)))

-- after one position more
pub risen_more : (a b c : ℕ) (old new : Limits) → a ≤ b → b ≤ c → HasRisen a b old → RisesForLimits b c old new → HasRisen a c new
risen_more a b c old new low up known rises (inl misses) = by_part (rises.0 misses)
  where
    by_part : Misses old.costs.items ⊎ (raised b 1 ≤ c) → raised a 1 ≤ c
    by_part (inl h) = omega (arith, up, known (inl h))
    by_part (inr h) = raised_later a b c low h
risen_more a b c old new low up known rises (inr misses) = by_part (rises.1 misses)
  where
    by_part : Misses old.rights.items ⊎ (raised b 1 ≤ c) → raised a 1 ≤ c
    by_part (inl h) = omega (arith, up, known (inr h))
    by_part (inr h) = raised_later a b c low h

-- a count that rises further has risen
pub risen_later : (a b c : ℕ) (limits : Limits) → b ≤ c → HasRisen a b limits → HasRisen a c limits
risen_later a b c limits up known misses = omega (arith, up, known misses)

-- before any position no interval is missing
pub none_missing : (inst : Instance) (s : State) (worked : List ℚ) (limits : Limits) (a b : ℕ) → AreBegun inst s worked limits → HasRisen a b limits
none_missing inst s worked limits a b h (inl (k, below, none)) = absurd (apart (sym none ∙ h.costs k (subst (λ n. k < n) h.each_cost below)))
  where
    apart : {A : Type 0} {v : A} → None ≡ Some v → ⊥
    apart e = cc e
none_missing inst s worked limits a b h (inr (k, below, none)) = absurd (apart (sym none ∙ h.rights k (subst (λ n. k < n) h.each_right below)))
  where
    apart : {A : Type 0} {v : A} → None ≡ Some v → ⊥
    apart e = cc e

-- Where no column is eligible: one whose reduced cost is not 0 has the value of the end which that cost favours.
use Rattle.std.proofs.Common.{◌≡◌, ◌≢◌, ℕ, ◌+◌, ◌<◌, ◌≤◌, ◌⊎◌, inl, inr, List, Option, Some, None, IsFalse, Bool, true, false, refl, sym, ◌∙◌, ap, ap₂, subst, arith}
use Rattle.std.proofs.lemmas.Int.{ints}
use Rattle.std.proofs.lemmas.Bool.{cases_lt}
use Rattle.lp_model.specs.declared.Status.{Status}
use Rattle.lp_model.specs.declared.Status.TheVariants as status
use Rattle.rational.proofs.OrderLaws.{eq_ℚ-decides}
use Rattle.rational.specs.Rational.{ℚ, zero_ℚ, ◌<ℚ◌}
use Rattle.rational.proofs.Linear.{linear, ◌≼◌, ◌≺◌, ◌≐◌, ◌⟹◌, never}
use Rattle.rational.proofs.Ring.{𝟘}
use Rattle.rational.specs.Sum.{at}
use Rattle.lp_model.specs.Deck.{Interval, NotAbove, NotBelow, Within}
use Rattle.lp_run.specs.Instance.{Instance, bounds, column_count, row_count, structural_count}
use Rattle.lp_run.specs.Solution.{Prices, reduced}
use Rattle.lp_run.specs.State.{State, basic, status_of, resting_value}
use Rattle.lp_run.specs.Step.{ArtificialsZero, IsArtificial, Improves, NoneEligible, is_fixed}
use Rattle.lp_run.proofs.Unique.{basic_reduced}
use Rattle.bland_laws.specs.Kept.{IsBounded}
use Rattle.lp_run.specs.State.{NamesEnd}
use Rattle.bland_laws.proofs.Holding.{Holds, value_at_rest, value_there}
use Rattle.bland_laws.proofs.Limits.{by_sign}
use Rattle.bland_laws.proofs.Searches.{find_or_all}
use Rattle.bland_laws.proofs.Standing.{ends, is_basic_or, rest_within, some_end}
use Rattle.bland_laws.proofs.Weights.{value}

-- ── fixed columns ──

pub fixed_ends : (i : Interval) → is_fixed i ≡ true → (l : ℚ) × (i.lower ≡ Some l) × (i.upper ≡ Some l)
fixed_ends i = by_ends i.lower i.upper
  where
    by_ends : (lower upper : Option ℚ) → is_fixed (ends lower upper) ≡ true → (l : ℚ) × (lower ≡ Some l) × (upper ≡ Some l)
    by_ends None upper e = cc e
    by_ends (Some l) None e = cc e
    by_ends (Some l) (Some u) e = (l, refl, ap Some (sym ((eq_ℚ-decides l u).0 e)))

pub ends_apart : (i : Interval) (l : ℚ) → IsFalse (is_fixed i) → i.lower ≡ Some l → i.upper ≡ Some l → ⊥
ends_apart i l e at_l at_u = apart (sym (ap₂ (λ lower upper. is_fixed (ends lower upper)) at_l at_u ∙ (eq_ℚ-decides l l).1 refl) ∙ e)
  where
    apart : true ≡ false → ⊥
    apart e = cc e

-- a number between two ends that are one is that end
pub pinned : (i : Interval) (l v : ℚ) → i.lower ≡ Some l → i.upper ≡ Some l → Within i v → l ≡ v
pinned i l v at_l at_u within =
    linear 2 (λ l v. l ≼ v ⟹ v ≼ l ⟹ l ≐ v) (omega (arith, ints)) l v (subst (λ o. NotBelow o v) at_l within.0) (subst (λ o. NotAbove o v) at_u within.1)

-- ── one column ──

module _ (st : Status) (i : Interval) (d v : ℚ) (still : Improves st d → ⊥) (stands : NamesEnd st i) (priced : st ≡ status.Basic
    → d ≡ zero_ℚ) (rests : st ≢ status.Basic → v ≡ resting_value st i) where
  at_lower : zero_ℚ <ℚ d → i.lower ≡ Some v
  at_lower above = by_status st still stands priced rests
    where
      by_status : (st : Status) → (Improves st d → ⊥) → NamesEnd st i → (st ≡ status.Basic → d ≡ zero_ℚ) → (st ≢ status.Basic → v ≡ resting_value st i)
          → i.lower ≡ Some v
      by_status status.Basic still stands priced rests = absurd (linear 1 (λ d. 𝟘 ≺ d ⟹ d ≐ 𝟘 ⟹ never) (omega (arith, ints)) d above (priced refl))
      by_status status.Lower still stands priced rests = some_end i.lower stands ∙ ap Some (sym (rests (λ e. cc e)))
      by_status status.Upper still stands priced rests = absurd (still above)
      by_status status.Zero still stands priced rests = absurd (still (λ e. linear 1 (λ d. 𝟘 ≺ d ⟹ d ≐ 𝟘 ⟹ never) (omega (arith, ints)) d above e))

  at_upper : d <ℚ zero_ℚ → i.upper ≡ Some v
  at_upper below = by_status st still stands priced rests
    where
      by_status : (st : Status) → (Improves st d → ⊥) → NamesEnd st i → (st ≡ status.Basic → d ≡ zero_ℚ) → (st ≢ status.Basic → v ≡ resting_value st i)
          → i.upper ≡ Some v
      by_status status.Basic still stands priced rests = absurd (linear 1 (λ d. d ≺ 𝟘 ⟹ d ≐ 𝟘 ⟹ never) (omega (arith, ints)) d below (priced refl))
      by_status status.Lower still stands priced rests = absurd (still below)
      by_status status.Upper still stands priced rests = some_end i.upper stands ∙ ap Some (sym (rests (λ e. cc e)))
      by_status status.Zero still stands priced rests = absurd (still (λ e. linear 1 (λ d. d ≺ 𝟘 ⟹ d ≐ 𝟘 ⟹ never) (omega (arith, ints)) d below e))

-- ── the columns of a state ──

module _ (inst : Instance) (bounded : IsBounded inst) (s : State) (h : Holds inst s) where
  -- every column has its value within its bounds
  pub column_within : (j : ℕ) → j < column_count inst → Within (bounds inst s.phase j) (value inst s h.β j)
  column_within j b = by_case (is_basic_or (status_of s j))
    where
      by_case : (status_of s j ≡ status.Basic) ⊎ (status_of s j ≢ status.Basic) → Within (bounds inst s.phase j) (value inst s h.β j)
      by_case (inl now) =
          let (p, c, same) = h.found j b now in
          subst (λ k. Within (bounds inst s.phase k) (value inst s h.β k)) same (subst (Within (bounds inst s.phase (basic s p)))
          (sym (value_there inst s h p c)) (h.within p c))
      by_case (inr other) =
          subst (Within (bounds inst s.phase j)) (sym (value_at_rest inst s h j b other)) (rest_within (status_of s j) (bounds inst s.phase j) (h.stands j b)
          (bounded s.phase j b) other)

  -- a basic column has the reduced cost 0
  pub priced_basic : (y : List ℚ) → Prices inst s y → (j : ℕ) → j < column_count inst → status_of s j ≡ status.Basic → reduced inst s y j ≡ zero_ℚ
  priced_basic y prices j b now = let (p, c, same) = h.found j b now in ap (reduced inst s y) (sym same) ∙ basic_reduced inst s y prices p c

  module _ (y : List ℚ) (prices : Prices inst s y) (none : NoneEligible inst s y) (j : ℕ) (b : j < column_count inst) where
    by_fixed : {P : Type 0} → (is_fixed (bounds inst s.phase j) ≡ true → P) → ((Improves (status_of s j) (reduced inst s y j) → ⊥) → P) → P
    by_fixed {P} fixed loose = by_test (is_fixed (bounds inst s.phase j)) refl
      where
        by_test : (t : Bool) → is_fixed (bounds inst s.phase j) ≡ t → P
        by_test true e = fixed e
        by_test false e = loose (λ moves. none j (record { in_range = b; ends_differ = e; improves = moves }))

    pinned_value : is_fixed (bounds inst s.phase j) ≡ true → ((bounds inst s.phase j).lower ≡ Some (value inst s h.β j))
        × ((bounds inst s.phase j).upper ≡ Some (value inst s h.β j))
    pinned_value e =
        let (l, at_l, at_u) = fixed_ends (bounds inst s.phase j) e in
        let same : l ≡ value inst s h.β j = pinned (bounds inst s.phase j) l (value inst s h.β j) at_l at_u (column_within j b) in
        (at_l ∙ ap Some same, at_u ∙ ap Some same)

    pub rests_low : zero_ℚ <ℚ reduced inst s y j → (bounds inst s.phase j).lower ≡ Some (value inst s h.β j)
    rests_low above =
        by_fixed (λ e. (pinned_value e).0)
        (λ still. at_lower (status_of s j) (bounds inst s.phase j) (reduced inst s y j) (value inst s h.β j) still (h.stands j b) (priced_basic y prices j b)
        (value_at_rest inst s h j b) above)

    pub rests_high : reduced inst s y j <ℚ zero_ℚ → (bounds inst s.phase j).upper ≡ Some (value inst s h.β j)
    rests_high below =
        by_fixed (λ e. (pinned_value e).1)
        (λ still. at_upper (status_of s j) (bounds inst s.phase j) (reduced inst s y j) (value inst s h.β j) still (h.stands j b) (priced_basic y prices j b)
        (value_at_rest inst s h j b) below)

-- ── the artificials ──

-- some basic artificial is not 0, or all are
pub artificials_zero_or_not : (inst : Instance) (s : State) (β : List ℚ)
    → ((p : ℕ) × (p < row_count inst) × (IsArtificial inst (basic s p) × (at β p ≢ zero_ℚ))) ⊎ ArtificialsZero inst s β
artificials_zero_or_not inst s β =
    find_or_all (row_count inst) (λ p. IsArtificial inst (basic s p) → at β p ≡ zero_ℚ) (λ p. IsArtificial inst (basic s p) × (at β p ≢ zero_ℚ))
    (λ p b. by_order p (cases_lt (basic s p) (structural_count inst + row_count inst)))
  where
    by_order : (p : ℕ) → (basic s p < structural_count inst + row_count inst) ⊎ (structural_count inst + row_count inst ≤ basic s p)
        → (IsArtificial inst (basic s p) → at β p ≡ zero_ℚ) ⊎ (IsArtificial inst (basic s p) × (at β p ≢ zero_ℚ))
    by_order p (inl less) = inl (λ is. absurd (omega (arith, less, is)))
    by_order p (inr is) =
        by_sign (at β p)
        (λ below. inr (is, λ e. linear 1 (λ v. v ≺ 𝟘 ⟹ v ≐ 𝟘 ⟹ never) (omega (arith, ints)) (at β p) below e))
        (λ same. inl (λ _. same))
        (λ above. inr (is, λ e. linear 1 (λ v. 𝟘 ≺ v ⟹ v ≐ 𝟘 ⟹ never) (omega (arith, ints)) (at β p) above e))

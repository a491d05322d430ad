-- What the phases make of bounds and costs; the turn keeps what holds of a state, and in phase one no column moves without a limit.
use Rattle.std.proofs.Common.{◌≡◌, ℕ, ◌+◌, ◌<◌, ◌⊎◌, inl, inr, List, [], ◌∷◌, Bool, true, false, refl, sym, ◌∙◌, ap, ap₂, subst, cond, arith}
use Rattle.std.proofs.lemmas.Int.{ints}
use Rattle.lp_model.specs.declared.Entry.{Entry}
use Rattle.lp_model.specs.declared.Entry.TheVariants.{Flip, Swap, Turn}
use Rattle.lp_model.specs.declared.Phase.TheVariants.{One, Two}
use Rattle.lp_model.specs.declared.Side.TheVariants as side
use Rattle.lp_model.specs.declared.Status.{Status}
use Rattle.lp_model.specs.declared.Status.TheVariants as status
use Rattle.rational.specs.Rational.{ℚ, zero_ℚ, one_ℚ, ◌-ℚ◌, ◌*ℚ◌, neg_ℚ, ◌≤ℚ◌}
use Rattle.rational.proofs.RationalRing.{ring_ℚ}
use Rattle.rational.proofs.Ring.{◌≐◌, ◌⊕◌, ◌⊗◌, 𝟘, 𝟙}
use Rattle.rational.proofs.Linear.{linear, ◌≼◌, ◌≺◌, ◌≐◌, ◌⟹◌, never}
use Rattle.rational.specs.Sum.{sum_ℚ, at}
use Rattle.rational.proofs.OrderLaws.{by_lt_ℚ}
use Rattle.rational.proofs.SumLaws.{sum-cong, sum-none, sum-mono}
use Rattle.lp_model.specs.Deck.{Interval, Within, between, nonnegative}
use Rattle.lp_run.specs.Instance.{Instance, is_needed, bounds, kind_bounds, coefficient, column_count, cost, kind_cost, row_count, structural_count}
use Rattle.lp_run.specs.Run.{Leads}
use Rattle.lp_run.specs.Solution.{ColumnOf, Prices, Values, reduced}
use Rattle.lp_run.specs.State.{State, after, basic, rest, status_of, resting_value}
use Rattle.lp_run.specs.Step.{ArtificialsZero, Eligible, IsArtificial, IsFree, IsNext, Improves, Turns, direction}
use Rattle.lp_run.proofs.Kept.{after_has_table}
use Rattle.lp_run.proofs.Start.{each_column, kind_of_artificial, kind_of_logical, kind_of_structural}
use Rattle.bland_laws.specs.Kept.{IsBounded}
use Rattle.lp_run.specs.State.{NamesEnd}
use Rattle.bland_laws.proofs.Holding.{Holds, same_values}
use Rattle.bland_laws.proofs.Limits.{direction_falls, direction_unit, direction_up, limit_met}
use Rattle.bland_laws.proofs.Moving.{flip_keeps, swap_keeps}
use Rattle.bland_laws.proofs.Standing.{moves_priced, reflexive}
use Rattle.bland_laws.proofs.Weights.{along, along_cost, along_rates}

pub sum_not_below : (n : ℕ) (f : ℕ → ℚ) → ((i : ℕ) → i < n → zero_ℚ ≤ℚ f i) → zero_ℚ ≤ℚ sum_ℚ n f
sum_not_below n f h =
    linear 2 (λ z s. z ≐ 𝟘 ⟹ z ≼ s ⟹ 𝟘 ≼ s) (omega (arith, ints)) (sum_ℚ n (λ i. zero_ℚ)) (sum_ℚ n f) (sum-none n (λ i. zero_ℚ) (λ i b. refl))
    (sum-mono n (λ i. zero_ℚ) f h)

abbrev nothing : Interval
nothing = between zero_ℚ zero_ℚ

-- an artificial that is not needed is 0 in phase one; one that is has the cost 1, and runs from 0 up
pub artificial_in_one : (inst : Instance) (i : ℕ)
    → ((cost inst One (structural_count inst + row_count inst + i) ≡ zero_ℚ)
    × (bounds inst One (structural_count inst + row_count inst + i) ≡ between zero_ℚ zero_ℚ))
    ⊎ ((cost inst One (structural_count inst + row_count inst + i) ≡ one_ℚ) × (bounds inst One (structural_count inst + row_count inst + i) ≡ nonnegative))
artificial_in_one inst i = by_need (is_needed inst i) refl
  where
    by_need : (needed : Bool) → (is_needed inst i) ≡ needed
        → ((cost inst One (structural_count inst + row_count inst + i) ≡ zero_ℚ)
        × (bounds inst One (structural_count inst + row_count inst + i) ≡ between zero_ℚ zero_ℚ))
        ⊎ ((cost inst One (structural_count inst + row_count inst + i) ≡ one_ℚ) × (bounds inst One (structural_count inst + row_count inst + i) ≡ nonnegative))
    by_need true e =
        inr (
          ap (kind_cost inst One) (kind_of_artificial inst i) ∙ ap (λ b. cond b one_ℚ zero_ℚ) e,
          ap (kind_bounds inst One) (kind_of_artificial inst i)
              ∙ ap (λ b. cond b nonnegative nothing) e,
        )
    by_need false e =
        inl (
          ap (kind_cost inst One) (kind_of_artificial inst i) ∙ ap (λ b. cond b one_ℚ zero_ℚ) e,
          ap (kind_bounds inst One) (kind_of_artificial inst i)
              ∙ ap (λ b. cond b nonnegative nothing) e,
        )

-- the bounds of an artificial that is needed change to nothing in phase two; the bounds of no other column change
abbrev Changes : Instance → ℕ → Type 0
Changes inst j =
    (bounds inst One j ≡ bounds inst Two j) ⊎ (IsArtificial inst j × (bounds inst One j ≡ nonnegative) × (bounds inst Two j ≡ between zero_ℚ zero_ℚ))

phase_bounds : (inst : Instance) (j : ℕ) → j < column_count inst → Changes inst j
phase_bounds inst j =
    each_column inst (Changes inst)
    (λ j b. inl (ap (kind_bounds inst One) (kind_of_structural inst j b) ∙ sym (ap (kind_bounds inst Two) (kind_of_structural inst j b))))
    (λ i b. inl (ap (kind_bounds inst One) (kind_of_logical inst i b) ∙ sym (ap (kind_bounds inst Two) (kind_of_logical inst i b))))
    (λ i b. elim (artificial_in_one inst i) [
      | inl h ↦ inl (h.1 ∙ sym (ap (kind_bounds inst Two) (kind_of_artificial inst i)))
      | inr h ↦ inr (omega arith, h.1, ap (kind_bounds inst Two) (kind_of_artificial inst i))
    ]) j

-- in phase one a column that has a cost has the cost 1 and runs from 0 up
abbrev Costs : Instance → ℕ → Type 0
Costs inst j = (cost inst One j ≡ zero_ℚ) ⊎ ((cost inst One j ≡ one_ℚ) × (bounds inst One j ≡ nonnegative))

phase_cost : (inst : Instance) (j : ℕ) → j < column_count inst → Costs inst j
phase_cost inst j =
    each_column inst (Costs inst)
    (λ j b. inl (ap (kind_cost inst One) (kind_of_structural inst j b)))
    (λ i b. inl (ap (kind_cost inst One) (kind_of_logical inst i b)))
    (λ i b. elim (artificial_in_one inst i) [ inl h ↦ inl h.0 | inr h ↦ inr h ]) j

-- ── the turn ──

narrowed_stands : (st : Status) → NamesEnd st nonnegative → NamesEnd st nothing
narrowed_stands status.Basic h = tt
narrowed_stands status.Lower h = refl
narrowed_stands status.Upper h = refl
narrowed_stands status.Zero h = cc h.0

narrowed_rest : (st : Status) → resting_value st nothing ≡ resting_value st nonnegative
narrowed_rest status.Basic = refl
narrowed_rest status.Lower = refl
narrowed_rest status.Upper = refl
narrowed_rest status.Zero = refl

module _ (inst : Instance) (s : State) (h : Holds inst s) (one : s.phase ≡ One) where
  stands_in_one : (j : ℕ) → j < column_count inst → NamesEnd (status_of s j) (bounds inst One j)
  stands_in_one j b = subst (λ f. NamesEnd (status_of s j) (bounds inst f j)) one (h.stands j b)

  turn_stands : (j : ℕ) → j < column_count inst → NamesEnd (status_of s j) (bounds inst Two j)
  turn_stands j b = by_bounds (phase_bounds inst j b)
    where
      by_bounds : Changes inst j → NamesEnd (status_of s j) (bounds inst Two j)
      by_bounds (inl same) = subst (NamesEnd (status_of s j)) same (stands_in_one j b)
      by_bounds (inr (is, wide, narrow)) =
          subst (NamesEnd (status_of s j)) (sym narrow) (narrowed_stands (status_of s j) (subst (NamesEnd (status_of s j)) wide (stands_in_one j b)))

  turn_rest : (j : ℕ) → j < column_count inst → rest inst (after s Turn) j ≡ rest inst s j
  turn_rest j b = by_bounds (phase_bounds inst j b) ∙ sym (ap (λ f. resting_value (status_of s j) (bounds inst f j)) one)
    where
      by_bounds : Changes inst j → resting_value (status_of s j) (bounds inst Two j) ≡ resting_value (status_of s j) (bounds inst One j)
      by_bounds (inl same) = ap (resting_value (status_of s j)) (sym same)
      by_bounds (inr (is, wide, narrow)) =
          ap (resting_value (status_of s j)) narrow ∙ narrowed_rest (status_of s j) ∙ ap (resting_value (status_of s j)) (sym wide)

  pub turn_values : Values inst (after s Turn) h.β
  turn_values = record {
    one_each = h.values.one_each;
    solves =
        λ i b. h.values.solves i b ∙ ap (λ z. at inst.right i -ℚ z) (sum-cong (column_count inst) _ _ (λ j c. ap (λ z. z *ℚ coefficient inst i j)
        (sym (turn_rest j c))));
  }

  turn_within : ArtificialsZero inst s h.β → (p : ℕ) → p < row_count inst → Within (bounds inst Two (basic s p)) (at h.β p)
  turn_within none p b = by_bounds (phase_bounds inst (basic s p) (h.table.within p b))
    where
      by_bounds : Changes inst (basic s p) → Within (bounds inst Two (basic s p)) (at h.β p)
      by_bounds (inl same) = subst (λ i. Within i (at h.β p)) (ap (λ f. bounds inst f (basic s p)) one ∙ same) (h.within p b)
      by_bounds (inr (is, wide, narrow)) =
          subst (λ i. Within i (at h.β p)) (sym narrow) (subst (Within nothing) (sym (none p b is)) (reflexive zero_ℚ, reflexive zero_ℚ))

pub turn_keeps : (inst : Instance) (s : State) → Holds inst s → Turns inst s → Holds inst (after s Turn)
turn_keeps inst s h turns = record {
  table = after_has_table inst s h.table Turn turns;
  each = h.each;
  β = h.β;
  values = turn_values inst s h turns.0;
  marked = h.marked;
  found = h.found;
  stands = turn_stands inst s h turns.0;
  within = turn_within inst s h turns.0 (subst (ArtificialsZero inst s) (same_values inst s h turns.1.1 turns.1.2.values) turns.1.3);
}

-- the state after an entry holds what the state before it held
pub next_holds : (inst : Instance) → IsBounded inst → (s : State) → Holds inst s → (e : Entry) → IsNext inst s e → Holds inst (after s e)
next_holds inst bounded s h (Flip q) next = flip_keeps inst bounded s h q next
next_holds inst bounded s h (Swap q p r) next = swap_keeps inst bounded s h q p r next
next_holds inst bounded s h Turn next = turn_keeps inst s h next

pub leads_holds : (inst : Instance) → IsBounded inst → (s : State) → Holds inst s → (log : List Entry) (t : State) → Leads inst s log t → Holds inst t
leads_holds inst bounded s h [] t leads = subst (Holds inst) leads h
leads_holds inst bounded s h (e ∷ log) t leads = leads_holds inst bounded (after s e) (next_holds inst bounded s h e leads.0) log t leads.1

-- ── no column is free in phase one ──

-- a column that enters from 0 up rises
enters_up : (st : Status) (d : ℚ) → Improves st d → NamesEnd st nonnegative → direction d ≡ one_ℚ
enters_up status.Basic d moves h = absurd moves
enters_up status.Lower d moves h = direction_up d moves
enters_up status.Upper d moves h = cc h
enters_up status.Zero d moves h = cc h.0

module _ (inst : Instance) (s : State) (h : Holds inst s) (one : s.phase ≡ One) (y β α : List ℚ) (q : ℕ)
    (prices : Prices inst s y) (eligible : Eligible inst s y q) (column : ColumnOf inst s q α) (free : IsFree inst s q (direction (reduced inst s y q)) β α) where
  abbrev ahead : ℚ
  ahead = direction (reduced inst s y q)

  no_fall : (p : ℕ) → p < row_count inst → zero_ℚ ≤ℚ cost inst One (basic s p) *ℚ (neg_ℚ ahead *ℚ at α p)
  no_fall p b = by_cost (phase_cost inst (basic s p) (h.table.within p b))
    where
      by_cost : Costs inst (basic s p) → zero_ℚ ≤ℚ cost inst One (basic s p) *ℚ (neg_ℚ ahead *ℚ at α p)
      by_cost (inl none) =
          subst (λ z. zero_ℚ ≤ℚ z) (sym (ap (λ c. c *ℚ (neg_ℚ ahead *ℚ at α p)) none ∙ ring_ℚ 1 (λ r. 𝟘 ⊗ r ≐ 𝟘) tt (neg_ℚ ahead *ℚ at α p))) (reflexive zero_ℚ)
      by_cost (inr (unit, wide)) =
          subst (λ z. zero_ℚ ≤ℚ z) (sym (ap (λ c. c *ℚ (neg_ℚ ahead *ℚ at α p)) unit ∙ ring_ℚ 1 (λ r. 𝟙 ⊗ r ≐ r) tt (neg_ℚ ahead *ℚ at α p)))
          (by_lt_ℚ (neg_ℚ ahead *ℚ at α p) zero_ℚ
          (λ below. let (limit, e, m) = limit_met q p (basic s p) ahead (at β p) (at α p) (bounds inst s.phase (basic s p))
          (direction_unit (reduced inst s y q)) side.Lower zero_ℚ below
          (ap (λ f. (bounds inst f (basic s p)).lower) one ∙ ap (λ i. i.lower) wide) in
          absurd (free limit (inl (p, b, e))))
          (λ above. above))

  no_fall_entering : zero_ℚ ≤ℚ ahead *ℚ cost inst One q
  no_fall_entering = by_cost (phase_cost inst q eligible.in_range)
    where
      by_cost : Costs inst q → zero_ℚ ≤ℚ ahead *ℚ cost inst One q
      by_cost (inl none) = subst (λ z. zero_ℚ ≤ℚ z) (sym (ap (λ c. ahead *ℚ c) none ∙ ring_ℚ 1 (λ r. r ⊗ 𝟘 ≐ 𝟘) tt ahead)) (reflexive zero_ℚ)
      by_cost (inr (unit, wide)) =
          subst (λ z. zero_ℚ ≤ℚ z)
          (sym (ap₂ ◌*ℚ◌ (enters_up (status_of s q) (reduced inst s y q) eligible.improves
          (subst (NamesEnd (status_of s q)) (ap (λ f. bounds inst f q) one ∙ wide) (h.stands q eligible.in_range))) unit))
          (linear 1 (λ x. x ≐ 𝟙 ⟹ 𝟘 ≼ x) (omega (arith, ints)) (one_ℚ *ℚ one_ℚ) (ring_ℚ 0 (𝟙 ⊗ 𝟙 ≐ 𝟙) tt))

  pub never_free : ⊥
  never_free =
      linear 4 (λ x a b f. x ≐ a ⊕ b ⟹ 𝟘 ≼ a ⟹ 𝟘 ≼ b ⟹ x ≐ f ⟹ f ≺ 𝟘 ⟹ never) (omega (arith, ints))
      (ahead *ℚ along inst s q α (cost inst One)) (ahead *ℚ cost inst One q) (sum_ℚ (row_count inst) (λ p. cost inst One (basic s p) *ℚ
      (neg_ℚ ahead *ℚ at α p))) (ahead *ℚ reduced inst s y q)
      (along_rates inst s q α ahead (cost inst One)) no_fall_entering (sum_not_below (row_count inst) _ no_fall)
      (ap (λ z. ahead *ℚ z) (ap (λ f. along inst s q α (cost inst f)) (sym one) ∙ along_cost inst s q α column y prices))
      (direction_falls (reduced inst s y q) (moves_priced (status_of s q) (reduced inst s y q) eligible.improves))

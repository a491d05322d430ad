-- On a regular state there is at most one next entry, and none where the run ends.
use Rattle.std.proofs.Common.{◌≡◌, ◌≢◌, ℕ, ◌<◌, inl, inr, List, Option, Some, None, refl, sym, ◌∙◌, ap, ap₂, subst, arith}
use Rattle.std.proofs.lemmas.Int.{ints}
use Rattle.lp_model.specs.declared.Entry.{Entry}
use Rattle.lp_model.specs.declared.Entry.TheVariants.{Flip, Swap, Turn}
use Rattle.lp_model.specs.declared.Phase.TheVariants.{One, Two}
use Rattle.lp_model.specs.declared.Status.{Status}
use Rattle.lp_model.specs.declared.Status.TheVariants as status
use Rattle.rational.specs.Rational.{ℚ, zero_ℚ, one_ℚ, ◌-ℚ◌, ◌*ℚ◌, ◌<ℚ◌}
use Rattle.rational.proofs.RationalRing.{ring_ℚ}
use Rattle.rational.proofs.Ring.{◌≐◌, ◌⊙◌≗◌⟹◌, ◌⊖◌, ◌⊗◌, 𝟘, 𝟙}
use Rattle.rational.proofs.Linear.{linear, ◌≺◌, ◌⟹◌, never}
use Rattle.rational.proofs.SumLaws.{sum-cong, sum-sub, at_or_other, sum-unit_right}
use Rattle.lp_run.specs.Instance.{Instance, bounds, coefficient, cost, row_count}
use Rattle.rational.specs.Sparse.{at_index}
use Rattle.lp_run.specs.State.{State, basic, status_of}
use Rattle.lp_run.specs.Solution.{ColumnOf, Prices, Regular, basis_entry, basis_times, reduced}
use Rattle.lp_run.specs.Step.{Eligible, Enters, IsFinal, IsFree, IsLimit, IsNext, Leaves, Limit, Improves, NotAfter, Pivoting, Rests, StepsBy, ArtificialsZero, Turns, direction, distance_at, limit_at, own_limit}
use Rattle.std.specs.Option.{option_map}
use Rattle.rational.proofs.SparseLaws.{at_index-same, at_index-other}
use Rattle.lp_run.proofs.Regularity.{one_prices, one_values, one_column}

not_below_itself : (a : ℚ) → a <ℚ a → ⊥
not_below_itself a h = linear 1 (λ x. x ≺ x ⟹ never) (omega (arith, ints)) a h

stays_at_zero : (st : Status) (d : ℚ) → Improves st d → d ≡ zero_ℚ → ⊥
stays_at_zero status.Basic d h e = h
stays_at_zero status.Lower d h e = not_below_itself zero_ℚ (subst (λ z. z <ℚ zero_ℚ) e h)
stays_at_zero status.Upper d h e = not_below_itself zero_ℚ (subst (λ z. zero_ℚ <ℚ z) e h)
stays_at_zero status.Zero d h e = h e

zero_below_one : zero_ℚ <ℚ one_ℚ
zero_below_one = linear 0 (𝟘 ≺ 𝟙) (omega (arith, ints))

one_not_zero : zero_ℚ ≡ one_ℚ → ⊥
one_not_zero e = not_below_itself one_ℚ (subst (λ z. z <ℚ one_ℚ) e zero_below_one)

-- the unit vector of a position, through the basis matrix, is the column there
module _ (inst : Instance) (s : State) where
  unit_times : (i p : ℕ) → p < row_count inst → basis_times inst s (λ k. at_index k p one_ℚ) i ≡ basis_entry inst s i p
  unit_times i p within = sum-unit_right (row_count inst) p (basis_entry inst s i) within

  -- the reduced cost of a basic column is 0
  pub basic_reduced : (y : List ℚ) → Prices inst s y → (p : ℕ) → p < row_count inst → reduced inst s y (basic s p) ≡ zero_ℚ
  basic_reduced y h p within = ap (λ z. cost inst s.phase (basic s p) -ℚ z) (h.solves p within) ∙ ring_ℚ 1 (λ a. a ⊖ a ≐ 𝟘) tt (cost inst s.phase (basic s p))

  -- an eligible column is not basic
  pub eligible_not_basic : (y : List ℚ) (q : ℕ) → Prices inst s y → Eligible inst s y q → (p : ℕ) → p < row_count inst → basic s p ≢ q
  eligible_not_basic y q h e p within same = stays_at_zero (status_of s q) (reduced inst s y q) e.improves (ap (reduced inst s y) (sym same) ∙ basic_reduced y h p within)

  -- no column stands in two positions of a regular state
  pub one_position : Regular inst s → (p p' : ℕ) → p < row_count inst → p' < row_count inst → basic s p ≡ basic s p' → p ≡ p'
  one_position regular p p' within also same =
      at_or_other (λ k. k ≡ p') p' p refl (λ other. absurd (apart other))
    where
      nothing : (p ≢ p') → (i : ℕ) → i < row_count inst → basis_times inst s (λ k. at_index k p one_ℚ -ℚ at_index k p' one_ℚ) i ≡ zero_ℚ
      nothing other i b =
          sum-cong (row_count inst) _ _ (λ k c. ring_ℚ 3 (λ e u v. e ⊗ (u ⊖ v) ≐ e ⊗ u ⊖ e ⊗ v) tt (basis_entry inst s i k) (at_index k p one_ℚ) (at_index k p' one_ℚ))
          ∙ sum-sub (row_count inst) (λ k. basis_entry inst s i k *ℚ at_index k p one_ℚ) (λ k. basis_entry inst s i k *ℚ at_index k p' one_ℚ)
          ∙ ap₂ ◌-ℚ◌ (unit_times i p within) (unit_times i p' also ∙ ap (coefficient inst i) (sym same))
          ∙ ring_ℚ 1 (λ a. a ⊖ a ≐ 𝟘) tt (basis_entry inst s i p)

      apart : (p ≢ p') → ⊥
      apart other =
          let here : at_index p p one_ℚ -ℚ at_index p p' one_ℚ ≡ zero_ℚ = regular.columns (λ k. at_index k p one_ℚ -ℚ at_index k p' one_ℚ) (nothing other) p within in
          one_not_zero (sym here ∙ ap₂ ◌-ℚ◌ (at_index-same p one_ℚ) (at_index-other p p' one_ℚ other) ∙ ring_ℚ 0 (𝟙 ⊖ 𝟘 ≐ 𝟙) tt)

-- ── one entering column, one limit ──

some_injective : (a b : Limit) → Some a ≡ Some b → a ≡ b
some_injective a b e = cc

module _ (inst : Instance) (s : State) (y : List ℚ) where
  pub one_entering : (q q' : ℕ) → Enters inst s y q → Enters inst s y q' → q ≡ q'
  one_entering q q' h h' = by_order (λ less. h'.least q less h.eligible) (λ less. h.least q' less h'.eligible)
    where
      by_order : (q < q' → ⊥) → (q' < q → ⊥) → q ≡ q'
      by_order f g = omega arith

-- two limits, neither of which comes after the other, agree in ratio and column
pub same_limit : (a b : Limit) → NotAfter a b → NotAfter b a → (a.ratio ≡ b.ratio) × (a.column ≡ b.column)
same_limit a b (inl less) (inl more) = absurd (linear 2 (λ x y. x ≺ y ⟹ y ≺ x ⟹ never) (omega (arith, ints)) a.ratio b.ratio less more)
same_limit a b (inl less) (inr more) = absurd (not_below_itself a.ratio (subst (λ z. a.ratio <ℚ z) more.0 less))
same_limit a b (inr less) (inl more) = absurd (not_below_itself b.ratio (subst (λ z. b.ratio <ℚ z) less.0 more))
same_limit a b (inr less) (inr more) = (less.0, omega (arith, less.1, more.1))

-- what holds of every value that a function gives holds of what it makes of an option
pub mapped : {A : Type 0} (P : Limit → Type 0) (f : A → Limit) → ((d : A) → P (f d)) → (o : Option A) (limit : Limit) → option_map f o ≡ Some limit → P limit
mapped P f h None limit e = absurd (cc e)
mapped P f h (Some d) limit e = subst P (some_injective (f d) limit e) (h d)

-- the limit of the entering column itself is a flip of it
pub own_limit_is : (lower upper : Option ℚ) (q : ℕ) (limit : Limit) → own_limit (record { lower = lower; upper = upper }) q ≡ Some limit → (limit.column ≡ q) × (limit.entry ≡ Flip q)
own_limit_is None upper q limit e = absurd (cc e)
own_limit_is (Some l) None q limit e = absurd (cc e)
own_limit_is (Some l) (Some u) q limit e =
    let same = some_injective _ limit e in
    (sym (ap (λ a. a.column) same), sym (ap (λ a. a.entry) same))

module _ (inst : Instance) (s : State) (regular : Regular inst s) (q : ℕ) (t : ℚ) (β α : List ℚ) (not_basic : (p : ℕ) → p < row_count inst → basic s p ≢ q) where
  -- the column of a position's limit is the one that is basic there
  limit_column : (p : ℕ) (limit : Limit) → limit_at inst s q t β α p ≡ Some limit → limit.column ≡ basic s p
  limit_column p limit e = mapped (λ a. a.column ≡ basic s p) _ (λ d. refl) (distance_at inst s t β α p) limit e

  own_column : (limit : Limit) → own_limit (bounds inst s.phase q) q ≡ Some limit → limit.column ≡ q
  own_column limit e = (own_limit_is (bounds inst s.phase q).lower (bounds inst s.phase q).upper q limit e).0

  same_entry : (a b : Limit) → IsLimit inst s q t β α a → IsLimit inst s q t β α b → a.column ≡ b.column → a ≡ b
  same_entry a b (inl (p, within, e)) (inl (p', also, e')) columns =
      let here : p ≡ p' = one_position inst s regular p p' within also (sym (limit_column p a e) ∙ columns ∙ limit_column p' b e') in
      some_injective a b (sym e ∙ ap (limit_at inst s q t β α) here ∙ e')
  same_entry a b (inl (p, within, e)) (inr e') columns = absurd (not_basic p within (sym (limit_column p a e) ∙ columns ∙ own_column b e'))
  same_entry a b (inr e) (inl (p, within, e')) columns = absurd (not_basic p within (sym (limit_column p b e') ∙ sym columns ∙ own_column a e))
  same_entry a b (inr e) (inr e') columns = some_injective a b (sym e ∙ e')

  pub one_leaving : (a b : Limit) → Leaves inst s q t β α a → Leaves inst s q t β α b → a ≡ b
  one_leaving a b h h' = same_entry a b h.is_limit h'.is_limit (same_limit a b (h.first b h'.is_limit) (h'.first a h.is_limit)).1

-- ── one next entry ──

module _ (inst : Instance) (s : State) (regular : Regular inst s) where
  not_both : (y β y' β' α : List ℚ) (q : ℕ) → Rests inst s y β → Pivoting inst s y' β' α q → ⊥
  not_both y β y' β' α q rests pivoting =
      rests.none_eligible q (subst (λ v. Eligible inst s v q) (one_prices inst s regular y' y pivoting.prices rests.prices) pivoting.enters.eligible)

  -- two steps from one state work with the same numbers
  module _ (y β α : List ℚ) (q : ℕ) (y' β' α' : List ℚ) (q' : ℕ) (h : Pivoting inst s y β α q) (h' : Pivoting inst s y' β' α' q') where
    same_y : y' ≡ y
    same_y = one_prices inst s regular y' y h'.prices h.prices

    pub same_q : q' ≡ q
    same_q = one_entering inst s y q' q (subst (λ v. Enters inst s v q') same_y h'.enters) h.enters

    same_β : β' ≡ β
    same_β = one_values inst s regular β' β h'.values h.values

    same_α : α' ≡ α
    same_α = one_column inst s regular q α' α (subst (λ k. ColumnOf inst s k α') same_q h'.column) h.column

    -- what is said of the second step's numbers holds of the first's
    pub carried : (P : ℕ → ℚ → List ℚ → List ℚ → Type 0) → P q' (direction (reduced inst s y' q')) β' α' → P q (direction (reduced inst s y q)) β α
    carried P p =
        subst (λ v. P q (direction (reduced inst s y q)) β v) same_α
        (subst (λ v. P q (direction (reduced inst s y q)) v α') same_β
        (subst (λ v. P q (direction (reduced inst s v q)) β' α') same_y
        (subst (λ k. P k (direction (reduced inst s y' k)) β' α') same_q p)))

  one_step : (e e' : Entry) → StepsBy inst s e → StepsBy inst s e' → e ≡ e'
  one_step e e' (y, β, α, q, limit, pivoting, leaves, is) (y', β', α', q', limit', pivoting', leaves', is') =
      let there = carried y β α q y' β' α' q' pivoting pivoting' (λ q t β α. Leaves inst s q t β α limit') leaves' in
      sym is ∙ ap (λ a. a.entry) (one_leaving inst s regular q (direction (reduced inst s y q)) β α
      (eligible_not_basic inst s y q pivoting.prices pivoting.enters.eligible) limit limit' leaves there) ∙ is'

  no_turn : (e : Entry) → StepsBy inst s e → Turns inst s → ⊥
  no_turn e (y, β, α, q, limit, pivoting, leaves, is) turns = not_both turns.1.0 turns.1.1 y β α q turns.1.2 pivoting

  pub one_next : (e e' : Entry) → IsNext inst s e → IsNext inst s e' → e ≡ e'
  one_next (Flip q) (Flip q') h h' = one_step (Flip q) (Flip q') h h'
  one_next (Flip q) (Swap q' p' end') h h' = one_step (Flip q) (Swap q' p' end') h h'
  one_next (Flip q) Turn h h' = absurd (no_turn (Flip q) h h')
  one_next (Swap q p end) (Flip q') h h' = one_step (Swap q p end) (Flip q') h h'
  one_next (Swap q p end) (Swap q' p' end') h h' = one_step (Swap q p end) (Swap q' p' end') h h'
  one_next (Swap q p end) Turn h h' = absurd (no_turn (Swap q p end) h h')
  one_next Turn (Flip q') h h' = absurd (no_turn (Flip q') h' h)
  one_next Turn (Swap q' p' end') h h' = absurd (no_turn (Swap q' p' end') h' h)
  one_next Turn Turn h h' = refl

  no_step_at_end : (e : Entry) → StepsBy inst s e → IsFinal inst s → ⊥
  no_step_at_end e (y, β, α, q, limit, pivoting, leaves, is) (inl (y', β', ends)) = not_both y' β' y β α q ends.1 pivoting
  no_step_at_end e (y, β, α, q, limit, pivoting, leaves, is) (inr (inl (y', β', ends))) = not_both y' β' y β α q ends.1 pivoting
  no_step_at_end e (y, β, α, q, limit, pivoting, leaves, is) (inr (inr (y', β', α', q', ends))) =
      carried y β α q y' β' α' q' pivoting ends.0 (λ q t β α. IsFree inst s q t β α) ends.1 limit leaves.is_limit

  no_turn_at_end : Turns inst s → IsFinal inst s → ⊥
  no_turn_at_end turns (inl (y, β, ends)) = apart (sym turns.0 ∙ ends.0)
    where
      apart : One ≡ Two → ⊥
      apart e = cc
  no_turn_at_end turns (inr (inl (y, β, ends))) = ends.2 (subst (ArtificialsZero inst s) (one_values inst s regular turns.1.1 β turns.1.2.values ends.1.values) turns.1.3)
  no_turn_at_end turns (inr (inr (y, β, α, q, ends))) = not_both turns.1.0 turns.1.1 y β α q turns.1.2 ends.0

  pub no_next_at_end : (e : Entry) → IsNext inst s e → IsFinal inst s → ⊥
  no_next_at_end (Flip q) h end = no_step_at_end (Flip q) h end
  no_next_at_end (Swap q p side) h end = no_step_at_end (Swap q p side) h end
  no_next_at_end Turn h end = no_turn_at_end h end

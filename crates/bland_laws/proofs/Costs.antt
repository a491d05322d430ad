-- Along a run the objective of a phase does not rise, and at two states with the same statuses it is the same.
use Rattle.std.proofs.Common.{◌≡◌, ℕ, ◌<◌, ◌≤◌, List, [], ◌∷◌, refl, sym, ◌∙◌, ap, ap₂, subst, arith}
use Rattle.std.proofs.lemmas.Int.{ints}
use Rattle.lp_model.specs.declared.Entry.{Entry}
use Rattle.lp_model.specs.declared.Entry.TheVariants.{Flip, Swap, Turn}
use Rattle.lp_model.specs.declared.Phase.{Phase}
use Rattle.lp_model.specs.declared.Phase.TheVariants.{One, Two}
use Rattle.lp_model.specs.declared.Side.{Side}
use Rattle.rational.specs.Rational.{ℚ, zero_ℚ, ◌+ℚ◌, ◌-ℚ◌, ◌*ℚ◌, neg_ℚ, ◌≤ℚ◌, ◌<ℚ◌}
use Rattle.rational.proofs.RationalRing.{ring_ℚ}
use Rattle.rational.proofs.Ring.{◌≐◌, ◌⊙◌≗◌⟹◌, ◌⊕◌, ◌⊗◌, ⊝◌, 𝟘}
use Rattle.rational.proofs.Linear.{linear, ◌≼◌, ◌≺◌, ◌≐◌, ◌⟹◌, never}
use Rattle.rational.specs.Sum.{sum_ℚ, at}
use Rattle.rational.proofs.FieldLaws.{*ℚ_nonzero}
use Rattle.rational.proofs.ProductOrder.{*ℚ_nonnegative}
use Rattle.rational.proofs.SumLaws.{sum-cong}
use Rattle.lp_run.specs.Instance.{Instance, bounds, coefficient, column_count, cost, row_count}
use Rattle.lp_run.specs.Run.{Leads}
use Rattle.lp_run.specs.Solution.{Prices, reduced}
use Rattle.lp_run.specs.State.{State, after, basic, rest, status_of, resting_value}
use Rattle.lp_run.specs.Step.{IsNext, Turns, direction}
use Rattle.bland_laws.specs.Kept.{IsBounded}
use Rattle.bland_laws.proofs.Holding.{Holds, same_values, some_prices}
use Rattle.bland_laws.proofs.Limits.{direction_falls}
use Rattle.bland_laws.proofs.Moving.{FlipStep, SwapStep, flip_step, swap_step}
use Rattle.bland_laws.proofs.Phases.{next_holds}
use Rattle.bland_laws.proofs.Standing.{moves_priced}
use Rattle.bland_laws.proofs.Stepping.{flip_values, flip_weight, forward, swap_values, swap_weight}
use Rattle.bland_laws.proofs.Weights.{along, along_cost, priced_weight, weight}

-- ── the phases of a run ──

pub rank : Phase → ℕ
rank One = 0
rank Two = 1

rank_below : (f : Phase) → rank f ≤ 1
unfolding rank
rank_below One = omega arith
rank_below Two = omega arith

one_phase : (f g : Phase) → rank f ≤ rank g → rank g ≤ rank f → f ≡ g
unfolding rank
one_phase One One h k = refl
one_phase One Two h k = absurd (omega arith)
one_phase Two One h k = absurd (omega arith)
one_phase Two Two h k = refl

pub next_rank : (inst : Instance) (s : State) (e : Entry) → IsNext inst s e → rank s.phase ≤ rank (after s e).phase
unfolding rank
next_rank inst s (Flip q) next = omega arith
next_rank inst s (Swap q p r) next = omega arith
next_rank inst s Turn next = rank_below s.phase

pub leads_rank : (inst : Instance) (s : State) (log : List Entry) (t : State) → Leads inst s log t → rank s.phase ≤ rank t.phase
leads_rank inst s [] t leads = subst (λ a. rank s.phase ≤ rank a.phase) leads (omega arith)
leads_rank inst s (e ∷ log) t leads = omega (arith, next_rank inst s e leads.0, leads_rank inst (after s e) log t leads.1)

-- a phase that a run leaves and comes back to is one phase
pub between_phases : (f g h : Phase) → rank f ≤ rank g → rank g ≤ rank h → f ≡ h → g ≡ f
between_phases f g h low high same = one_phase g f (subst (λ a. rank g ≤ rank a) (sym same) high) low

pub turn_changes : (inst : Instance) (s : State) → Turns inst s → s.phase ≡ (after s Turn).phase → ⊥
turn_changes inst s turns same = apart (sym turns.0 ∙ same)
  where
    apart : One ≡ Two → ⊥
    apart e = cc e

-- ── one move ──

module _ (inst : Instance) where
  -- the values of a state do not depend on how they were found
  pub same_weight : (s : State) (h k : Holds inst s) (w : ℕ → ℚ) → weight inst s h.β w ≡ weight inst s k.β w
  same_weight s h k w = ap (λ β. weight inst s β w) (same_values inst s k h.β h.values)

  -- a step of the entering column by a ratio, along which each weight changes
  pub record Move (s s' : State) (h : Holds inst s) (h' : Holds inst s') : Type 0 where
    pub y : List ℚ
    pub α : List ℚ
    pub q : ℕ
    pub ratio : ℚ
    pub forward : zero_ℚ ≤ℚ ratio
    pub falls : direction (reduced inst s y q) *ℚ reduced inst s y q <ℚ zero_ℚ
    pub costs : along inst s q α (cost inst s.phase) ≡ reduced inst s y q
    pub changes : (w : ℕ → ℚ) → weight inst s' h'.β w ≡ weight inst s h.β w +ℚ (direction (reduced inst s y q) *ℚ ratio) *ℚ along inst s q α w

  module _ (bounded : IsBounded inst) where
    abbrev pub flip_move : (s : State) (h : Holds inst s) (q : ℕ) (h' : Holds inst (after s (Flip q))) → FlipStep inst s q → Move s (after s (Flip q)) h h'
    flip_move s h q h' f = record {
      y = f.y;
      α = f.α;
      q = q;
      ratio = f.limit.ratio;
      forward = forward inst bounded s h f.y f.β f.α q f.pivoting f.limit f.leaves;
      falls = direction_falls (reduced inst s f.y q) (moves_priced (status_of s q) (reduced inst s f.y q) f.pivoting.enters.eligible.improves);
      costs = along_cost inst s q f.α f.pivoting.column f.y f.pivoting.prices;
      changes = λ w. ap (λ β. weight inst (after s (Flip q)) β w)
          (sym (same_values inst (after s (Flip q)) h' _ (flip_values inst bounded s h f.y f.β f.α q f.pivoting f.limit f.leaves f.own)))
          ∙ flip_weight inst bounded s h f.y f.β f.α q f.pivoting f.limit f.leaves f.own w
          ∙ ap (λ β. weight inst s β w +ℚ (direction (reduced inst s f.y q) *ℚ f.limit.ratio) *ℚ along inst s q f.α w)
          (same_values inst s h f.β f.pivoting.values);
    }

    abbrev pub swap_move : (s : State) (h : Holds inst s) (q p : ℕ) (r : Side) (h' : Holds inst (after s (Swap q p r))) → SwapStep inst s q p r
        → Move s (after s (Swap q p r)) h h'
    swap_move s h q p r h' f = record {
      y = f.y;
      α = f.α;
      q = q;
      ratio = f.limit.ratio;
      forward = forward inst bounded s h f.y f.β f.α q f.pivoting f.limit f.leaves;
      falls = direction_falls (reduced inst s f.y q) (moves_priced (status_of s q) (reduced inst s f.y q) f.pivoting.enters.eligible.improves);
      costs = along_cost inst s q f.α f.pivoting.column f.y f.pivoting.prices;
      changes = λ w. ap (λ β. weight inst (after s (Swap q p r)) β w)
          (sym (same_values inst (after s (Swap q p r)) h' _ (swap_values inst bounded s h f.y f.β f.α q f.pivoting f.limit f.leaves p f.position r f.meets)))
          ∙ swap_weight inst bounded s h f.y f.β f.α q f.pivoting f.limit f.leaves p f.position r f.meets w
          ∙ ap (λ β. weight inst s β w +ℚ (direction (reduced inst s f.y q) *ℚ f.limit.ratio) *ℚ along inst s q f.α w)
          (same_values inst s h f.β f.pivoting.values);
    }

    -- an entry that keeps the phase is a move
    pub next_move : (s : State) (h : Holds inst s) (e : Entry) (h' : Holds inst (after s e)) → IsNext inst s e → s.phase ≡ (after s e).phase
        → Move s (after s e) h h'
    next_move s h (Flip q) h' next same = flip_move s h q h' (flip_step inst s q next)
    next_move s h (Swap q p r) h' next same = swap_move s h q p r h' (swap_step inst s q p r next)
    next_move s h Turn h' next same = absurd (turn_changes inst s next same)

  -- ── the objective of a phase ──

  abbrev pub total : (s : State) → Holds inst s → ℚ
  total s h = weight inst s h.β (cost inst s.phase)

  module _ (s s' : State) (h : Holds inst s) (h' : Holds inst s') (same : s.phase ≡ s'.phase) (move : Move s s' h h') where
    falls_by : total s' h' ≡ total s h +ℚ move.ratio *ℚ (direction (reduced inst s move.y move.q) *ℚ reduced inst s move.y move.q)
    falls_by =
        ap (λ f. weight inst s' h'.β (cost inst f)) (sym same) ∙ move.changes (cost inst s.phase)
        ∙ ap (λ z. total s h +ℚ (direction (reduced inst s move.y move.q) *ℚ move.ratio) *ℚ z) move.costs
        ∙ ring_ℚ 4 (λ w t x d. w ⊕ t ⊗ x ⊗ d ≐ w ⊕ x ⊗ (t ⊗ d)) tt (total s h) (direction (reduced inst s move.y move.q)) move.ratio
        (reduced inst s move.y move.q)

    pub move_falls : total s' h' ≤ℚ total s h
    move_falls =
        linear 4 (λ w' w p n. w' ≐ w ⊕ p ⟹ 𝟘 ≼ n ⟹ n ≐ ⊝ p ⟹ w' ≼ w) (omega (arith, ints)) (total s' h') (total s h)
        (move.ratio *ℚ (direction (reduced inst s move.y move.q) *ℚ reduced inst s move.y move.q))
        (move.ratio *ℚ neg_ℚ (direction (reduced inst s move.y move.q) *ℚ reduced inst s move.y move.q)) falls_by
        (*ℚ_nonnegative move.ratio (neg_ℚ (direction (reduced inst s move.y move.q) *ℚ reduced inst s move.y move.q)) move.forward
        (linear 1 (λ x. x ≺ 𝟘 ⟹ 𝟘 ≼ ⊝ x) (omega (arith, ints)) (direction (reduced inst s move.y move.q) *ℚ reduced inst s move.y move.q) move.falls))
        (ring_ℚ 2 (λ x f. x ⊗ (⊝ f) ≐ ⊝ (x ⊗ f)) tt move.ratio (direction (reduced inst s move.y move.q) *ℚ reduced inst s move.y move.q))

    -- a move that leaves the objective as it was has no length
    pub move_still : total s h ≤ℚ total s' h' → move.ratio ≡ zero_ℚ
    move_still back =
        *ℚ_nonzero (direction (reduced inst s move.y move.q) *ℚ reduced inst s move.y move.q) move.ratio
        (λ e. linear 1 (λ x. x ≺ 𝟘 ⟹ x ≐ 𝟘 ⟹ never) (omega (arith, ints))
        (direction (reduced inst s move.y move.q) *ℚ reduced inst s move.y move.q) move.falls e)
        (linear 3 (λ w' w p. w' ≐ w ⊕ p ⟹ w' ≼ w ⟹ w ≼ w' ⟹ p ≐ 𝟘) (omega (arith, ints)) (total s' h') (total s h)
        (move.ratio *ℚ (direction (reduced inst s move.y move.q) *ℚ reduced inst s move.y move.q)) falls_by move_falls back)

    -- and then every weight stays
    pub weights_stay : move.ratio ≡ zero_ℚ → (w : ℕ → ℚ) → weight inst s' h'.β w ≡ weight inst s h.β w
    weights_stay none w =
        move.changes w ∙ ap (λ x. weight inst s h.β w +ℚ (direction (reduced inst s move.y move.q) *ℚ x) *ℚ along inst s move.q move.α w) none
        ∙ ring_ℚ 3 (λ v t a. v ⊕ t ⊗ 𝟘 ⊗ a ≐ v) tt (weight inst s h.β w) (direction (reduced inst s move.y move.q)) (along inst s move.q move.α w)

  pub total_same : (s t : State) → s ≡ t → (h : Holds inst s) (k : Holds inst t) → total t k ≤ℚ total s h
  total_same s t e h = subst (λ a. (k : Holds inst a) → total a k ≤ℚ total s h) e
      (λ k. linear 2 (λ x y. x ≐ y ⟹ x ≼ y) (omega (arith, ints)) (total s k) (total s h) (same_weight s k h (cost inst s.phase)))

  -- a run within a phase does not raise the objective
  pub leads_falls : IsBounded inst → (s : State) (h : Holds inst s) (log : List Entry) (t : State) (k : Holds inst t) → Leads inst s log t
      → s.phase ≡ t.phase → total t k ≤ℚ total s h
  leads_falls bounded s h [] t k leads same = total_same s t leads h k
  leads_falls bounded s h (e ∷ log) t k leads same =
      let h' = next_holds inst bounded s h e leads.0 in
      let here : (after s e).phase ≡ s.phase = between_phases s.phase (after s e).phase t.phase (next_rank inst s e leads.0)
      (leads_rank inst (after s e) log t leads.1) same in
      linear 3 (λ a b c. c ≼ b ⟹ b ≼ a ⟹ c ≼ a) (omega (arith, ints)) (total s h) (total (after s e) h') (total t k)
      (leads_falls bounded (after s e) h' log t k leads.1 (here ∙ same))
      (move_falls s (after s e) h h' (sym here) (next_move bounded s h e h' leads.0 (sym here)))

  -- ── the same statuses ──

  module _ (s s' : State) (h : Holds inst s) (h' : Holds inst s') (phases : s.phase ≡ s'.phase) (statuses : (j : ℕ) → j < column_count inst
      → status_of s j ≡ status_of s' j) where
    same_rest : (j : ℕ) → j < column_count inst → rest inst s' j ≡ rest inst s j
    same_rest j b = ap₂ resting_value (sym (statuses j b)) (ap (λ f. bounds inst f j) (sym phases))

    -- the prices of the one are those of the other, though the positions may differ
    same_prices : (y : List ℚ) → Prices inst s y → Prices inst s' y
    same_prices y prices = record { one_each = prices.one_each; solves = priced }
      where
        priced : (p : ℕ) → p < row_count inst → sum_ℚ (row_count inst) (λ i. at y i *ℚ coefficient inst i (basic s' p)) ≡ cost inst s'.phase (basic s' p)
        priced p b =
            let (k, c, there) = h.found (basic s' p) (h'.table.within p b) (statuses (basic s' p) (h'.table.within p b) ∙ h'.marked p b) in
            subst (λ j. sum_ℚ (row_count inst) (λ i. at y i *ℚ coefficient inst i j) ≡ cost inst s'.phase j) there (prices.solves k c
            ∙ ap (λ f. cost inst f (basic s k)) phases)

    pub same_total : total s h ≡ total s' h'
    same_total =
        let y = (some_prices inst s h).0 in
        let prices = (some_prices inst s h).1 in
        priced_weight inst s h.β h.values y prices
        ∙ ap (λ z. sum_ℚ (row_count inst) (λ i. at y i *ℚ at inst.right i) +ℚ z)
        (sum-cong (column_count inst) _ _ (λ j b. ap₂ ◌*ℚ◌ (ap (λ f. cost inst f j -ℚ sum_ℚ (row_count inst) (λ i. at y i *ℚ coefficient inst i j)) phases)
        (sym (same_rest j b))))
        ∙ sym (priced_weight inst s' h'.β h'.values y (same_prices y prices))

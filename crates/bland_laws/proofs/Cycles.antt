-- Bland's theorem: within a phase no run comes back to the same statuses.
use Rattle.std.proofs.Common.{◌≡◌, ◌≢◌, ℕ, zero, suc, ◌<◌, ◌≤◌, ◌⊎◌, inl, inr, List, [], ◌∷◌, ◌++◌, IsFalse, refl, sym, ◌∙◌, subst, arith}
use Rattle.std.proofs.lemmas.Int.{ints}
use Rattle.lp_model.specs.declared.Entry.{Entry}
use Rattle.lp_model.specs.declared.Entry.TheVariants.{Flip, Swap, Turn}
use Rattle.lp_model.specs.declared.Side.{Side}
use Rattle.lp_model.specs.declared.Status.TheVariants as status
use Rattle.rational.specs.Rational.{ℚ, zero_ℚ, ◌≤ℚ◌}
use Rattle.rational.proofs.Ring.{𝟘}
use Rattle.rational.proofs.Linear.{linear, ◌≼◌, ◌≺◌, ◌≐◌, ◌⟹◌, never}
use Rattle.rational.proofs.SumLaws.{at_or_other}
use Rattle.lp_run.specs.Instance.{Instance, bounds, column_count}
use Rattle.lp_run.specs.Run.{Leads}
use Rattle.lp_run.specs.Solution.{reduced}
use Rattle.lp_run.specs.State.{State, after, basic, status_of}
use Rattle.lp_run.specs.Step.{IsNext, is_fixed}
use Rattle.bland_laws.specs.Kept.{IsBounded}
use Rattle.bland_laws.proofs.Costs.{between_phases, flip_move, leads_falls, leads_rank, move_still, next_move, same_total, same_weight, swap_move, total, turn_changes, weights_stay}
use Rattle.bland_laws.proofs.Greatest.{not_both}
use Rattle.bland_laws.proofs.Holding.{Holds}
use Rattle.bland_laws.proofs.Moving.{SwapStep, flip_step, swap_step}
use Rattle.bland_laws.proofs.Phases.{leads_holds, next_holds}
use Rattle.bland_laws.proofs.Standing.{moves_not_basic}
use Rattle.bland_laws.proofs.Stepping.{flip_length, swap_back, swap_entered, swap_on}
use Rattle.bland_laws.proofs.Weights.{weight}

module _ (inst : Instance) where
  -- a log leads from one state to the other
  abbrev pub Reaches : State → State → Type 0
  Reaches s t = (log : List Entry) × Leads inst s log t

  pub leads_on : (s t u : State) (log log' : List Entry) → Leads inst s log t → Leads inst t log' u → Leads inst s (log ++ log') u
  leads_on s t u [] log' a b = subst (λ x. Leads inst x log' u) (sym a) b
  leads_on s t u (e ∷ log) log' a b = (a.0, leads_on (after s e) t u log log' a.1 b)

  reaches_on : (s t u : State) → Reaches s t → Reaches t u → Reaches s u
  reaches_on s t u a b = (a.0 ++ b.0, leads_on s t u a.0 b.0 a.1 b.1)

  reaches_next : (s t : State) (e : Entry) → Reaches s t → IsNext inst t e → Reaches s (after t e)
  reaches_next s t e a next = reaches_on s t (after t e) a (e ∷ [], (next, refl))

-- the run leads from s to s', which has the same phase and the same statuses
module _ (inst : Instance) (bounded : IsBounded inst) (s s' : State) (h : Holds inst s) (h' : Holds inst s') (phases : s.phase ≡ s'.phase)
    (statuses : (j : ℕ) → j < column_count inst → status_of s j ≡ status_of s' j) where
  reach_holds : (u : State) → Reaches inst s u → Holds inst u
  reach_holds u to = leads_holds inst bounded s h to.0 u to.1

  -- every state between has the phase
  in_phase : (u : State) → Reaches inst s u → Reaches inst u s' → u.phase ≡ s.phase
  in_phase u to back = between_phases s.phase u.phase s'.phase (leads_rank inst s to.0 u to.1) (leads_rank inst u back.0 s' back.1) phases

  -- ── one entry between ──

  module _ (u : State) (e : Entry) (to : Reaches inst s u) (next : IsNext inst u e) (back : Reaches inst (after u e) s') (k : Holds inst u)
      (k' : Holds inst (after u e)) where
    keeps_phase : u.phase ≡ (after u e).phase
    keeps_phase = in_phase u to (e ∷ back.0, (next, back.1)) ∙ sym (in_phase (after u e) (reaches_next inst s u e to next) back)

    -- the objective is no smaller after it
    no_fall : total inst u k ≤ℚ total inst (after u e) k'
    no_fall =
        linear 4 (λ a b c d. b ≼ a ⟹ a ≐ d ⟹ d ≼ c ⟹ b ≼ c) (omega (arith, ints)) (total inst s h) (total inst u k) (total inst (after u e) k')
        (total inst s' h')
        (leads_falls inst bounded s h to.0 u k to.1 (sym (in_phase u to (e ∷ back.0, (next, back.1)))))
        (same_total inst s s' h h' phases statuses)
        (leads_falls inst bounded (after u e) k' back.0 s' h' back.1 (in_phase (after u e) (reaches_next inst s u e to next) back ∙ phases))

    -- so every weight stays
    entry_stays : (w : ℕ → ℚ) → weight inst (after u e) k'.β w ≡ weight inst u k.β w
    entry_stays =
        let move = next_move inst bounded u k e k' next keeps_phase in
        weights_stay inst u (after u e) k k' keeps_phase move (move_still inst u (after u e) k k' keeps_phase move no_fall)

  no_flip : (u : State) (q : ℕ) → Reaches inst s u → IsNext inst u (Flip q) → Reaches inst (after u (Flip q)) s' → ⊥
  no_flip u q to next back =
      let k = reach_holds u to in
      let k' = next_holds inst bounded u k (Flip q) next in
      let f = flip_step inst u q next in
      let none : f.limit.ratio ≡ zero_ℚ =
      move_still inst u (after u (Flip q)) k k' (keeps_phase u (Flip q) to next back k k') (flip_move inst bounded u k q k' f)
      (no_fall u (Flip q) to next back k k') in
      linear 1 (λ x. x ≐ 𝟘 ⟹ 𝟘 ≺ x ⟹ never) (omega (arith, ints)) f.limit.ratio none
      (flip_length inst bounded u k f.y f.β f.α q f.pivoting f.limit f.leaves f.own)

  no_turn : (u : State) → Reaches inst s u → IsNext inst u Turn → Reaches inst (after u Turn) s' → ⊥
  no_turn u to next back =
      let k = reach_holds u to in
      turn_changes inst u next (keeps_phase u Turn to next back k (next_holds inst bounded u k Turn next))

  -- ── the swaps between ──

  record Visit (u : State) (q p : ℕ) (r : Side) : Type 0 where
    to : Reaches inst s u
    next : IsNext inst u (Swap q p r)
    back : Reaches inst (after u (Swap q p r)) s'

  module _ (u : State) (q p : ℕ) (r : Side) (v : Visit u q p r) where
    visit_holds : Holds inst u
    visit_holds = reach_holds u v.to

    visit_step : SwapStep inst u q p r
    visit_step = swap_step inst u q p r v.next

    visit_still : visit_step.limit.ratio ≡ zero_ℚ
    visit_still =
        let k' = next_holds inst bounded u visit_holds (Swap q p r) v.next in
        move_still inst u (after u (Swap q p r)) visit_holds k' (keeps_phase u (Swap q p r) v.to v.next v.back visit_holds k')
        (swap_move inst bounded u visit_holds q p r k' visit_step)
        (no_fall u (Swap q p r) v.to v.next v.back visit_holds k')

    visit_back : Reaches inst u s'
    visit_back = (Swap q p r ∷ v.back.0, (v.next, v.back.1))

  -- the point stays along the run
  point_stays : (a : State) → Reaches inst s a → (log : List Entry) (b : State) → Leads inst a log b → Reaches inst b s'
      → (k : Holds inst a) (k' : Holds inst b) (w : ℕ → ℚ)
      → weight inst a k.β w ≡ weight inst b k'.β w
  point_stays a to [] b leads back k k' w =
      subst (λ c. (k' : Holds inst c) → weight inst a k.β w ≡ weight inst c k'.β w) leads (λ k'. same_weight inst a k k' w) k'
  point_stays a to (e ∷ log) b leads back k k' w =
      let k₁ = next_holds inst bounded a k e leads.0 in
      sym (entry_stays a e to leads.0 (reaches_on inst (after a e) b s' (log, leads.1) back) k k₁ w)
      ∙ point_stays (after a e) (reaches_next inst s a e to leads.0) log b leads.1 back k₁ k' w

  -- column j enters somewhere between
  abbrev Entered : ℕ → Type 0
  Entered j = (u : State) × (p : ℕ) × (r : Side) × Visit u j p r

  -- column j leaves somewhere between
  abbrev Left : ℕ → Type 0
  Left j = (u : State) × (q p : ℕ) × (r : Side) × Visit u q p r × (basic u p ≡ j)

  -- a column that is basic later was so before or enters between
  was_basic : (a : State) → Reaches inst s a → (log : List Entry) (b : State) → Leads inst a log b → Reaches inst b s' → (j : ℕ)
      → status_of b j ≡ status.Basic → (status_of a j ≡ status.Basic) ⊎ Entered j
  was_basic a to [] b leads back j now = inl (subst (λ c. status_of c j ≡ status.Basic) (sym leads) now)
  was_basic a to (Flip q ∷ log) b leads back j now = absurd (no_flip a q to leads.0 (reaches_on inst (after a (Flip q)) b s' (log, leads.1) back))
  was_basic a to (Turn ∷ log) b leads back j now = absurd (no_turn a to leads.0 (reaches_on inst (after a Turn) b s' (log, leads.1) back))
  was_basic a to (Swap q p r ∷ log) b leads back j now =
      by_rest (was_basic (after a (Swap q p r)) (reaches_next inst s a (Swap q p r) to leads.0) log b leads.1 back j now)
    where
      visit : Visit a q p r
      visit = record { to = to; next = leads.0; back = reaches_on inst (after a (Swap q p r)) b s' (log, leads.1) back }

      f : SwapStep inst a q p r
      f = swap_step inst a q p r leads.0

      by_swap : (j ≡ q) ⊎ (status_of a j ≡ status.Basic) → (status_of a j ≡ status.Basic) ⊎ Entered j
      by_swap (inl same) = inr (subst Entered (sym same) (a, p, r, visit))
      by_swap (inr now) = inl now

      by_rest : (status_of (after a (Swap q p r)) j ≡ status.Basic) ⊎ Entered j → (status_of a j ≡ status.Basic) ⊎ Entered j
      by_rest (inl now) = by_swap (swap_back inst bounded a (reach_holds a to) f.y f.β f.α q f.pivoting f.limit f.leaves p f.position r f.meets j now)
      by_rest (inr entered) = inr entered

  -- a column that is basic is so later or leaves between
  stays_basic : (a : State) → Reaches inst s a → (log : List Entry) (b : State) → Leads inst a log b → Reaches inst b s' → (j : ℕ)
      → status_of a j ≡ status.Basic → (status_of b j ≡ status.Basic) ⊎ Left j
  stays_basic a to [] b leads back j now = inl (subst (λ c. status_of c j ≡ status.Basic) leads now)
  stays_basic a to (Flip q ∷ log) b leads back j now = absurd (no_flip a q to leads.0 (reaches_on inst (after a (Flip q)) b s' (log, leads.1) back))
  stays_basic a to (Turn ∷ log) b leads back j now = absurd (no_turn a to leads.0 (reaches_on inst (after a Turn) b s' (log, leads.1) back))
  stays_basic a to (Swap q p r ∷ log) b leads back j now =
      by_swap (λ on. stays_basic (after a (Swap q p r)) (reaches_next inst s a (Swap q p r) to leads.0) log b leads.1 back j on)
      (swap_on inst bounded a (reach_holds a to) step.y step.β step.α q step.pivoting step.limit step.leaves p step.position r step.meets j now)
    where
      step : SwapStep inst a q p r
      step = swap_step inst a q p r leads.0

      by_swap : (status_of (after a (Swap q p r)) j ≡ status.Basic → (status_of b j ≡ status.Basic) ⊎ Left j) → (basic a p ≡ j)
          ⊎ (status_of (after a (Swap q p r)) j ≡ status.Basic)
          → (status_of b j ≡ status.Basic) ⊎ Left j
      by_swap on (inl left) = inr (a, q, p, r, record { to = to; next = leads.0; back = reaches_on inst (after a (Swap q p r)) b s' (log, leads.1) back }, left)
      by_swap on (inr now) = on now

  entered_within : (j : ℕ) → Entered j → j < column_count inst
  entered_within j (u, p, r, v) = (visit_step u j p r v).pivoting.enters.eligible.in_range

  here : Reaches inst s s
  here = ([], refl)

  there : Reaches inst s' s'
  there = ([], refl)

  -- a column that enters also leaves
  entered_leaves : (g : ℕ) → Entered g → Left g
  entered_leaves g (u, p, r, v) =
      round (stays_basic (after u (Swap g p r)) (reaches_next inst s u (Swap g p r) v.to v.next) v.back.0 s' v.back.1 there g entered)
    where
      f : SwapStep inst u g p r
      f = visit_step u g p r v

      entered : status_of (after u (Swap g p r)) g ≡ status.Basic
      entered = swap_entered inst bounded u (visit_holds u g p r v) f.y f.β f.α g f.pivoting f.limit f.leaves p f.position r f.meets

      not_before : (status_of u g ≡ status.Basic) ⊎ Left g → Left g
      not_before (inl now) = absurd (moves_not_basic (status_of u g) (reduced inst u f.y g) f.pivoting.enters.eligible.improves now)
      not_before (inr left) = left

      round : (status_of s' g ≡ status.Basic) ⊎ Left g → Left g
      round (inl now) = not_before (stays_basic s here v.to.0 u v.to.1 (visit_back u g p r v) g (statuses g f.pivoting.enters.eligible.in_range ∙ now))
      round (inr left) = left

  -- a column that is basic at one state between and not at another enters somewhere
  fickle_enters : (u u' : State) → Reaches inst s u → Reaches inst u s' → Reaches inst s u' → Reaches inst u' s' → (j : ℕ) → j < column_count inst
      → status_of u' j ≡ status.Basic → status_of u j ≢ status.Basic → Entered j
  fickle_enters u u' to back to' back' j b now other = first (was_basic s here to'.0 u' to'.1 back' j now)
    where
      second : (status_of u j ≡ status.Basic) ⊎ Entered j → Entered j
      second (inl before) = absurd (other before)
      second (inr entered) = entered

      first : (status_of s j ≡ status.Basic) ⊎ Entered j → Entered j
      first (inl at_start) = second (was_basic u to back.0 s' back.1 there j (sym (statuses j b) ∙ at_start))
      first (inr entered) = entered

  -- the ends of a column that enters differ
  entered_loose : (j : ℕ) → Entered j → IsFalse (is_fixed (bounds inst s.phase j))
  entered_loose j (u, p, r, v) =
      subst (λ f. IsFalse (is_fixed (bounds inst f j))) (in_phase u v.to (visit_back u j p r v)) (visit_step u j p r v).pivoting.enters.eligible.ends_differ

  -- no column is the greatest that enters
  no_greatest : (g : ℕ) → Entered g → ((j : ℕ) → Entered j → j ≤ g) → ⊥
  no_greatest g (u, p, r, v) most = by_left (entered_leaves g (u, p, r, v))
    where
      by_left : Left g → ⊥
      by_left (u', q', p', r', v', left) =
          not_both inst bounded u u' (visit_holds u g p r v) (visit_holds u' q' p' r' v') g p r (visit_step u g p r v) q' p' r'
          (visit_step u' q' p' r' v') left (visit_still u' q' p' r' v')
          (in_phase u v.to (visit_back u g p r v) ∙ sym (in_phase u' v'.to (visit_back u' q' p' r' v')))
          (λ w. sym (point_stays s here v.to.0 u v.to.1 (visit_back u g p r v) h (visit_holds u g p r v) w)
          ∙ point_stays s here v'.to.0 u' v'.to.1 (visit_back u' q' p' r' v') h (visit_holds u' q' p' r' v') w)
          (λ j b now other.
          let entered = fickle_enters u u' v.to (visit_back u g p r v) v'.to (visit_back u' q' p' r' v') j b now other in
          (most j entered, subst (λ f. IsFalse (is_fixed (bounds inst f j))) (sym (in_phase u v.to (visit_back u g p r v))) (entered_loose j entered)))
          (most q' (u', p', r', v'))

  -- so none enters
  none_enters : (k : ℕ) → ((j : ℕ) → Entered j → j < k) → (j : ℕ) → Entered j → ⊥
  none_enters zero less = λ j entered. never_less j (less j entered)
    where
      never_less : (j : ℕ) → j < 0 → ⊥
      never_less j h = omega arith
  none_enters (suc k) less = none_enters k (λ j. at_or_other (λ j. Entered j → j < k) k j
      (λ entered. absurd (no_greatest k entered (λ i e. at_most i (less i e))))
      (λ other entered. below j other (less j entered)))
    where
      at_most : (i : ℕ) → i < suc k → i ≤ k
      at_most i h = omega arith

      below : (j : ℕ) → j ≢ k → j < suc k → j < k
      below j other h = omega arith

  -- a run that is not empty does not lead from s to s'
  pub no_return : (e : Entry) (log : List Entry) → Leads inst s (e ∷ log) s' → ⊥
  no_return (Flip q) log leads = no_flip s q here leads.0 (log, leads.1)
  no_return Turn log leads = no_turn s here leads.0 (log, leads.1)
  no_return (Swap q p r) log leads = none_enters (column_count inst) entered_within q (s, p, r, record { to = here; next = leads.0; back = (log, leads.1) })

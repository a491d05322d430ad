-- How much a whole run works: one round for each entry of its log and one for its end.
use Rattle.std.proofs.Common.{◌≡◌, ℕ, suc, ◌+◌, ◌-◌, ◌*◌, ◌/◌, ◌≤◌, List, [], ◌∷◌, ◌++◌, length, length-append, Bool, true, false, cond, eqb, refl, sym, ◌∙◌, ap, subst, arith}
use Rattle.std.proofs.lemmas.List.Sums.{sum_by-cons}
use Rattle.std.proofs.lemmas.Bool.{eqb-true}
use Rattle.lp_model.specs.declared.Entry.{Entry}
use Rattle.lp_model.specs.declared.Entry.TheVariants.{Flip, Swap, Turn}
use Rattle.lp_model.specs.declared.Phase.TheVariants.{One, Two}
use Rattle.lp_model.specs.Log.{is_move, moves}
use Rattle.lp_run.specs.Instance.{Instance, row_count}
use Rattle.lp_run.specs.Run.{IsRun, Leads}
use Rattle.lp_run.specs.State.{State, after, start_of}
use Rattle.bland_ratio.specs.Entries.{nonzero_costs, stored_entries}
use Rattle.factor_run.specs.Bound.{making_work, round_work, solve_work}
use Rattle.two_phase.specs.declared.board.Board.{Board}
use Rattle.two_phase.specs.declared.standing.Mode.TheVariants as mode
use Rattle.two_phase.specs.declared.standing.Recorded.TheVariants as recorded
use Rattle.bland_ratio.specs.declared.tickets.Choice.{Choice}
use Rattle.two_phase.specs.declared.standing.Recorded.{Recorded}
use Rattle.two_phase.specs.Board.{FollowsEntry, Records}
use Rattle.two_phase.specs.Inner.Grounds.{IsPlain}
use Rattle.two_phase.proofs.Spending.{factors_mode, true_apart}
use Rattle.two_phase.specs.Modes.{mode_of}
use Rattle.basis_solves.specs.Works.{solve_most}
use Rattle.two_phase.specs.Works.{ground_owed, move_work, recorded_work}
use Rattle.two_phase.proofs.Taking.{moves-more}
use Rattle.two_phase.specs.Tally.{HasRoundWorked, HasWorked, IsTally}

-- ── the turn comes once ──

module _ (inst : Instance) where
  one_phase : (s : State) → s.phase ≡ One → s.phase ≡ Two → ⊥
  one_phase s one two = cc

  -- behind the turn each entry is a move
  behind_turn : (log : List Entry) (s t : State) → s.phase ≡ Two → Leads inst s log t → length log ≡ moves log
  behind_turn [] s t two leads = refl
  behind_turn (Flip q ∷ log) s t two leads =
      let rest : length log ≡ moves log = behind_turn log (after s (Flip q)) t two leads.1 in
      let more : moves (Flip q ∷ log) ≡ 1 + moves log = sum_by-cons (λ e. cond (is_move e) 1 0) (Flip q) log in
      let goal : suc (length log) ≡ moves (Flip q ∷ log) = omega (arith, rest, more) in
      goal
  behind_turn (Swap q p end ∷ log) s t two leads =
      let rest : length log ≡ moves log = behind_turn log (after s (Swap q p end)) t two leads.1 in
      let more : moves (Swap q p end ∷ log) ≡ 1 + moves log = sum_by-cons (λ e. cond (is_move e) 1 0) (Swap q p end) log in
      let goal : suc (length log) ≡ moves (Swap q p end ∷ log) = omega (arith, rest, more) in
      goal
  behind_turn (Turn ∷ log) s t two leads = absurd (one_phase s leads.0.0 two)

  few_turns : (log : List Entry) (s t : State) → Leads inst s log t → length log ≤ moves log + 1
  few_turns [] s t leads = omega arith
  few_turns (Flip q ∷ log) s t leads =
      let rest : length log ≤ moves log + 1 = few_turns log (after s (Flip q)) t leads.1 in
      let more : moves (Flip q ∷ log) ≡ 1 + moves log = sum_by-cons (λ e. cond (is_move e) 1 0) (Flip q) log in
      let goal : suc (length log) ≤ moves (Flip q ∷ log) + 1 = omega (arith, rest, more) in
      goal
  few_turns (Swap q p end ∷ log) s t leads =
      let rest : length log ≤ moves log + 1 = few_turns log (after s (Swap q p end)) t leads.1 in
      let more : moves (Swap q p end ∷ log) ≡ 1 + moves log = sum_by-cons (λ e. cond (is_move e) 1 0) (Swap q p end) log in
      let goal : suc (length log) ≤ moves (Swap q p end ∷ log) + 1 = omega (arith, rest, more) in
      goal
  few_turns (Turn ∷ log) s t leads =
      let rest : length log ≡ moves log = behind_turn log (after s Turn) t refl leads.1 in
      let more : moves (Turn ∷ log) ≡ 0 + moves log = sum_by-cons (λ e. cond (is_move e) 1 0) Turn log in
      let goal : suc (length log) ≤ moves (Turn ∷ log) + 1 = omega (arith, rest, more) in
      goal

  pub few_entries : (log : List Entry) (s : State) → IsRun inst log s → length log ≤ moves log + 1
  few_entries log s run = few_turns log (start_of inst) s run

  -- ── one round more ──

  -- what is worked in a round but for its factorisation: the prices, the choice, and the move
  pub round : ℕ
  round = solve_most (row_count inst) + (stored_entries inst + 2 * row_count inst) + move_work (row_count inst)

  round_fits : round + row_count inst * row_count inst ≤ round_work inst
  unfolding round
  round_fits = omega arith

  module _ (log : List Entry) (k u spent : ℕ) (h : IsTally inst log k u spent) where
    -- a round without a factorisation
    same_makings : (log' : List Entry) (u' more : ℕ) → moves log + u' ≤ moves log' + u → more ≤ round + row_count inst * row_count inst → IsTally inst log' (k + 1) u' (spent + more)
    same_makings log' u' more fewer small = record {
      makings = h.makings;
      rare = omega (arith, h.rare, fewer);
      bounded = omega (arith, h.bounded, small, round_fits);
    }

    more_makings : (log' : List Entry) (more : ℕ) → moves log' ≡ moves log + 1 → u ≡ 64 → more ≤ round + making_work inst → IsTally inst log' (k + 1) 0 (spent + more)
    more_makings log' more moved full small = record {
      makings = h.makings + 1;
      rare = omega (arith, h.rare, moved, full);
      bounded = omega (arith, h.bounded, small, round_fits);
    }

    at_end : (u' more : ℕ) → u' ≡ u → more ≤ round → IsTally inst log (k + 1) u' (spent + more)
    at_end u' more same small = same_makings log u' more (omega (arith, same)) (omega (arith, small))

    after_swap : (t : Bool) (log' : List Entry) (u' more : ℕ) → eqb u 64 ≡ t → moves log' ≡ moves log + 1 → u' ≡ cond t 0 (u + 1)
        → more ≤ round + cond t (making_work inst) (row_count inst * row_count inst) → IsTally inst log' (k + 1) u' (spent + more)
    after_swap true log' u' more is moved follows small = subst (λ u'. IsTally inst log' (k + 1) u' (spent + more)) (sym follows) (more_makings log' more moved (eqb-true u 64 is) small)
    after_swap false log' u' more is moved follows small = same_makings log' u' more (omega (arith, moved, follows)) (omega (arith, small))

    module _ {A : Type 0} (old new : Board A) (factors : mode_of new.ground ≡ mode.Factors) (updates : old.updates ≡ u) where
      pub after_entry : (e : Entry) (log' : List Entry) (more : ℕ) → log' ≡ log ++ e ∷ [] → FollowsEntry old new e → more ≤ round + recorded_work (row_count inst) u (recorded.Entry e)
          → IsTally inst log' (k + 1) new.updates (spent + more)
      after_entry (Flip q) log' more is follows small =
          let moved : moves log' ≡ moves log + 1 = ap moves is ∙ moves-more log (Flip q) in
          same_makings log' new.updates more (omega (arith, moved, follows.1, updates)) (omega (arith, small))
      after_entry Turn log' more is follows small =
          let moved : moves log' ≡ moves log + 0 = ap moves is ∙ moves-more log Turn in
          same_makings log' new.updates more (omega (arith, moved, follows.1, updates)) (omega (arith, small))
      after_entry (Swap q p end) log' more is follows small =
          let moved : moves log' ≡ moves log + 1 = ap moves is ∙ moves-more log (Swap q p end) in
          after_swap (eqb u 64) log' new.updates more refl moved (subst (λ u. new.updates ≡ cond (eqb u 64) 0 (u + 1)) updates (follows.0 factors).1) small

  -- ── the whole ──

  -- the stored entries may be worked once more
  pub whole_work : (log : List Entry) (s : State) → IsRun inst log s → (u made spent closing all : ℕ) → IsTally inst log (length log + 1) u spent → made ≤ stored_entries inst + making_work inst
      → closing ≤ nonzero_costs inst → all ≤ made + spent + closing → all + stored_entries inst ≤ solve_work inst (moves log)
  whole_work log s run u made spent closing all h start end sum =
      let f = h.makings in
      let few : length log + 1 ≤ moves log + 2 = omega (arith, few_entries log s run) in
      let rest : length log + 1 + (moves log + 2 - (length log + 1)) ≡ moves log + 2 = omega (arith, few) in
      let rounds : (length log + 1 + (moves log + 2 - (length log + 1))) * round_work inst ≡ (moves log + 2) * round_work inst = ap (λ a. a * round_work inst) rest in
      let rare : f ≤ moves log / 64 = omega (arith, h.rare) in
      let left : f + (moves log / 64 - f) ≡ moves log / 64 = omega (arith, rare) in
      let makings : (f + (moves log / 64 - f)) * making_work inst ≡ (moves log / 64) * making_work inst = ap (λ a. a * making_work inst) left in
      let spare : stored_entries inst + nonzero_costs inst ≤ round_work inst = omega arith in
      by (moves log) (moves log / 64) (round_work inst) (making_work inst) (length log + 1) f (moves log + 2 - (length log + 1)) (moves log / 64 - f) rounds makings h.bounded spare start end sum
    where
      by : (v d r m k f a b : ℕ) → (k + a) * r ≡ (v + 2) * r → (f + b) * m ≡ d * m → spent ≤ k * r + f * m → stored_entries inst + nonzero_costs inst ≤ r → made ≤ stored_entries inst + m
          → closing ≤ nonzero_costs inst → all ≤ made + spent + closing → all + stored_entries inst ≤ (v + 4) * r + (d + 1) * m
      by v d r m k f a b rounds makings bounded spare start end sum = omega (arith, rounds, makings, bounded, spare, start, end, sum)

  -- ── rounds of a board ──

  pub nothing_worked : (log : List Entry) (updates before : ℕ) → log ≡ [] → updates ≡ 0 → HasWorked inst log (length log) updates before before
  nothing_worked log updates before none fresh = (0, record { makings = 0; rare = omega (arith, fresh); bounded = omega arith }, omega arith)

  module _ {A : Type 0} (old new : Board A) (factors : mode_of new.ground ≡ mode.Factors) (before then now : ℕ) where
    -- what is worked for an entry
    pub entry_worked : (e : Entry) → HasWorked inst old.log (length old.log) old.updates before then → new.log ≡ old.log ++ e ∷ [] → FollowsEntry old new e
        → now ≤ then + (round + recorded_work (row_count inst) old.updates (recorded.Entry e)) → HasWorked inst new.log (length new.log) new.updates before now
    entry_worked e (spent, tally, within) is follows work =
        let longer : length old.log + 1 ≡ length new.log = sym (ap length is ∙ length-append old.log (e ∷ [])) in
        let more = round + recorded_work (row_count inst) old.updates (recorded.Entry e) in (
          spent + more,
          subst (λ k. IsTally inst new.log k new.updates (spent + more)) longer
              (after_entry old.log (length old.log) old.updates spent tally old new factors refl e new.log more is follows (omega arith)),
          omega (arith, within, work),
        )

    -- what is worked for the end
    pub end_worked : HasWorked inst old.log (length old.log) old.updates before then → new.log ≡ old.log → new.updates ≡ old.updates → now ≤ then + (round + 0)
        → HasWorked inst new.log (length new.log + 1) new.updates before now
    end_worked (spent, tally, within) is same work = (
      spent + round,
      subst (λ log. IsTally inst log (length log + 1) new.updates (spent + round)) (sym is) (at_end old.log (length old.log) old.updates spent tally new.updates round same (omega arith)),
      omega (arith, within, work),
    )

  -- a round: the ticket, the choice and what is recorded
  module _ {A : Type 0} (asked new : Board A) (choice : Choice) (fits : choice.unfit ≡ false) (factors : IsPlain new.ground → ⊥) (log : List Entry) (updates : ℕ)
      (same_log : asked.log ≡ log) (same_updates : asked.updates ≡ updates) (owes before b₀ b₁ b₂ a₀ a₁ : ℕ)
      (owed : owes ≤ solve_most (row_count inst)) (unowed : ground_owed (row_count inst) asked.ground ≡ 0)
      (ticket : b₁ ≤ b₀ + owes) (chosen : a₁ ≤ a₀ + (stored_entries inst + 2 * row_count inst)) where
    worked_there : HasWorked inst log (length log) updates before (b₀ + a₀) → HasWorked inst asked.log (length asked.log) asked.updates before (b₀ + a₀)
    worked_there h =
        subst (λ log. HasWorked inst log (length log) asked.updates before (b₀ + a₀)) (sym same_log) (subst (λ u. HasWorked inst log (length log) u before (b₀ + a₀)) (sym same_updates) h)

    pub round_worked : (r : Recorded) → Records asked new choice r → HasWorked inst log (length log) updates before (b₀ + a₀)
        → b₂ ≤ b₁ + (ground_owed (row_count inst) asked.ground + (move_work (row_count inst) + recorded_work (row_count inst) asked.updates r)) → HasRoundWorked inst new before (b₂ + a₁) r
    unfolding round
    round_worked (recorded.Entry e) records h work =
        (factors, entry_worked asked new (factors_mode new.ground factors) before (b₀ + a₀) (b₂ + a₁) e (worked_there h) records.1 records.3 (omega (arith, owed, unowed, ticket, chosen, work)))
    round_worked recorded.Rescued records h work = absurd (true_apart choice.unfit records.0 fits)
    round_worked (recorded.Ended s) records h work =
        end_worked asked new (factors_mode new.ground factors) before (b₀ + a₀) (b₂ + a₁) (worked_there h) records.2 records.3.1 (omega (arith, owed, unowed, ticket, chosen, work))

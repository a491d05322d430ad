-- An iterate after an entry.
use Rattle.std.proofs.Common.{◌≡◌, ◌≢◌, ℕ, ◌+◌, ◌<◌, ◌≤◌, List, [], ◌∷◌, ◌++◌, length, flat_map, ◌-◌, take, length-append}
use Rattle.std.proofs.Common.{arith, Bool, cond, eqb, slice_set, true, false, Some, None, refl, sym, ◌∙◌, ap, subst}
use Rattle.std.proofs.lemmas.List.Sums.{sum_by-append, sum_by-cons}
use Rattle.lp_model.specs.Log.{is_move, moves}
use Rattle.std.proofs.Math.Seq.{take-append_seam}
use Rattle.lp_model.specs.declared.Entry.{Entry}
use Rattle.lp_model.specs.declared.Entry.TheVariants.{Flip, Swap, Turn}
use Rattle.lp_model.specs.declared.Place.{Place}
use Rattle.rational.specs.Rational.{ℚ}
use Rattle.rational.specs.Worked.{done, settle}
use Rattle.rational.proofs.Settling.{settle-answer, settle-done}
use Rattle.lp_run.specs.Instance.{Instance, IsWellFormed, column_count, row_count}
use Rattle.lp_model.specs.declared.Kind.TheVariants as kind
use Rattle.lp_model.specs.declared.Phase.TheVariants.{One}
use Rattle.lp_model.specs.declared.Side.{Side}
use Rattle.lp_run.specs.Listing.{entered as entered_at, first_unfit, place, value_listing}
use Rattle.lp_run.specs.Tableau.{HasTable}
use Rattle.lp_run.proofs.Kept.{after_has_table, regular_from_table}
use Rattle.instance_model.specs.Entries.{CanTake}
use Rattle.factor_model.specs.Update.{HasPivot}
use Rattle.rational.specs.Sparse.{upto}
use Rattle.lp_run.specs.Run.{IsRun}
use Rattle.lp_run.specs.Solution.{Values, basis_entry}
use Rattle.lp_run.specs.State.{State, after, basic, rest, start_of}
use Rattle.lp_run.specs.Step.{ArtificialsZero, Enters, IsNext, NoneEligible, Pivoting}
use Rattle.lp_run.proofs.Regularity.{table_solves}
use Rattle.lp_run.proofs.Runs.{leads_on, reached_has_table}
use Rattle.bland_laws.proofs.Always.{instance_holds}
use Rattle.bland_ratio.specs.declared.ratio_test.Leave.TheVariants as leave
use Rattle.factor_model.specs.Factors.{AreFactors, Factors, most_updates}
use Rattle.factor_run.specs.Built.{StandFor, exchanged, followed}
use Rattle.factor_run.specs.Causes.{Cause, factors as unfollowed}
use Rattle.factor_run.proofs.BuiltLaws.{followed_if-stands}
use Rattle.factor_run.proofs.Causing.{flip_cause, swap_cause}
use Rattle.plain_table.specs.Inner.Values.{values_listing}
use Rattle.plain_table.proofs.Swaps.{flipped_lists, swapped_lists}
use Rattle.two_phase.specs.declared.decision.Decision.{Decision}
use Rattle.two_phase.specs.declared.iterate.Iterate.{Iterate}
use Rattle.basis_solves.specs.Bases.{IsBasis}
use Rattle.two_phase.specs.Inner.Iterates.{AreWorked, HasFollowed, IsEntered, IsIterate, IsSized, IsSpared, IsTaken}
use Rattle.two_phase.specs.declared.reached.Reached.TheVariants as reached
use Rattle.two_phase.specs.declared.reached.Reached.{Reached}
use Rattle.two_phase.specs.Inner.Reaching.{GoesWith, Reaches}
use Rattle.two_phase.proofs.Moving.{flip_next, flip_values, swap_element, swap_next, swap_position, swap_values, turn_values}

pub statused : (w : ℕ) (inst : Instance) → IsWellFormed inst → (log : List Entry) (it : Iterate) → IsIterate w inst log it → (q : ℕ) → q < column_count inst → q < length it.state.statuses
statused w inst well_formed log it h q below = subst (λ n. q < n) (sym (instance_holds inst well_formed log it.state h.reached).each) below

-- what an entry leaves of an iterate: `mid` is the iterate with the basic values and the factors after it worked
pub taken_iterate : (w : ℕ) (inst : Instance) (log : List Entry) (it mid new : Iterate) (e : Entry) → IsIterate w inst log it → IsNext inst it.state e → mid.state ≡ it.state
    → IsSized (row_count inst) mid → length mid.values.items ≡ row_count inst → Values inst (after it.state e) mid.spare.items
    → AreFactors (row_count inst) mid.factors (basis_entry inst (after it.state e))
    → settle w (followed inst (after it.state e) (length log + 1) it.factors e) ≡ Some (Some mid.factors) → IsTaken e mid new → IsIterate w inst (log ++ e ∷ []) new
taken_iterate w inst log it mid new e h next same sized each values factors follows taken = record {
  reached = subst (IsRun inst (log ++ e ∷ [])) (sym there) (leads_on inst (start_of inst) it.state log e h.reached next);
  factors = subst (λ f. AreFactors (row_count inst) f (basis_entry inst new.state)) (sym taken.factors) (subst (λ s. AreFactors (row_count inst) mid.factors (basis_entry inst s)) (sym there) factors);
  few = subst (λ (f : Factors). f.updates ≤ most_updates) (sym taken.factors) stand.1;
  values = subst (λ s. Values inst s new.values.items) (sym there) (subst (λ v. Values inst (after it.state e) v.items) (sym taken.values) values);
  prices = λ is. absurd (apart (sym is ∙ taken.unpriced));
  sized = record {
    prices = ap (λ v. length v.items) taken.prices ∙ sized.prices;
    alpha = ap (λ v. length v.items) taken.alpha ∙ sized.alpha;
    spike = ap (λ v. length v.items) taken.spike ∙ sized.spike;
    spare = ap (λ v. length v.items) taken.spare ∙ each;
    few = sized.few;
  };
}
  where
    there : new.state ≡ after it.state e
    there = taken.state ∙ ap (λ s. after s e) same

    stand : StandFor inst (after it.state e) (Some mid.factors)
    stand =
        subst (StandFor inst (after it.state e)) (settle-answer w (followed inst (after it.state e) (length log + 1) it.factors e) (Some mid.factors) follows)
        (followed_if-stands inst it.state (reached_has_table inst log it.state h.reached) e next (length log + 1) (Some it.factors) (h.factors, h.few))

    apart : true ≡ false → ⊥
    apart e = cc e

-- ── a flip ──

module _ (w : ℕ) (inst : Instance) (well_formed : IsWellFormed inst) (log : List Entry) (it : Iterate) (h : IsIterate w inst log it) (priced : it.is_priced ≡ true) (q : ℕ)
    (enters : Enters inst it.state it.prices.items q) where
  spared_sized : (mid : Iterate) → IsSpared it mid → IsSized (row_count inst) mid
  spared_sized mid kept = record {
    prices = ap (λ v. length v.items) kept.prices ∙ h.sized.prices;
    alpha = ap (λ v. length v.items) kept.alpha ∙ h.sized.alpha;
    spike = ap (λ v. length v.items) kept.spike ∙ h.sized.spike;
    spare = kept.spare ∙ h.sized.spare;
    few = h.sized.few;
  }

  module _ (down : Bool) (r : ℚ) (entered : IsEntered inst q it (record { down = down; leave = leave.Flip r })) where
    pivoting : Pivoting inst it.state it.prices.items it.values.items it.alpha.items q
    pivoting = record { prices = h.prices priced; values = h.values; enters = enters; column = entered.column }

    pub flip_comes : IsNext inst it.state (Flip q)
    flip_comes = flip_next inst well_formed log it.state h.reached it.values.items h.values it.prices.items it.alpha.items q pivoting down entered.decided.turns r entered.decided.decides

    pub flip_taken : (mid new : Iterate) (p : ℕ) → row_count inst ≤ p → IsSpared it mid → AreWorked inst p q down r it mid → IsTaken (Flip q) mid new → IsIterate w inst (log ++ Flip q ∷ []) new
    flip_taken mid new p past kept worked taken =
        taken_iterate w inst log it mid new (Flip q) h flip_comes
        kept.state (spared_sized mid kept) (ap (λ v. length v.items) kept.values ∙ h.values.one_each)
        (flip_values inst well_formed log it.state h.reached it.values.items h.values it.prices.items it.alpha.items q pivoting down entered.decided.turns r entered.decided.decides
        p (rest inst it.state q) mid.spare.items past (kept.spare ∙ h.sized.spare) worked)
        (subst (λ f. AreFactors (row_count inst) f (basis_entry inst it.state)) (sym kept.factors) h.factors)
        (settle-done w (Some it.factors) ∙ ap (λ f. Some (Some f)) (sym kept.factors))
        taken

    pub flip_refused : (k p : ℕ) → k ≡ length log → row_count inst ≤ p → (here : Place) → first_unfit w (values_listing k p down (rest inst it.state q) r it.values.items it.alpha.items) ≡ Some here
        → Cause w inst (length log) it.state it.factors
    flip_refused k p number past here e =
        let has = reached_has_table inst log it.state h.reached in
        flip_cause w inst (length log) it.state it.factors has.table (table_solves inst it.state has.table has.inverse has.entries)
        it.prices.items it.values.items it.alpha.items q pivoting r entered.decided.decides here
        (subst (λ t. first_unfit w (flat_map (value_listing (length log) t r it.values.items it.alpha.items) (upto (row_count inst))) ≡ Some here) (sym entered.decided.turns)
        (ap (first_unfit w) (sym (flipped_lists (row_count inst) (length log) p down (rest inst it.state q) r it.values.items it.alpha.items h.values.one_each past))
        ∙ subst (λ k. first_unfit w (values_listing k p down (rest inst it.state q) r it.values.items it.alpha.items) ≡ Some here) number e))

-- ── a swap ──

spared_is : (it mid : Iterate) → IsSpared it mid → mid ≡ record it { spare = mid.spare }
spared_is it mid kept =
    ap (λ s. record mid { state = s }) kept.state
    ∙ ap (λ f. record mid { state = it.state; factors = f }) kept.factors
    ∙ ap (λ v. record mid { state = it.state; factors = it.factors; values = v }) kept.values
    ∙ ap (λ v. record mid { state = it.state; factors = it.factors; values = it.values; prices = v }) kept.prices
    ∙ ap (λ b. record mid { state = it.state; factors = it.factors; values = it.values; prices = it.prices; is_priced = b }) kept.is_priced
    ∙ ap (λ v. record mid { state = it.state; factors = it.factors; values = it.values; prices = it.prices; is_priced = it.is_priced; alpha = v }) kept.alpha
    ∙ ap (λ v. record it { spike = v; spare = mid.spare }) kept.spike

module _ (w : ℕ) (inst : Instance) (log : List Entry) (it mid : Iterate) (kept : IsSpared it mid) (q : ℕ) where
  pub spared_iterate : IsIterate w inst log it → IsIterate w inst log mid
  spared_iterate h =
      subst (IsIterate w inst log) (sym (spared_is it mid kept)) (record {
        reached = h.reached;
        factors = h.factors;
        few = h.few;
        values = h.values;
        prices = h.prices;
        sized = record { prices = h.sized.prices; alpha = h.sized.alpha; spike = h.sized.spike; spare = kept.spare ∙ h.sized.spare; few = h.sized.few };
      })

  pub spared_entered : (d : Decision) → IsEntered inst q it d → IsEntered inst q mid d
  spared_entered d h = subst (λ i. IsEntered inst q i d) (sym (spared_is it mid kept)) (record { column = h.column; spike = h.spike; form = h.form; decided = h.decided })

  pub spared_enters : Enters inst it.state it.prices.items q → Enters inst mid.state mid.prices.items q
  spared_enters h = subst (λ (i : Iterate). Enters inst i.state i.prices.items q) (sym (spared_is it mid kept)) h

  pub spared_worked : (p : ℕ) (down : Bool) (r : ℚ) → AreWorked inst p q down r it mid → AreWorked inst p q down r mid mid
  spared_worked p down r h = subst (λ i. AreWorked inst p q down r i mid) (sym (spared_is it mid kept)) h

module _ (w : ℕ) (inst : Instance) (well_formed : IsWellFormed inst) (log : List Entry) (it : Iterate) (h : IsIterate w inst log it) (priced : it.is_priced ≡ true) (q : ℕ)
    (enters : Enters inst it.state it.prices.items q) (down : Bool) (p : ℕ) (end : Side) (r : ℚ) (entered : IsEntered inst q it (record { down = down; leave = leave.Out p end r })) where
  going : Pivoting inst it.state it.prices.items it.values.items it.alpha.items q
  going = record { prices = h.prices priced; values = h.values; enters = enters; column = entered.column }

  pub swap_comes : IsNext inst it.state (Swap q p end)
  swap_comes = swap_next inst well_formed log it.state h.reached it.values.items h.values it.prices.items it.alpha.items q going down entered.decided.turns p end r entered.decided.decides

  pub swap_within : p < row_count inst
  swap_within = swap_position inst well_formed log it.state h.reached it.values.items h.values it.prices.items it.alpha.items q going down entered.decided.turns p end r entered.decided.decides

  pub swap_pivots : HasPivot it.factors.upper p it.spike.items
  swap_pivots = (
    it.alpha.items,
    entered.form,
    swap_element inst well_formed log it.state h.reached it.values.items h.values it.prices.items it.alpha.items q going down entered.decided.turns p end r entered.decided.decides,
  )

  has : HasTable inst it.state
  has = reached_has_table inst log it.state h.reached

  pub swap_basis : IsBasis inst (after it.state (Swap q p end)) (slice_set it.state.basis p q)
  swap_basis =
      let then = after_has_table inst it.state has (Swap q p end) swap_comes in
      record { is = refl; positions = then.positions; within = then.within; regular = regular_from_table inst (after it.state (Swap q p end)) then }

  pub swap_can : CanTake it.state (Swap q p end)
  swap_can = (
    statused w inst well_formed log it h q enters.eligible.in_range,
    subst (λ n. p < n) (sym has.positions) swap_within,
    statused w inst well_formed log it h (basic it.state p) (has.within p swap_within),
  )

  pub swap_taken : (mid new : Iterate) → HasFollowed it mid → AreWorked inst p q down r it it
      → AreFactors (row_count inst) mid.factors (basis_entry inst (after it.state (Swap q p end)))
      → (k : ℕ) → k ≡ length log + 1 → settle w (exchanged inst (after it.state (Swap q p end)) k it.factors p q) ≡ Some (Some mid.factors)
      → IsTaken (Swap q p end) mid new → IsIterate w inst (log ++ Swap q p end ∷ []) new
  swap_taken mid new kept worked factors k number follows taken =
      taken_iterate w inst log it mid new (Swap q p end) h swap_comes kept.state
      (record {
        prices = ap (λ v. length v.items) kept.prices ∙ h.sized.prices;
        alpha = ap (λ v. length v.items) kept.alpha ∙ h.sized.alpha;
        spike = ap (λ v. length v.items) kept.spike ∙ h.sized.spike;
        spare = ap (λ v. length v.items) kept.spare ∙ h.sized.spare;
        few = h.sized.few;
      })
      (ap (λ v. length v.items) kept.values ∙ h.values.one_each)
      (subst (λ v. Values inst (after it.state (Swap q p end)) v.items) (sym kept.spare)
      (swap_values inst well_formed log it.state h.reached it.values.items h.values it.prices.items it.alpha.items q going down entered.decided.turns p end r entered.decided.decides
      it.spare.items h.sized.spare worked))
      factors (subst (λ k. settle w (exchanged inst (after it.state (Swap q p end)) k it.factors p q) ≡ Some (Some mid.factors)) number follows) taken

  pub swap_unfollowed : (k : ℕ) → k ≡ length log + 1 → settle w (exchanged inst (after it.state (Swap q p end)) k it.factors p q) ≡ None → Cause w inst (length log) it.state it.factors
  swap_unfollowed k number none =
      unfollowed (Swap q p end) swap_comes (subst (λ k. settle w (exchanged inst (after it.state (Swap q p end)) k it.factors p q) ≡ None) number none)

  pub swap_refused : (k : ℕ) → k ≡ length log → (here : Place) → first_unfit w (values_listing k p down (rest inst it.state q) r it.values.items it.alpha.items) ≡ Some here
      → Cause w inst (length log) it.state it.factors
  swap_refused k number here e =
      swap_cause w inst (length log) it.state it.factors has.table (table_solves inst it.state has.table has.inverse has.entries) it.prices.items it.values.items it.alpha.items q going
      p (basic it.state p) end r entered.decided.decides here
      (subst (λ t. first_unfit w (flat_map (λ i. cond (eqb i p) ((place (length log) kind.Value (Some p) None, entered_at t (rest inst it.state q) r) ∷ [])
      (value_listing (length log) t r it.values.items it.alpha.items i)) (upto (row_count inst))) ≡ Some here) (sym entered.decided.turns)
      (ap (first_unfit w) (sym (swapped_lists (row_count inst) (length log) p down (rest inst it.state q) r it.values.items it.alpha.items h.values.one_each))
      ∙ subst (λ k. first_unfit w (values_listing k p down (rest inst it.state q) r it.values.items it.alpha.items) ≡ Some here) number e))

-- a log of which the entry that came last is taken off is as it was
pub taken_off : (log pushed popped : List Entry) (e : Entry) → pushed ≡ log ++ e ∷ [] → popped ≡ take (length pushed - 1) pushed → popped ≡ log
taken_off log pushed popped e is was =
    was ∙ ap (λ l. take (length l - 1) l) is
    ∙ ap (λ n. take n (log ++ e ∷ [])) (simp length-append (omega arith)) ∙ take-append_seam log (e ∷ [])

-- ── a turn ──

turned_iterate : (w : ℕ) (inst : Instance) → IsWellFormed inst → (log : List Entry) (it : Iterate) → IsIterate w inst log it → IsNext inst it.state Turn → (t : State) → t ≡ after it.state Turn
    → IsIterate w inst (log ++ Turn ∷ []) (record it { state = t; is_priced = false })
turned_iterate w inst well_formed log it h next t is = record {
  reached = subst (IsRun inst (log ++ Turn ∷ [])) (sym is) (leads_on inst (start_of inst) it.state log Turn h.reached next);
  factors = subst (λ s. AreFactors (row_count inst) it.factors (basis_entry inst s)) (sym is) h.factors;
  few = h.few;
  values = subst (λ s. Values inst s it.values.items) (sym is) (turn_values inst well_formed log it.state h.reached it.values.items h.values next);
  prices = λ is. absurd (apart is);
  sized = record { prices = h.sized.prices; alpha = h.sized.alpha; spike = h.sized.spike; spare = h.sized.spare; few = h.sized.few };
}
  where
    apart : false ≡ true → ⊥
    apart e = cc e

pub turn_iterate : (w : ℕ) (inst : Instance) → IsWellFormed inst → (log : List Entry) (it : Iterate) → IsIterate w inst log it → IsNext inst it.state Turn → (t : State) → t ≡ after it.state Turn
    → (log' : List Entry) → log' ≡ log ++ Turn ∷ [] → IsIterate w inst log' (record it { state = t; is_priced = false })
turn_iterate w inst well_formed log it h next t is log' more =
    subst (λ log. IsIterate w inst log (record it { state = t; is_priced = false })) (sym more) (turned_iterate w inst well_formed log it h next t is)

-- how many moves a log has with an entry more
pub moves-more : (log : List Entry) (e : Entry) → moves (log ++ e ∷ []) ≡ moves log + moves (e ∷ [])
moves-more log e = sum_by-append (λ a. cond (is_move a) 1 0) log (e ∷ [])

pub turned_within : (log log' : List Entry) (budget : ℕ) → log' ≡ log ++ Turn ∷ [] → moves log ≤ budget → moves log' ≤ budget
turned_within log log' budget is within = omega (arith, ap moves is, moves-more log Turn)

pub turn_comes : (w : ℕ) (inst : Instance) (log : List Entry) (it : Iterate) → IsIterate w inst log it → it.is_priced ≡ true → NoneEligible inst it.state it.prices.items → it.state.phase ≡ One
    → ArtificialsZero inst it.state it.values.items → IsNext inst it.state Turn
turn_comes w inst log it h priced none one zero = (one, (it.prices.items, it.values.items, record { prices = h.prices priced; values = h.values; none_eligible = none }, zero))

-- an entry for which the budget has a move left
pub entry_within : (log log' : List Entry) (budget : ℕ) (e : Entry) → log' ≡ log ++ e ∷ [] → moves log ≤ budget → (is_move e ≡ true → moves log ≢ budget) → moves log' ≤ budget
entry_within log log' budget e is within left = by (is_move e) refl
  where
    by : (b : Bool) → is_move e ≡ b → moves log' ≤ budget
    by true m = let apart : moves log ≢ budget = left m in omega (arith, ap moves is, moves-more log e, sum_by-cons (λ a. cond (is_move a) 1 0) e [] ∙ ap (λ b. cond b 1 0 + moves []) m, apart)
    by false m = omega (arith, ap moves is, moves-more log e, sum_by-cons (λ a. cond (is_move a) 1 0) e [] ∙ ap (λ b. cond b 1 0 + moves []) m)

-- ── what a step comes to ──

-- but for a swap the factors go with an entry where they stay
pub stay_followed : (w : ℕ) (f g : Factors) → g ≡ f → settle w (done (Some f)) ≡ Some (Some g)
stay_followed w f g same = settle-done w (Some f) ∙ ap (λ f. Some (Some f)) (sym same)

module _ (w : ℕ) (inst : Instance) (k : ℕ) (s s' : State) (f f' g : Factors) (there : s' ≡ s) (same : f' ≡ f) where
  -- factors that go with a step go with it where state and factors are called otherwise
  pub goes_there : (r : Reached) → GoesWith w inst k s' f' g r → GoesWith w inst k s f g r
  goes_there r h = subst (λ s. GoesWith w inst k s f g r) there (subst (λ f. GoesWith w inst k s' f g r) same h)

module _ (w : ℕ) (inst : Instance) (budget : ℕ) (log : List Entry) (s : State) where
  pub reaches_entry : (e : Entry) (log' : List Entry) (new : Iterate) → IsNext inst s e → log' ≡ log ++ e ∷ [] → IsIterate w inst log' new → moves log ≤ budget
      → (is_move e ≡ true → moves log ≢ budget)
      → Reaches w inst budget log s log' new (reached.Entry e)
  reaches_entry e log' new next is stands within left = (next, is, stands, entry_within log log' budget e is within left)

  pub reaches_spent : (e : Entry) (it new : Iterate) → IsRun inst log s → IsNext inst s e → is_move e ≡ true → moves log ≡ budget → IsIterate w inst log new
      → Reaches w inst budget log s log new reached.Spent
  reaches_spent e it new run next is count stands = (refl, stands, (log, e, run, refl, count, next, is))

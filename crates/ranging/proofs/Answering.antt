-- What is answered: the ranges, or why there are none.
use Rattle.std.proofs.Common.{◌≡◌, ℕ, ◌+◌, ◌≤◌, inl, inr, List, [], ◌∷◌, ◌++◌, length, length-append, Some, None, Ok, Err, refl, sym, ◌∙◌, ap, subst, arith}
use Rattle.std.specs.Prelude.{IfErr, IfOk, Result}
use Rattle.lp_model.specs.declared.Entry.{Entry}
use Rattle.rational.specs.Rational.{ℚ}
use Rattle.lp_run.specs.Instance.{Instance, IsWellFormed}
use Rattle.lp_run.specs.Listing.{AllFit, Listed, RunFits, StepLists, StepsList, WorkedBefore, start_listing}
use Rattle.lp_run.specs.Run.{IsRun, Leads}
use Rattle.lp_run.specs.State.{State, after, start_of}
use Rattle.lp_run.specs.Step.{EndsOptimal, NoneEligible}
use Rattle.lp_run.specs.Tableau.{HasTable}
use Rattle.lp_run.proofs.FirstUnfit.{all-append}
use Rattle.lp_run.proofs.Kept.{one_log}
use Rattle.lp_run.proofs.Regularity.{one_prices}
use Rattle.lp_run.proofs.Runs.{leads_on, reached_has_table}
use Rattle.lp_run.proofs.Start.{start_has_table}
use Rattle.bland_laws.specs.Kept.{Kept}
use Rattle.bland_laws.proofs.Always.{kept}
use Rattle.ranging.specs.declared.fault.RangeFault.{RangeFault}
use Rattle.ranging.specs.declared.fault.RangeFault.TheVariants as fault
use Rattle.ranging.specs.declared.fault.RangePlace.TheVariants as place
use Rattle.ranging.specs.declared.limits.Limits.{Limits}
use Rattle.ranging.specs.Causes.{IsMemory, IsRangeCause}
use Rattle.ranging.specs.Inner.Found.{AreCompleted, AreWorkedAt, GivesUpAt, HasRisen, IsMissing, IsTableFault}
use Rattle.ranging.specs.Listing.{RangesFit}
use Rattle.ranging.specs.Ranges.{AreRanges, EndsAtOptimum, Ranges}
use Rattle.ranging.proofs.Concluding.{are_ranges, first_cost, first_right}

-- a log leads to one state
one_state : (inst : Instance) (log : List Entry) (s t : State) → IsRun inst log s → IsRun inst log t → s ≡ t
one_state inst log s t run also = (one_log inst (start_of inst) (start_has_table inst) log log s t run also refl).1

module _ (w : ℕ) (inst : Instance) (well_formed : IsWellFormed inst) (log : List Entry) (optimum : EndsAtOptimum inst log) (limits : Limits) (worked : AreWorkedAt w inst log limits) where
  abbrev s : State
  s = worked.0

  abbrev ends : EndsOptimal inst s optimum.2.0 optimum.2.1
  ends = subst (λ t. EndsOptimal inst t optimum.2.0 optimum.2.1) (one_state inst log optimum.0 s optimum.1 worked.1) optimum.2.2

  -- the prices that the limits are worked with
  abbrev y : List ℚ
  y = worked.2.1

  has : HasTable inst s
  has = reached_has_table inst log s worked.1

  keeps : Kept inst s
  keeps = kept inst well_formed log s worked.1

  none : NoneEligible inst s y
  none = subst (NoneEligible inst s) (one_prices inst s keeps.regular optimum.2.0 y ends.1.prices worked.2.4) ends.1.none_eligible

  completed : (found : Ranges) → AreCompleted limits (Ok found) → AreRanges inst s found
  completed found h =
      let (table, y, β, is_table, prices, values, known) = worked.2 in
      subst (AreRanges inst s) (sym h.2) (are_ranges w inst s has keeps ends.0 y prices none β values table is_table limits known h.0 h.1)

  pub completed_at : (found : Ranges) → AreCompleted limits (Ok found) → (t : State) → IsRun inst log t → AreRanges inst t found
  completed_at found h t run = subst (λ t. AreRanges inst t found) (one_state inst log s t worked.1 run) (completed found h)

  pub missing_caused : (before after : ℕ) → HasRisen before after limits → (f : RangeFault) → IsMissing limits f → IsRangeCause w inst log before after f
  missing_caused before after risen fault.Memory h = tt
  missing_caused before after risen (fault.Overflow here) h = absurd h
  missing_caused before after risen (fault.Unfit (place.Cost j)) h =
      let (table, y, β, is_table, prices, values, known) = worked.2 in
      let first = first_cost w inst s has keeps ends.0 y prices none β values table is_table limits known j h in
      ((s, first.0, worked.1, first.1, first.2), risen (inl (j, h.0, h.1)))
  missing_caused before after risen (fault.Unfit (place.Right i)) h =
      let (table, y, β, is_table, prices, values, known) = worked.2 in
      let first = first_right w inst s has keeps ends.0 y prices none β values table is_table limits known i h.0 h.1 in
      ((s, first.0, worked.1, first.1, first.2), risen (inr (i, h.1.0, h.1.1)))

  pub ranges_told : (r : Result Ranges RangeFault) → AreCompleted limits r → IfOk r (λ found. (t : State) → IsRun inst log t → AreRanges inst t found)
  ranges_told (Ok found) h = completed_at found h
  ranges_told (Err f) h = tt

  pub cause_told : (before after : ℕ) → HasRisen before after limits → (r : Result Ranges RangeFault) → AreCompleted limits r → IfErr r (IsRangeCause w inst log before after)
  cause_told before after risen (Ok found) h = tt
  cause_told before after risen (Err f) h = missing_caused before after risen f h

-- what a cause says of a refusal
pub on_err : {A E : Type 0} (r : Result A E) (P Q : E → Type 0) → ((e : E) → P e → Q e) → IfErr r P → IfErr r Q
on_err (Ok a) P Q f h = tt
on_err (Err e) P Q f h = f e h

-- over the table an overflow has the cause that factors were given up
pub table_caused : (w : ℕ) (inst : Instance) (log : List Entry) (before mid after : ℕ) → before ≤ mid → GivesUpAt w inst log → (f : RangeFault)
    → IsTableFault w inst log mid after f → IsRangeCause w inst log before after f
table_caused w inst log before mid after low gives fault.Memory h = tt
table_caused w inst log before mid after low gives (fault.Overflow here) h =
    let (s, run, unfit) = h.0 in
    ((s, run, unfit, subst (λ t. Rattle.ranging.specs.Causes.GivesUp w inst t) (one_state inst log gives.0 s gives.1 run) gives.2), omega (arith, low, h.1))
table_caused w inst log before mid after low gives (fault.Unfit here) h = absurd h

-- ── where the run and the ranges fit, only want of memory refuses ──

module _ (w : ℕ) (inst : Instance) (fits : RunFits w inst) where
  steps_fit : (k : ℕ) (front : List Entry) (s : State) (log : List Entry) (t : State) (vs : List Listed) → k ≡ length front → IsRun inst front s
      → Leads inst s log t → StepsList inst k s log vs → AllFit w vs
  steps_fit k front s [] t vs number run leads is = subst (AllFit w) (sym is) refl
  steps_fit k front s (e ∷ log) t vs number run leads (now, later, lists, steps, is) =
      subst (AllFit w) (sym is) (all-append w now later (fits.steps front s now run (subst (λ n. StepLists inst n s now) number lists))
      (steps_fit (k + 1) (front ++ e ∷ []) (after s e) log t later (ap (λ n. n + 1) number ∙ sym (length-append front (e ∷ [])))
      (leads_on inst (start_of inst) s front e run leads.0) leads.1 steps))

  listed_fits : (log : List Entry) (s : State) (before now : List Listed) → IsRun inst log s → WorkedBefore inst log before → StepLists inst (length log) s now
      → AllFit w (start_listing inst ++ before ++ now)
  listed_fits log s before now run (made, stepped, making, steps, is) lists =
      all-append w (start_listing inst ++ before) now
      (all-append w (start_listing inst) before fits.start
      (subst (AllFit w) (sym is) (all-append w made stepped (fits.making made making) (steps_fit 0 [] (start_of inst) log s stepped refl refl run steps))))
      (fits.steps log s now run lists)

  pub only_memory : (log : List Entry) (before after : ℕ) → RangesFit w inst log → (f : RangeFault) → IsRangeCause w inst log before after f → IsMemory f
  only_memory log before after ranges fault.Memory h = refl
  only_memory log before after ranges (fault.Overflow here) h =
      let (s, run, (listed, now, worked, lists, first), gives) = h.0 in absurd (apart (sym (listed_fits log s listed now run worked lists) ∙ first))
    where
      apart : None ≡ Some here → ⊥
      apart e = cc e
  only_memory log before after ranges (fault.Unfit here) h = let (s, vs, run, lists, first) = h.0 in absurd (apart (sym (ranges s vs run lists) ∙ first))
    where
      apart : None ≡ Some here → ⊥
      apart e = cc e

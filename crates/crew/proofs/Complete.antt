-- Why a solve that gives up must: a run that fits meets no value that does not, a run that ends within the budget does not spend it, and a start sum that does not fit is met at the start.
use Rattle.std.proofs.Common.{◌≡◌, ℕ, ◌+◌, ◌<◌, ◌≤◌, ◌⊎◌, inl, inr, List, [], ◌∷◌, ◌++◌, length, length-append, Some, None, refl, sym, ◌∙◌, ap, subst, arith}
use Rattle.std.proofs.lemmas.Bool.{cases_lt}
use Rattle.lp_model.specs.declared.Entry.{Entry}
use Rattle.lp_model.specs.declared.Place.{Place}
use Rattle.lp_model.specs.Log.{moves}
use Rattle.lp_model.specs.Outcome.{Outcome, infeasible, optimal, unbounded}
use Rattle.lp_run.specs.Ends.{Yields, HasOutcome}
use Rattle.lp_run.specs.Instance.{Instance, IsWellFormed}
use Rattle.lp_run.specs.Listing.{AllFit, IsFirstTotal, IsFirstUnfit, Listed, MakingLists, Overflows, RunFits, StepLists, StepsList, WorkedBefore, first_unfit, start_listing}
use Rattle.lp_run.specs.Run.{IsRun, IsSpent, Leads}
use Rattle.lp_run.specs.State.{State, after, start_of}
use Rattle.lp_run.specs.Step.{IsFinal}
use Rattle.lp_run.proofs.FirstUnfit.{all-append, unfit-append}
use Rattle.lp_run.proofs.Kept.{goes_on}
use Rattle.lp_run.proofs.Regularity.{table_solves}
use Rattle.lp_run.proofs.Runs.{leads_on, moves-append}
use Rattle.lp_run.proofs.Start.{start_has_table}
use Rattle.bland_laws.specs.Ends.{run_bound}
use Rattle.bland_laws.proofs.Always.{instance_holds}
use Rattle.bland_laws.proofs.Existence.{goes_on_or_ends}
use Rattle.bland_laws.proofs.Runs.{ends}
use Rattle.plain_table.proofs.Replays.{listed_there}

-- ── a run that fits ──

module _ (w : ℕ) (inst : Instance) (fits : RunFits w inst) where
  -- what the steps of a run list, after a front of it
  steps_fit : (k : ℕ) (front : List Entry) (s : State) (log : List Entry) (t : State) (vs : List Listed)
      → k ≡ length front → IsRun inst front s → Leads inst s log t → StepsList inst k s log vs → AllFit w vs
  steps_fit k front s [] t vs number run leads is = subst (AllFit w) (sym is) refl
  steps_fit k front s (e ∷ log) t vs number run leads (now, later, lists, steps, is) =
      let one : AllFit w now = fits.steps front s now run (subst (λ n. StepLists inst n s now) number lists) in
      let more : AllFit w later =
      steps_fit (k + 1) (front ++ e ∷ []) (after s e) log t later (ap (λ n. n + 1) number ∙ sym (length-append front (e ∷ [])))
      (leads_on inst (start_of inst) s front e run leads.0) leads.1 steps in
      subst (AllFit w) (sym is) (all-append w now later one more)

  worked_fits : (log : List Entry) (s : State) (before : List Listed) → IsRun inst log s → WorkedBefore inst log before → AllFit w before
  worked_fits log s before run (made, stepped, making, steps, is) =
      subst (AllFit w) (sym is) (all-append w made stepped (fits.making made making) (steps_fit 0 [] (start_of inst) log s stepped refl refl run steps))

  none_unfit : (vs : List Listed) (here : Place) → AllFit w vs → first_unfit w vs ≡ Some here → ⊥
  none_unfit vs here all first = apart (sym all ∙ first)
    where
      apart : None ≡ Some here → ⊥
      apart e = cc e

  by_part : (log : List Entry) (s : State) (here : Place) → IsRun inst log s → IsFirstUnfit w inst log s here ⊎ IsFirstTotal w inst log s here → ⊥
  by_part log s here run (inl (before, now, worked, lists, first)) =
      none_unfit _ here
      (all-append w (start_listing inst ++ before) now (all-append w (start_listing inst) before fits.start (worked_fits log s before run worked)) (fits.steps log s now run lists)) first
  by_part log s here run (inr (y, β, ends, first)) = none_unfit _ here (fits.steps log s _ run (inr (inr (inl (y, β, ends, refl))))) first

-- it meets no value that does not fit
pub not_unfit : (inst : Instance) (w budget : ℕ) (here : Place) → RunFits w inst → Overflows w budget inst here → ⊥
not_unfit inst w budget here fits (log, s, run, within, unfit) = by_part w inst fits log s here run unfit

-- ── the budget ──

final : (inst : Instance) (s : State) (o : Outcome) → Yields inst s o → IsFinal inst s
final inst s (optimal x y v) (z, β, ends, prices, point, value) = inl (z, β, ends)
final inst s (infeasible y) (β, ends) = inr (inl (y, β, ends))
final inst s (unbounded x r) (y, β, α, q, ends, point, ray) = inr (inr (y, β, α, q, ends))

-- a run that ends within the budget has no move past it
pub not_spent : (inst : Instance) (log : List Entry) (o : Outcome) → HasOutcome inst log o → (budget : ℕ) → moves log ≤ budget → IsSpent inst budget → ⊥
not_spent inst log o (s, run, gives) budget within (log', s', e, run', next, is, count) =
    let on = goes_on inst (start_of inst) (start_has_table inst) log' log s' s e run' next run (final inst s o gives) in
    past (moves log') (moves log) (subst (λ l. moves log' < moves l) (sym on.1) (moves-append log' e on.0 is)) within count
  where
    past : (a b : ℕ) → a < b → b ≤ budget → a ≡ budget → ⊥
    past a b h i j = omega arith

-- a budget that a run spends is below the bound of Bland's theorem
pub spent_below : (inst : Instance) → IsWellFormed inst → (n : ℕ) → IsSpent inst n → n < run_bound inst
spent_below inst well_formed n spent = by_order (cases_lt n (run_bound inst))
  where
    by_order : (n < run_bound inst) ⊎ (run_bound inst ≤ n) → n < run_bound inst
    by_order (inl h) = h
    by_order (inr most) = absurd ((ends inst well_formed).never_spent n most spent)

-- ── the start sums ──

-- the making of the table lists something
making_listed : (inst : Instance) → IsWellFormed inst → (vs : List Listed) × MakingLists inst vs
making_listed inst well_formed =
    let s = start_of inst in
    let holds = instance_holds inst well_formed [] s refl in
    (_, (holds.table.table, holds.β, table_solves inst s holds.table.table holds.table.inverse holds.table.entries, holds.values, refl))

-- a start sum that does not fit is the first value of the run that does not
pub start_overflows : (w budget : ℕ) (inst : Instance) (here : Place) → IsWellFormed inst → first_unfit w (start_listing inst) ≡ Some here → Overflows w budget inst here
start_overflows w budget inst here well_formed unfit =
    let s = start_of inst in
    let holds = instance_holds inst well_formed [] s refl in
    let made = making_listed inst well_formed in
    let now = listed_there inst 0 s holds.table (goes_on_or_ends inst s holds) in (
      [],
      s,
      refl,
      omega arith,
      inl (
        made.0 ++ [],
        now.0,
        (made.0, [], made.1, refl, refl),
        now.1,
        unfit-append w (start_listing inst ++ (made.0 ++ [])) now.0 here (unfit-append w (start_listing inst) (made.0 ++ []) here unfit),
      ),
    )

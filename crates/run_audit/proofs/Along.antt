-- A table that is taken along a log.
use Rattle.std.proofs.Common.{◌≡◌, ◌≢◌, ℕ, ◌+◌, ◌<◌, ◌≤◌, ◌⊎◌, inl, inr, List, [], ◌∷◌, ◌++◌, length, take, get_or, slice_get, Some, Bool, true, false, Result, Ok, Err, refl, sym, ◌∙◌, ap, subst, arith}
use Rattle.std.proofs.lemmas.List.{length-take-le, take_all, take_more}
use Rattle.std.proofs.lemmas.Option.{slice_get-get_or, slice_get_within}
use Rattle.lp_model.specs.declared.Entry.{Entry}
use Rattle.lp_model.specs.declared.Entry.TheVariants.{Flip, Swap, Turn}
use Rattle.lp_model.specs.declared.Place.{Place}
use Rattle.lp_run.specs.Instance.{Instance, IsWellFormed}
use Rattle.lp_run.specs.Listing.{AllFit, Listed, StartFits, StepLists, first_unfit, start_listing}
use Rattle.lp_run.specs.Run.{IsRun}
use Rattle.lp_run.specs.State.{State, after, start_of}
use Rattle.lp_run.specs.Step.{IsFinal, IsNext, StepsBy}
use Rattle.lp_run.proofs.FirstUnfit.{all-append, fit-append, unfit-append}
use Rattle.lp_run.proofs.Runs.{leads_on}
use Rattle.table_laws.specs.Fitted.{HasFitted, HasOverflown}
use Rattle.table_laws.proofs.Fitting.{fitted-more}
use Rattle.bland_laws.proofs.Always.{instance_holds}
use Rattle.bland_laws.proofs.Existence.{goes_on_or_ends}
use Rattle.plain_table.specs.Answers.{JudgesStep}
use Rattle.plain_table.specs.Next.{ComesNext, EndsBy, RatioLists}
use Rattle.plain_table.specs.Plain.{Plain, Stands}
use Rattle.plain_table.specs.declared.next.End.{End}
use Rattle.plain_table.specs.declared.next.End.TheVariants as end
use Rattle.plain_table.specs.declared.next.Next.{Next}
use Rattle.plain_table.specs.declared.next.Next.TheVariants as own
use Rattle.plain_table.proofs.Replays.{overflown_within}
use Rattle.run_audit.specs.Inner.Parts.{Departs, EntryOverflows, Follows, Goes, LogOverflows, TestFits, TestOverflows}
use Rattle.run_audit.specs.Judged.{PartsAt}
use Rattle.run_audit.specs.Works.{LogLists}

-- ── something is listed by each ratio test ──

module _ (inst : Instance) (k : ℕ) (s : State) where
  stepped_ratios : (e : Entry) → StepsBy inst s e → (vs : List Listed) × RatioLists inst k s vs
  stepped_ratios e (y, β, α, q, limit, pivoting, leaves, is) = (_, inl (y, β, α, q, pivoting, refl))

  next_ratios : (e : Entry) → IsNext inst s e → (vs : List Listed) × RatioLists inst k s vs
  next_ratios (Flip q) next = stepped_ratios (Flip q) next
  next_ratios (Swap q p end) next = stepped_ratios (Swap q p end) next
  next_ratios Turn next = ([], inr (next.1.0, next.1.1, next.1.2, refl))

  final_ratios : IsFinal inst s → (vs : List Listed) × RatioLists inst k s vs
  final_ratios (inl (y, β, ends)) = ([], inr (y, β, ends.1, refl))
  final_ratios (inr (inl (y, β, ends))) = ([], inr (y, β, ends.1, refl))
  final_ratios (inr (inr (y, β, α, q, ends))) = (_, inl (y, β, α, q, ends.0, refl))

  pub ratios_there : ((e : Entry) × IsNext inst s e) ⊎ IsFinal inst s → (vs : List Listed) × RatioLists inst k s vs
  ratios_there (inl (e, next)) = next_ratios e next
  ratios_there (inr final) = final_ratios final

  pub listed_ratios : (now : List Listed) → StepLists inst k s now → (vs : List Listed) × RatioLists inst k s vs
  listed_ratios now (inl (table, move, there, is)) = (_, inl (move.prices, move.values, move.column, move.entering, move.pivoting, refl))
  listed_ratios now (inr (inl (table, turns, there, is))) = ([], inr (turns.1.0, turns.1.1, turns.1.2, refl))
  listed_ratios now (inr (inr (inl (y, β, ends, is)))) = ([], inr (y, β, ends.1, refl))
  listed_ratios now (inr (inr (inr (ends, is)))) = final_ratios (inr ends)

-- the run goes on or ends at each of its states
pub run_goes_on : (inst : Instance) → IsWellFormed inst → (log : List Entry) (s : State) → IsRun inst log s → ((e : Entry) × IsNext inst s e) ⊎ IsFinal inst s
run_goes_on inst formed log s run = goes_on_or_ends inst s (instance_holds inst formed log s run)

-- the end that a table comes to is one of the run
pub end_is_final : (inst : Instance) (t : Plain) (end : End) → EndsBy inst t end → IsFinal inst t.state
end_is_final inst t end.Optimal ends = inl (_, t.values, ends)
end_is_final inst t end.Infeasible ends = inr (inl (_, t.values, ends))
end_is_final inst t (end.Unbounded q) ends = inr (inr (_, t.values, _, q, ends))

-- what comes next is not the entry
pub departs : (inst : Instance) (t : Plain) (e : Entry) (next : Next) → ComesNext inst t next → (next ≡ own.Entry e → ⊥)
    → IsFinal inst t.state ⊎ ((own : Entry) × IsNext inst t.state own × (own ≢ e))
departs inst t e (own.Entry a) comes other = inr (a, comes, λ same. other (ap own.Entry same))
departs inst t e (own.End end) comes other = inl (end_is_final inst t end comes)

-- ── an entry is taken in ──

module _ (w : ℕ) (inst : Instance) (log : List Entry) (t : Plain) (e : Entry) where
  lists_there : (now : List Listed) → Stands inst log t → StepLists inst t.number t.state now → StepLists inst (length log) t.state now
  lists_there now stands lists = subst (λ n. StepLists inst n t.state now) stands.number lists

  pub step_follows : (t' : Plain) (done : Unit {0}) → Follows w inst log t → Stands inst (log ++ e ∷ []) t' → JudgesStep w inst t (Ok done) → Follows w inst (log ++ e ∷ []) t'
  step_follows t' done (stands, fitted) there (now, lists, fits) =
      (there, fitted-more w inst log t.state e now stands.table.reached fitted (lists_there now stands lists) fits)

  pub step_overflows : (here : Place) → Follows w inst log t → IsNext inst t.state e → JudgesStep {A = Unit {0}} w inst t (Err here) → HasOverflown w inst (log ++ e ∷ []) here
  step_overflows here (stands, fitted) next (now, lists, first) =
      overflown_within w inst log t.state e [] (after t.state e) now here stands.table.reached (leads_on inst (start_of inst) t.state log e stands.table.reached next) fitted
      (lists_there now stands lists) first

-- a test that fails
pub fails : (r : Bool) → r ≡ false → r ≡ true → ⊥
fails r e h = cc

-- the table stands before and after as it is told of it
module _ (w w' : ℕ) (inst : Instance) (log : List Entry) (t t' : Plain) (e : Entry) (same : w' ≡ w) (kept : t' ≡ t) where
  there : {A : Type 0} (r : Result A Place) → JudgesStep w' inst t' r → JudgesStep w inst t r
  there r h = subst (λ w. JudgesStep w inst t r) same (subst (λ t. JudgesStep w' inst t r) kept h)

  pub entry_taken : (after : Plain) (done : Unit {0}) → Follows w inst log t → ((log : List Entry) → Stands inst log t' → Stands inst (log ++ e ∷ []) after) → JudgesStep w' inst t' (Ok done)
      → Follows w inst (log ++ e ∷ []) after
  entry_taken after done follows stands judged =
      step_follows w inst log t e after done follows (stands log (subst (Stands inst log) (sym kept) follows.0)) (there (Ok done) judged)

  pub entry_unfit : (here : Place) (next : Next) → next ≡ own.Entry e → ComesNext inst t next → Follows w inst log t → JudgesStep {A = Unit {0}} w' inst t' (Err here)
      → EntryOverflows w inst log t e here
  entry_unfit here next is comes follows judged =
      let on : IsNext inst t.state e = subst (ComesNext inst t) is comes in
      inr (on, step_overflows w inst log t e here follows on (there {A = Unit {0}} (Err here) judged))

-- ── what is listed up to a number ──

module _ (w : ℕ) (inst : Instance) (log : List Entry) (k : ℕ) (s : State) (within : k ≤ length log) (run : IsRun inst (take k log) s) where
  pub listed_to : HasFitted w inst (take k log) → (tested : List Listed) → RatioLists inst k s tested → AllFit w tested → (vs : List Listed) × LogLists inst log k vs × AllFit w vs
  listed_to fitted tested lists fits = (
    start_listing inst ++ fitted.before ++ tested,
    (s, fitted.before, tested, within, run, fitted.worked, lists, refl),
    all-append w (start_listing inst ++ fitted.before) tested (all-append w (start_listing inst) fitted.before fitted.start fitted.fits) fits,
  )

  -- the first value that does not fit is one of the ratio test
  pub test_overflows : HasFitted w inst (take k log) → (tested : List Listed) → RatioLists inst k s tested → (here : Place) → first_unfit w tested ≡ Some here → LogOverflows w inst log here
  test_overflows fitted tested lists here first = (
    k,
    start_listing inst ++ fitted.before ++ tested,
    (s, fitted.before, tested, within, run, fitted.worked, lists, refl),
    fit-append w (start_listing inst ++ fitted.before) tested (all-append w (start_listing inst) fitted.before fitted.start fitted.fits) ∙ first,
  )

  -- or stands before
  pub before_overflows : IsWellFormed inst → StartFits w inst → (here : Place) → HasOverflown w inst (take k log) here → LogOverflows w inst log here
  before_overflows formed start here h =
      let (tested, lists) = ratios_there inst k s (run_goes_on inst formed (take k log) s run) in (
        k,
        start_listing inst ++ h.before ++ tested,
        (s, h.before, tested, within, run, h.worked, lists, refl),
        unfit-append w (start_listing inst ++ h.before) tested here (fit-append w (start_listing inst) h.before start ∙ h.first),
      )

-- ── along the log ──

module _ (w : ℕ) (inst : Instance) (log : List Entry) (k : ℕ) (t : Plain) (within : k ≤ length log) (follows : Follows w inst (take k log) t) where
  number_is : t.number ≡ k
  number_is = follows.0.number ∙ length-take-le k log within

  ratios_at : (vs : List Listed) → RatioLists inst k t.state vs → RatioLists inst t.number t.state vs
  ratios_at vs = subst (λ n. RatioLists inst n t.state vs) (sym number_is)

  pub test_overflows_at : (here : Place) → TestOverflows w inst t here → LogOverflows w inst log here
  test_overflows_at here (first, (now, lists, unfit)) =
      let (tested, ratios) = listed_ratios inst t.number t.state now lists in
      test_overflows w inst log k t.state within follows.0.table.reached follows.1 tested (subst (λ n. RatioLists inst n t.state tested) number_is ratios) here (first tested ratios)

  pub fits_at : TestFits w inst t → ((e : Entry) × IsNext inst t.state e) ⊎ IsFinal inst t.state → (vs : List Listed) × LogLists inst log k vs × AllFit w vs
  fits_at fits goes =
      let (tested, ratios) = ratios_there inst k t.state goes in
      listed_to w inst log k t.state within follows.0.table.reached follows.1 tested ratios (fits tested (ratios_at tested ratios))

-- the run departs from the log's entry
module _ (w : ℕ) (inst : Instance) (log : List Entry) (k : ℕ) (t : Plain) (d e : Entry) (less : k < length log) (read : e ≡ get_or log k d) (follows : Follows w inst (take k log) t) where
  read_there : slice_get log k ≡ Some e
  read_there = slice_get-get_or log k d less ∙ ap Some (sym read)

  some_same : (own : Entry) → Some e ≡ Some own → own ≡ e
  some_same own is = cc

  pub parted_there : Departs w inst t e → PartsAt inst log k × ((vs : List Listed) × LogLists inst log k vs × AllFit w vs)
  parted_there (inl final, fits) =
      ((t.state, omega (arith, less), follows.0.table.reached, inl (final, less)), fits_at w inst log k t (omega (arith, less)) follows fits (inr final))
  parted_there (inr (own, next, other), fits) = (
    (t.state, omega (arith, less), follows.0.table.reached, inr (own, next, λ is. other (some_same own (sym read_there ∙ is)))),
    fits_at w inst log k t (omega (arith, less)) follows fits (inl (own, next)),
  )

  pub front_grows : take (k + 1) log ≡ take k log ++ e ∷ []
  front_grows = take_more log k d less ∙ ap (λ a. take k log ++ a ∷ []) (sym read)

  pub entry_overflows : IsWellFormed inst → (here : Place) → EntryOverflows w inst (take k log) t e here → LogOverflows w inst log here
  entry_overflows formed here (inl tested) = test_overflows_at w inst log k t (omega (arith, less)) follows here tested
  entry_overflows formed here (inr (next, unfit)) =
      before_overflows w inst log (k + 1) (after t.state e) (omega (arith, less))
      (subst (λ l. IsRun inst l (after t.state e)) (sym front_grows) (leads_on inst (start_of inst) t.state (take k log) e follows.0.table.reached next)) formed follows.1.start here
      (subst (λ l. HasOverflown w inst l here) (sym front_grows) unfit)

-- what an entry makes of a table, by an arithmetic of the same width
module _ (w w' : ℕ) (inst : Instance) (log : List Entry) (k : ℕ) (t t' : Plain) (d e : Entry) (less : k < length log) (read : e ≡ get_or log k d) (same : w' ≡ w)
    (follows : Follows w inst (take k log) t) where
  pub asked : Follows w' inst (take k log) t
  asked = subst (λ w. Follows w inst (take k log) t) (sym same) follows

  answered : (b along : Bool) → along ≡ b → ((log : List Entry) → Follows w' inst log t → Goes w' inst log t e t' along) → Goes w inst (take k log) t e t' b
  answered b along is goes =
      subst (λ w. Goes w inst (take k log) t e t' b) same (subst (λ b. Goes w' inst (take k log) t e t' b) is (goes (take k log) asked))

  pub gone_along : (along : Bool) → along ≡ true → ((log : List Entry) → Follows w' inst log t → Goes w' inst log t e t' along) → Follows w inst (take (k + 1) log) t'
  gone_along along is goes =
      subst (λ l. Follows w inst l t') (sym (front_grows w inst log k t d e less read follows)) (answered true along is goes)

  pub parted : (along : Bool) → along ≡ false → ((log : List Entry) → Follows w' inst log t → Goes w' inst log t e t' along)
      → PartsAt inst log k × ((vs : List Listed) × LogLists inst log k vs × AllFit w vs)
  parted along is goes = parted_there w inst log k t d e less read follows (answered false along is goes).1

  pub unfit_along : IsWellFormed inst → (here : Place) → ((log : List Entry) → Follows w' inst log t → EntryOverflows w' inst log t e here) → LogOverflows w inst log here
  unfit_along formed here overflows =
      entry_overflows w inst log k t d e less read follows formed here (subst (λ w. EntryOverflows w inst (take k log) t e here) same (overflows (take k log) asked))

-- behind the last entry
module _ (w w' : ℕ) (inst : Instance) (log : List Entry) (k : ℕ) (t t' : Plain) (all : k ≡ length log) (same : w' ≡ w) (kept : t' ≡ t) (follows : Follows w inst (take k log) t) where
  follows_all : Follows w inst log t
  follows_all = subst (λ l. Follows w inst l t) (take_all k log (omega (arith, all))) follows

  none_behind : (own : Entry) → slice_get log (length log) ≢ Some own
  none_behind own is = let within : length log < length log = slice_get_within log (length log) own is in omega (arith, within)

  fits_there : ((vs : List Listed) → RatioLists inst t.number t.state vs → AllFit w' vs) → TestFits w inst t
  fits_there fits = subst (λ w. TestFits w inst t) same fits

  at_last : Follows w inst (take (length log) log) t
  at_last = subst (λ n. Follows w inst (take n log) t) all follows

  pub parted_behind : (next : Next) (e : Entry) → next ≡ own.Entry e → ComesNext inst t next → TestFits w' inst t
      → PartsAt inst log (length log) × ((vs : List Listed) × LogLists inst log (length log) vs × AllFit w vs)
  parted_behind next e is comes fits =
      let goes : IsNext inst t.state e = subst (ComesNext inst t) is comes in (
        (t.state, omega arith, at_last.0.table.reached, inr (e, goes, none_behind e)),
        fits_at w inst log (length log) t (omega arith) at_last (fits_there fits) (inl (e, goes)),
      )

  pub ended : (next : Next) (end : End) → next ≡ own.End end → ComesNext inst t next → TestFits w' inst t → Follows w inst log t' × EndsBy inst t' end × TestFits w inst t'
  ended next end is comes fits =
      subst (λ t. Follows w inst log t × EndsBy inst t end × TestFits w inst t) (sym kept) (follows_all, subst (ComesNext inst t) is comes, fits_there fits)

  pub unfit_behind : (here : Place) → TestOverflows w' inst t here → LogOverflows w inst log here
  unfit_behind here tested = test_overflows_at w inst log (length log) t (omega arith) at_last here (subst (λ w. TestOverflows w inst t here) same tested)

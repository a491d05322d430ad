-- A table that takes in the entries of a log: as long as all fits it stands, and a value that does not fit is the first of all that the log works.
use Rattle.std.proofs.Common.{◌≡◌, ℕ, suc, ◌+◌, ◌<◌, ◌⊎◌, inl, inr, List, [], ◌∷◌, ◌++◌, length, take, drop, get_or, Some, Result, Ok, Err, IsErrAnd, refl, sym, ◌∙◌, ap, subst, arith}
use Rattle.std.proofs.lemmas.List.{append-nil, append_assoc, length-take-le, take-append-drop}
use Rattle.std.proofs.lemmas.Result.{err_from_is_err_and}
use Rattle.std.proofs.Math.Seq.{drop-cons, take-suc}
use Rattle.lp_model.specs.declared.Entry.{Entry}
use Rattle.lp_model.specs.declared.Entry.TheVariants.{Flip, Swap, Turn}
use Rattle.lp_model.specs.declared.Place.{Place}
use Rattle.lp_run.specs.Instance.{Instance}
use Rattle.lp_run.specs.Listing.{Listed, MoveLists, StepLists, StepsList, first_unfit}
use Rattle.lp_run.specs.Run.{IsRun, Leads}
use Rattle.lp_run.specs.Solution.{IsTable}
use Rattle.lp_run.specs.State.{State, after, start_of}
use Rattle.lp_run.specs.Step.{IsFinal, IsNext, StepsBy}
use Rattle.lp_run.specs.Tableau.{HasTable}
use Rattle.lp_run.proofs.FirstUnfit.{fit-append, unfit-append}
use Rattle.lp_run.proofs.Kept.{after_has_table}
use Rattle.lp_run.proofs.Regularity.{table_solves}
use Rattle.lp_run.proofs.Runs.{reached_has_table}
use Rattle.lp_run.proofs.Start.{start_has_table}
use Rattle.table_laws.specs.Fitted.{HasFitted, HasOverflown}
use Rattle.table_laws.proofs.Fitting.{fitted-more}
use Rattle.plain_table.specs.Answers.{IsNextOf, IsRunLog, JudgesStep, MakesTable, Refuses}
use Rattle.plain_table.specs.declared.faults.TableFault.{TableFault}
use Rattle.plain_table.specs.declared.faults.TableFault.TheVariants as fault
use Rattle.plain_table.specs.Plain.{Plain, Stands}

-- ── what lies before and after an entry of a run ──

pub leads_split : (inst : Instance) (s : State) (front : List Entry) (e : Entry) (more : List Entry) (t : State) → Leads inst s (front ++ e ∷ more) t
    → (u : State) × Leads inst s front u × IsNext inst u e × Leads inst (after u e) more t
leads_split inst s [] e more t leads = (s, refl, leads.0, leads.1)
leads_split inst s (a ∷ front) e more t leads =
    let r = leads_split inst (after s a) front e more t leads.1 in
    (r.0, (leads.0, r.1), r.2, r.3)

pub leads_one : (inst : Instance) (s : State) (log : List Entry) (u v : State) → Leads inst s log u → Leads inst s log v → u ≡ v
leads_one inst s [] u v leads leads' = sym leads ∙ leads'
leads_one inst s (a ∷ log) u v leads leads' = leads_one inst (after s a) log u v leads.1 leads'.1

-- ── something is listed at each state that the run goes on from ──

module _ (inst : Instance) (s : State) (has : HasTable inst s) where
  table_there : IsTable inst s has.table
  table_there = table_solves inst s has.table has.inverse has.entries

  move_listed : (k : ℕ) (e : Entry) → StepsBy inst s e → (vs : List Listed) × MoveLists inst k s vs
  move_listed k e (y, β, α, q, limit, pivoting, leaves, is) =
      (_, (has.table, record { prices = y; values = β; column = α; entering = q; limit = limit; pivoting = pivoting; leaves = leaves }, table_there, refl))

  pub next_listed : (k : ℕ) (e : Entry) → IsNext inst s e → (vs : List Listed) × StepLists inst k s vs
  next_listed k (Flip q) next = let m = move_listed k (Flip q) next in (m.0, inl m.1)
  next_listed k (Swap q p end) next = let m = move_listed k (Swap q p end) next in (m.0, inl m.1)
  next_listed k Turn next = (_, inr (inl (has.table, next, table_there, refl)))

-- something is listed at a state that the run goes on from, or at which it ends
pub listed_there : (inst : Instance) (k : ℕ) (s : State) → HasTable inst s → ((e : Entry) × IsNext inst s e) ⊎ IsFinal inst s → (vs : List Listed) × StepLists inst k s vs
listed_there inst k s has (inl (e, next)) = next_listed inst s has k e next
listed_there inst k s has (inr (inl (y, β, ends))) = (_, inr (inr (inl (y, β, ends, refl))))
listed_there inst k s has (inr (inr ends)) = ([], inr (inr (inr (ends, refl))))

pub log_listed : (inst : Instance) (k : ℕ) (s : State) (log : List Entry) (t : State) → HasTable inst s → Leads inst s log t → (vs : List Listed) × StepsList inst k s log vs
log_listed inst k s [] t has leads = ([], refl)
log_listed inst k s (e ∷ log) t has leads =
    let one = next_listed inst s has k e leads.0 in
    let more = log_listed inst (k + 1) (after s e) log t (after_has_table inst s has e leads.0) leads.1 in
    (one.0 ++ more.0, (one.0, more.0, one.1, more.1, refl))

-- what a log lists, part by part
steps_append : (inst : Instance) (k : ℕ) (s s' : State) (log rest : List Entry) (stepped later : List Listed)
    → Leads inst s log s' → StepsList inst k s log stepped → StepsList inst (k + length log) s' rest later → StepsList inst k s (log ++ rest) (stepped ++ later)
steps_append inst k s s' [] rest stepped later leads steps next =
    subst (λ vs. StepsList inst k s rest vs) (sym (ap (λ xs. xs ++ later) steps))
    (subst (λ a. StepsList inst k a rest later) (sym leads) (subst (λ n. StepsList inst n s' rest later) (omega arith) next))
steps_append inst k s s' (a ∷ log) rest stepped later leads (first, tail, one, steps, is) next = (
  first,
  tail ++ later,
  one,
  steps_append inst (k + 1) (after s a) s' log rest tail later leads.1 steps (subst (λ n. StepsList inst n s' rest later) (omega arith) next),
  ap (λ xs. xs ++ later) is ∙ append_assoc first tail later,
)

-- the entry after the front of a run is the next one there
pub next_there : (inst : Instance) (front : List Entry) (e : Entry) (more : List Entry) (t s : State) → IsRun inst (front ++ e ∷ more) t → IsRun inst front s
    → IsNext inst s e × Leads inst (after s e) more t
next_there inst front e more t s whole run =
    let split = leads_split inst (start_of inst) front e more t whole in
    let same : split.0 ≡ s = leads_one inst (start_of inst) front split.0 s split.1 run in
    (subst (λ u. IsNext inst u e) same split.2, subst (λ u. Leads inst (after u e) more t) same split.3)

-- ── where a value does not fit ──

-- of the making
pub overflown_on : (w : ℕ) (inst : Instance) (log : List Entry) (t : State) (here : Place) → IsRun inst log t → HasOverflown w inst [] here → HasOverflown w inst log here
overflown_on w inst log t here run h =
    let later = log_listed inst 0 (start_of inst) log t (start_has_table inst) run in
    record {
      before = h.before ++ later.0;
      worked = (
        h.worked.0,
        later.0,
        h.worked.2,
        later.1,
        ap (λ xs. xs ++ later.0) (h.worked.4 ∙ ap (λ xs. h.worked.0 ++ xs) h.worked.3 ∙ append-nil h.worked.0),
      );
      first = unfit-append w h.before later.0 here h.first;
    }

-- of a step
module _ (w : ℕ) (inst : Instance) (front : List Entry) (s : State) (e : Entry) (more : List Entry) (t : State) where
  pub overflown_within : (now : List Listed) (here : Place) → IsRun inst front s → IsRun inst (front ++ e ∷ more) t → HasFitted w inst front
      → StepLists inst (length front) s now → first_unfit w now ≡ Some here → HasOverflown w inst (front ++ e ∷ more) here
  overflown_within now here run whole h lists first =
      let on = next_there inst front e more t s whole run in
      let later = log_listed inst (length front + 1) (after s e) more t (after_has_table inst s (reached_has_table inst front s run) e on.0) on.1 in
      let rest : StepsList inst (length front) s (e ∷ more) (now ++ later.0) = (now, later.0, lists, later.1, refl) in
      let made = h.worked.0 in
      let stepped = h.worked.1 in
      record {
        before = h.before ++ (now ++ later.0);
        worked = (
          made,
          stepped ++ (now ++ later.0),
          h.worked.2,
          steps_append inst 0 (start_of inst) s front (e ∷ more) stepped (now ++ later.0) run h.worked.3 (subst (λ n. StepsList inst n s (e ∷ more) (now ++ later.0)) (omega arith) rest),
          ap (λ xs. xs ++ (now ++ later.0)) h.worked.4 ∙ append_assoc made stepped (now ++ later.0),
        );
        first = fit-append w h.before (now ++ later.0) h.fits ∙ unfit-append w now later.0 here first;
      }

-- ── what a replay answers ──

-- the fault of the making is that of the whole
pub refused_on : (w : ℕ) (inst : Instance) (log : List Entry) (r : Result Plain TableFault) (e : TableFault) → IsRunLog inst log → Refuses w inst [] e → IsErrAnd r (λ f. f ≡ e)
    → MakesTable w inst log r
refused_on w inst log r e run refuses is =
    let at = err_from_is_err_and r is in
    subst (λ s. MakesTable w inst log s) (sym at.1) (by_fault at.0 (subst (λ f. Refuses w inst [] f) (sym at.2) refuses))
  where
    by_fault : (f : TableFault) → Refuses w inst [] f → Refuses w inst log f
    by_fault fault.Memory h = tt
    by_fault (fault.Overflow here) h = overflown_on w inst log run.0 here run.1 h

module _ (log : List Entry) (k : ℕ) (d e : Entry) (lt : k < length log) (read : e ≡ get_or log k d) where
  pub around : log ≡ take k log ++ e ∷ drop (suc k) log
  around = sym (take-append-drop k log) ∙ ap (λ xs. take k log ++ xs) (drop-cons log k d lt ∙ ap (λ a. a ∷ drop (suc k) log) (sym read))

  one_more : k + 1 ≡ suc k
  one_more = omega arith

  pub front_more : take (k + 1) log ≡ take k log ++ e ∷ []
  front_more = ap (λ n. take n log) one_more ∙ take-suc log k d lt ∙ ap (λ a. take k log ++ a ∷ []) (sym read)

  module _ (inst : Instance) (t : Plain) (run : IsRunLog inst log) (stands : Stands inst (take k log) t) where
    whole : IsRun inst (take k log ++ e ∷ drop (suc k) log) run.0
    whole = subst (λ l. IsRun inst l run.0) around run.1

    pub next_is : IsNextOf inst t e
    next_is = (take k log, stands, (next_there inst (take k log) e (drop (suc k) log) run.0 t.state whole stands.table.reached).0)

    pub number_is : t.number ≡ k
    number_is = stands.number ∙ length-take-le k log (omega (arith, lt))

    -- after a step that fits
    pub fitted_next : (w : ℕ) (a : Unit {0}) → HasFitted w inst (take k log) → JudgesStep w inst t (Ok a) → HasFitted w inst (take (k + 1) log)
    fitted_next w a fitted (now, lists, fits) =
        subst (λ l. HasFitted w inst l) (sym front_more)
        (fitted-more w inst (take k log) t.state e now stands.table.reached fitted (subst (λ n. StepLists inst n t.state now) stands.number lists) fits)

    -- where a step does not fit
    pub overflown_next : (w : ℕ) (here : Place) → HasFitted w inst (take k log) → JudgesStep {A = Unit {0}} w inst t (Err here) → HasOverflown w inst log here
    overflown_next w here fitted (now, lists, first) =
        subst (λ l. HasOverflown w inst l here) (sym around)
        (overflown_within w inst (take k log) t.state e (drop (suc k) log) run.0 now here stands.table.reached whole fitted
        (subst (λ n. StepLists inst n t.state now) stands.number lists) first)

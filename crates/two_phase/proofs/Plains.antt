-- A run that goes on over the plain table.
use Rattle.std.proofs.Common.{◌≡◌, ℕ, List, [], ◌∷◌, ◌++◌, length, sym, ◌∙◌, ap, subst}
use Rattle.std.proofs.lemmas.List.{append_assoc}
use Rattle.lp_model.specs.declared.Entry.{Entry}
use Rattle.lp_model.specs.declared.Place.{Place}
use Rattle.lp_run.specs.Instance.{Instance, IsWellFormed}
use Rattle.lp_run.specs.Listing.{AllFit, Listed, StartFits, StepLists, first_unfit, start_listing}
use Rattle.lp_run.specs.Run.{IsRun}
use Rattle.lp_run.specs.State.{State}
use Rattle.lp_run.proofs.FirstUnfit.{fit-append, unfit-append}
use Rattle.bland_laws.proofs.Always.{instance_holds}
use Rattle.bland_laws.proofs.Existence.{goes_on_or_ends}
use Rattle.table_laws.proofs.Fitting.{first-of-step, fitted-more}
use Rattle.plain_table.specs.declared.faults.TableFault.{TableFault}
use Rattle.plain_table.specs.declared.faults.TableFault.TheVariants as fault
use Rattle.plain_table.specs.Answers.{Refuses}
use Rattle.plain_table.specs.Next.{OverflowsNext}
use Rattle.plain_table.specs.Plain.{Plain, Stands}
use Rattle.plain_table.proofs.Replays.{listed_there}
use Rattle.two_phase.specs.Inner.Plains.{IsFitted, IsRunFault}

module _ (w : ℕ) (inst : Instance) (log : List Entry) (t : Plain) (h : IsFitted w inst log t) where
  pub fitted_on : (e : Entry) (log' : List Entry) (t' : Plain) → log' ≡ log ++ e ∷ [] → (now : List Listed) × StepLists inst t.number t.state now × AllFit w now → Stands inst (log ++ e ∷ []) t' → IsFitted w inst log' t'
  fitted_on e log' t' is (now, lists, fits) stands =
      subst (λ log. IsFitted w inst log t') (sym is) (record {
        stands = stands;
        fitted = fitted-more w inst log t.state e now h.stands.table.reached h.fitted (subst (λ k. StepLists inst k t.state now) h.stands.number lists) fits;
      })

  pub overflow_first : (here : Place) → OverflowsNext w inst t here → IsRunFault w inst log (fault.Overflow here)
  overflow_first here (now, lists, first) =
      (t.state, h.stands.table.reached, first-of-step w inst log t.state now here h.fitted (subst (λ k. StepLists inst k t.state now) h.stands.number lists) first)

-- what is worked before a state is listed up to it
pub refused_first : (w : ℕ) (inst : Instance) → IsWellFormed inst → StartFits w inst → (log : List Entry) (s : State) → IsRun inst log s → (f : TableFault) → Refuses w inst log f → IsRunFault w inst log f
refused_first w inst well_formed start log s run fault.Memory h = tt
refused_first w inst well_formed start log s run (fault.Overflow here) h =
    let holds = instance_holds inst well_formed log s run in
    let now = listed_there inst (length log) s holds.table (goes_on_or_ends inst s holds) in (
      s,
      run,
      (
        h.before,
        now.0,
        h.worked,
        now.1,
        ap (first_unfit w) (append_assoc (start_listing inst) h.before now.0) ∙ fit-append w (start_listing inst) (h.before ++ now.0) start ∙ unfit-append w h.before now.0 here h.first,
      ),
    )

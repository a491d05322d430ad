-- What an audit answers at the end of the log.
use Rattle.std.proofs.Common.{◌≡◌, ℕ, List, [], ◌++◌, length, take, Some, Result, Ok, Err, IfOk, IfErr, inl, inr, refl, sym, ◌∙◌, subst, arith}
use Rattle.std.proofs.lemmas.List.{take_all}
use Rattle.lp_model.specs.declared.Entry.{Entry}
use Rattle.lp_model.specs.Outcome.{Outcome}
use Rattle.lp_model.specs.declared.Place.{Place}
use Rattle.lp_model.specs.Deck.{Deck, IsDeck}
use Rattle.lp_run.specs.Instance.{Instance, IsWellFormed, instance_of}
use Rattle.lp_run.specs.Listing.{AllFit, Listed, StartFits, WorkedBefore, first_unfit, start_listing, table_listing, total_listing}
use Rattle.lp_run.specs.State.{start_of}
use Rattle.lp_run.proofs.FirstUnfit.{all-append, fit-append, unfit-append}
use Rattle.lp_run.proofs.Regularity.{table_solves}
use Rattle.lp_text.specs.Report.{Report}
use Rattle.bland_laws.specs.OutcomeProves.{OutcomeProves}
use Rattle.bland_laws.proofs.Always.{instance_holds}
use Rattle.bland_laws.proofs.OfDeck.{well_formed}
use Rattle.bland_laws.proofs.OutcomeProves.{outcome_proves}
use Rattle.instance_model.specs.Making.{Refuses as Unmade}
use Rattle.instance_model.specs.declared.making.InstanceFault.{InstanceFault}
use Rattle.instance_model.specs.declared.making.InstanceFault.TheVariants as unmade
use Rattle.plain_table.specs.Answers.{Refuses}
use Rattle.plain_table.specs.declared.faults.TableFault.{TableFault}
use Rattle.plain_table.specs.declared.faults.TableFault.TheVariants as untabled
use Rattle.run_audit.specs.declared.answer.Audit.{Audit}
use Rattle.run_audit.specs.declared.answer.Audit.TheVariants as audit
use Rattle.run_audit.specs.Answers.{IsAuditCause}
use Rattle.run_audit.specs.Judged.{Judged}
use Rattle.plain_table.specs.Next.{EndsBy}
use Rattle.plain_table.specs.Plain.{Plain}
use Rattle.plain_table.specs.declared.next.End.{End}
use Rattle.run_audit.specs.declared.fault.AuditFault.{AuditFault}
use Rattle.run_audit.specs.declared.fault.AuditFault.TheVariants as fault
use Rattle.run_audit.specs.Inner.Parts.{Follows, IsAlongCause, LogOverflows, TestFits, TotalOverflows, of_instance, of_table}
use Rattle.run_audit.specs.Works.{LogLists, ReportLists, TotalLists}
use Rattle.run_audit.proofs.Along.{before_overflows, end_is_final, fits_at, ratios_there, run_goes_on}

module _ (w : ℕ) (inst : Instance) (log : List Entry) (t : Plain) (end : End) (follows : Follows w inst log t) (ends : EndsBy inst t end) (tested : TestFits w inst t) where
  front : Follows w inst (take (length log) log) t
  front = subst (λ l. Follows w inst l t) (sym (take_all (length log) log (omega arith))) follows

  along : (vs : List Listed) × LogLists inst log (length log) vs × AllFit w vs
  along = fits_at w inst log (length log) t (omega arith) front tested (inr (end_is_final inst t end ends))

  -- all that is worked for the report fits
  pub report_fits : (o : Outcome) → (vs : List Listed) × TotalLists inst t.number t.state o vs × AllFit w vs → (vs : List Listed) × ReportLists inst log o vs × AllFit w vs
  report_fits o (totals, lists, fits) = (
    along.0 ++ totals,
    (t.state, along.0, totals, follows.0.table.reached, along.1, subst (λ n. TotalLists inst n t.state o totals) follows.0.number lists, refl),
    all-append w along.0 totals along.2 fits,
  )

  -- or one of the sums is the first value that does not
  pub report_overflows : (o : Outcome) (f : AuditFault) → TotalOverflows w inst t.number t.state o f → IsAlongCause w inst log o f
  report_overflows o fault.Memory h = tt
  report_overflows o (fault.Overflow here) (x, has, first) = inr (
    along.0 ++ total_listing inst (length log) x,
    (t.state, along.0, total_listing inst (length log) x, follows.0.table.reached, along.1, inl (x, has, refl), refl),
    fit-append w along.0 (total_listing inst (length log) x) along.2 ∙ subst (λ n. first_unfit w (total_listing inst n x) ≡ Some here) follows.0.number first,
  )

-- ── where the table is not made, or the instance ──

-- something is listed by the making
made_there : (inst : Instance) → IsWellFormed inst → (vs : List Listed) × WorkedBefore inst [] vs
made_there inst formed =
    let h = instance_holds inst formed [] (start_of inst) refl in (
      _,
      (
        table_listing inst (start_of inst) h.table.table h.β,
        [],
        (h.table.table, h.β, table_solves inst (start_of inst) h.table.table h.table.inverse h.table.entries, h.values, refl),
        refl,
        refl,
      ),
    )

module _ (w : ℕ) (inst : Instance) (formed : IsWellFormed inst) (log : List Entry) where
  pub start_overflows : (o : Outcome) (f : TableFault) → StartFits w inst → Refuses w inst [] f → IsAlongCause w inst log o (of_table f)
  start_overflows o untabled.Memory start h = tt
  start_overflows o (untabled.Overflow here) start h = inl (before_overflows w inst log 0 (start_of inst) (omega arith) refl formed start here h)

  sums_overflow : (here : Place) → first_unfit w (start_listing inst) ≡ Some here → LogOverflows w inst log here
  sums_overflow here first =
      let (before, worked) = made_there inst formed in
      let (tested, ratios) = ratios_there inst 0 (start_of inst) (run_goes_on inst formed [] (start_of inst) refl) in (
        0,
        start_listing inst ++ before ++ tested,
        (start_of inst, before, tested, omega arith, refl, worked, ratios, refl),
        unfit-append w (start_listing inst ++ before) tested here (unfit-append w (start_listing inst) before here first),
      )

-- ── why there is no answer ──

module _ (w : ℕ) (inst : Instance) (r : Report) (log : List Entry) (told : r.log ≡ Some log) where
  pub along_cause : (f : AuditFault) → IsAlongCause w inst log r.outcome f → IsAuditCause w inst r f
  along_cause fault.Memory h = tt
  along_cause (fault.Overflow here) (inl (k, vs, lists, first)) = (audit.Log k, vs, (log, told, lists), first)
  along_cause (fault.Overflow here) (inr (vs, lists, first)) = (audit.Outcome, vs, (log, told, lists), first)

pub instance_cause : (w : ℕ) (d : Deck) → IsDeck d → (r : Report) (log : List Entry) → r.log ≡ Some log → (f : InstanceFault) → Unmade w d f
    → IsAuditCause w (instance_of d) r (of_instance f)
instance_cause w d deck r log told unmade.Memory h = tt
instance_cause w d deck r log told (unmade.Overflow here) h =
    let (k, vs, lists, first) = sums_overflow w (instance_of d) (well_formed d deck) log here h in (audit.Log k, vs, (log, told, lists), first)

pub cause_on : (w : ℕ) (inst : Instance) (r : Report) (log : List Entry) {A : Type 0} (x : Result A AuditFault) → r.log ≡ Some log → IfErr x (IsAlongCause w inst log r.outcome)
    → IfErr x (IsAuditCause w inst r)
cause_on w inst r log (Ok a) told h = tt
cause_on w inst r log (Err f) told h = along_cause w inst r log told f h

-- what Yes proves
pub yes_proves : (d : Deck) → IsDeck d → (r : Report) (k : ℕ) → Judged (instance_of d) r (audit.Yes k) → OutcomeProves d r.outcome
yes_proves d deck r k (log, s, told, run, gives, count, basis) = outcome_proves d deck log r.outcome (s, run, gives)

pub proved_on : (d : Deck) → IsDeck d → (r : Report) (x : Result Audit AuditFault) → IfOk x (Judged (instance_of d) r) → (k : ℕ) → x ≡ Ok (audit.Yes k) → OutcomeProves d r.outcome
proved_on d deck r x judged k is = yes_proves d deck r k (subst (λ x. IfOk x (Judged (instance_of d) r)) is judged)

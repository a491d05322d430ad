-- From the judgement of a report to what the audit of a text leaves.
use Rattle.std.proofs.Common.{◌≡◌, ℕ, List, Option, Some, None, Ok, Err, refl, sym, subst, inl}
use Rattle.std.specs.Prelude.{IfErr, IfSome, IsErrAnd, Result}
use Rattle.io_ends.specs.Bytes.{Appends, AppendsPrefix}
use Rattle.lp_model.specs.declared.Place.{Place}
use Rattle.lp_model.specs.Deck.{Deck}
use Rattle.lp_run.specs.Instance.{instance_of}
use Rattle.lp_text.specs.declared.Form.{Form}
use Rattle.lp_text.specs.Report.{Report}
use Rattle.bland_laws.specs.OutcomeProves.{OutcomeProves}
use Rattle.run_audit.specs.declared.answer.Audit.{Audit as Judgement}
use Rattle.run_audit.specs.declared.answer.Audit.TheVariants as audit
use Rattle.run_audit.specs.Judged.{Judged}
use Rattle.lp_main.specs.declared.refusal.Refusal.{Refusal}
use Rattle.lp_main.specs.declared.refusal.Refusal.TheVariants as refusal
use Rattle.lp_main.specs.declared.status.Answer.{Answer}
use Rattle.lp_main.specs.declared.words.Task.TheVariants.{Audit}
use Rattle.lp_main.specs.Audits.{IsAudited, IsUnfitAudit, answer_of_audit, audit_line}
use Rattle.lp_main.specs.Checks.{TellsReport}
use Rattle.lp_main.specs.Ends.{Begins, Writes, IsCause}
use Rattle.lp_main.specs.World.{Stream}
use Rattle.lp_main.specs.Inner.Auditing.{IsUnauditedCause}
use Rattle.lp_main.proofs.Truly.{is_true}

-- where the report is the deck's run, what it states is true
pub audited : (d : Deck) (report : Report) (judgement : Judgement) → Judged (instance_of d) report judgement
    → ((k : ℕ) → judgement ≡ audit.Yes k → OutcomeProves d report.outcome) → IsAudited d report judgement
audited d report (audit.Yes k) judged proves = (judged, is_true d report.outcome (proves k refl))
audited d report audit.NoLog judged proves = judged
audited d report (audit.Log k) judged proves = judged
audited d report audit.Outcome judged proves = judged
audited d report audit.Basis judged proves = judged

module _ (form : Form) (w : ℕ) (d : Deck) (report : Report) where
  unfit : (text : Option (List ℕ)) (here : Place) → IfSome text (λ t. TellsReport form t d report) → IsUnauditedCause w d report (refusal.Overflow here)
      → IfSome text (IsUnfitAudit form w here)
  unfit None here tells cause = tt
  unfit (Some t) here tells cause = (d, report, tells, cause)

  -- the report was not judged
  unaudited_cause : (input input' : Stream) (old : Option (List ℕ)) (r : Refusal) → IfSome input.bytes (λ t. TellsReport form t d report) → IsUnauditedCause w d report r
      → IsCause (Some (Audit form)) w input input' old old r
  unaudited_cause input input' old (refusal.Overflow here) tells cause = (unfit input.bytes here tells cause, refl)
  unaudited_cause input input' old refusal.Memory tells cause = inl refl
  unaudited_cause input input' old other tells cause = absurd cause

  pub unaudited : (result : Result Answer Refusal) (input input' : Stream) (old : Option (List ℕ)) (e : Refusal)
      → IfSome input.bytes (λ t. TellsReport form t d report) → IsUnauditedCause w d report e → IsErrAnd result (λ r. r ≡ e)
      → IfErr result (IsCause (Some (Audit form)) w input input' old old)
  unaudited (Ok a) input input' old e tells cause is = tt
  unaudited (Err r) input input' old e tells cause is = subst (IsCause (Some (Audit form)) w input input' old old) (sym is) (unaudited_cause input input' old e tells cause)

  -- the judgement was written, or a beginning of it
  pub given : (text old new : Option (List ℕ)) (judgement : Judgement) → IfSome text (λ t. TellsReport form t d report) → IsAudited d report judgement
      → Appends old new (audit_line judgement) → Writes (Some (Audit form)) w text old new (answer_of_audit judgement)
  given None old new judgement tells audited appended = (audit_line judgement, tt, appended)
  given (Some t) old new judgement tells audited appended = (audit_line judgement, (d, report, judgement, tells, audited, refl, refl), appended)

  pub begun : (text old new : Option (List ℕ)) (judgement : Judgement) → IfSome text (λ t. TellsReport form t d report) → IsAudited d report judgement
      → AppendsPrefix old new (audit_line judgement) → Begins (Some (Audit form)) w text old new
  begun None old new judgement tells audited appended = (answer_of_audit judgement, audit_line judgement, tt, appended)
  begun (Some t) old new judgement tells audited appended = (answer_of_audit judgement, audit_line judgement, (d, report, judgement, tells, audited, refl, refl), appended)

-- What is replied to a report behind a deck that is to be audited; w is the width of the arithmetic.
use Rattle.std.specs.Prelude.{◌≡◌, ℕ, List, ◌++◌, Option, IfSome, codes}
use Rattle.std.specs.Fmt.{decimal}
use Rattle.lp_model.specs.declared.Place.{Place}
use Rattle.lp_model.specs.Deck.{Deck}
use Rattle.lp_run.specs.Instance.{instance_of}
use Rattle.lp_text.specs.declared.Form.{Form}
use Rattle.lp_text.specs.Report.{Report}
use Rattle.run_audit.specs.declared.answer.Audit.{Audit}
use Rattle.run_audit.specs.declared.answer.Audit.TheVariants as audit
use Rattle.run_audit.specs.declared.fault.AuditFault.TheVariants.{Overflow}
use Rattle.run_audit.specs.Judged.{Judged}
use Rattle.run_audit.specs.Answers.{IsAuditCause}
use Rattle.lp_main.specs.declared.status.Answer.{Answer}
use Rattle.lp_main.specs.declared.status.Answer.TheVariants as answer
use Rattle.lp_main.specs.declared.refusal.Refusal.TheVariants as refusal
use Rattle.lp_main.specs.Checks.{IsReportFlaw, TellsReport}
use Rattle.lp_main.specs.FirstFaults.{IsTextFault}
use Rattle.lp_main.specs.Refusals.{ended}
use Rattle.lp_main.specs.Reply.{Reply, gives, refuses}
use Rattle.lp_main.specs.Truths.{IsTrue}

-- the line of a judgement, with how many entries the run has, or with the number of the first that is not the run's
abbrev pub audit_line : Audit → List ℕ
audit_line (audit.Yes k) = ended (codes "AUDITED " ++ decimal k)
audit_line audit.NoLog = ended (codes "REFUSED NOLOG")
audit_line (audit.Log k) = ended (codes "REFUSED LOG " ++ decimal k)
audit_line audit.Outcome = ended (codes "REFUSED OUTCOME")
audit_line audit.Basis = ended (codes "REFUSED BASIS")

abbrev pub answer_of_audit : Audit → Answer
answer_of_audit (audit.Yes k) = answer.Done
answer_of_audit other = answer.Refused

-- the report is judged so, and where it is the deck's run, what it states is true
abbrev pub IsAudited : Deck → Report → Audit → Type 0
IsAudited d report (audit.Yes k) = Judged (instance_of d) report (audit.Yes k) × IsTrue d report.outcome
IsAudited d report other = Judged (instance_of d) report other

-- the line is the judgement of the report that the text tells
abbrev pub IsAudit : Form → Answer → List ℕ → List ℕ → Type 0
IsAudit form ans line text =
    (d : Deck) × (report : Report) × (a : Audit) × TellsReport form text d report × IsAudited d report a × (ans ≡ answer_of_audit a) × (line ≡ audit_line a)

-- the first value of the run, as far as the audit follows it, that does not fit
abbrev pub IsUnfitAudit : Form → ℕ → Place → List ℕ → Type 0
IsUnfitAudit form w here text = (d : Deck) × (report : Report) × TellsReport form text d report × IsAuditCause w (instance_of d) report (Overflow here)

-- the judgement of the report; the deck's first fault, or the report's first flaw; or the first value that does not fit w bits
abbrev pub Audits : Form → ℕ → Option (List ℕ) → Reply → Type 0
Audits form w text (gives ans line) = IfSome text (IsAudit form ans line)
Audits form w text (refuses (refusal.Deck fault)) = IfSome text (λ t. IsTextFault form t fault)
Audits form w text (refuses (refusal.Report number found)) = IfSome text (IsReportFlaw form number found)
Audits form w text (refuses (refusal.Overflow here)) = IfSome text (IsUnfitAudit form w here)
Audits form w text other = ⊥

-- What the parts of a check answer.
use Rattle.std.specs.Prelude.{◌≡◌, ℕ, List, Option, IfSome, Err}
use Rattle.lp_model.specs.Deck.{Deck}
use Rattle.lp_text.specs.declared.Form.{Form}
use Rattle.lp_text.specs.Report.{Report}
use Rattle.cert_check.specs.declared.verdict.CheckFault.TheVariants.{Overflow}
use Rattle.cert_check.specs.Judged.{Judges}
use Rattle.cert_check.specs.declared.verdict.Verdict.{Verdict}
use Rattle.cert_check.specs.declared.verdict.Verdict.TheVariants.{Yes, No}
use Rattle.cert_check.specs.Walk.{walk}
use Rattle.report_reader.specs.declared.fault.ReportFault.{ReportFault}
use Rattle.report_reader.specs.declared.fault.ReportFault.TheVariants as fault
use Rattle.lp_main.specs.declared.refusal.Refusal.{Refusal}
use Rattle.lp_main.specs.declared.refusal.Refusal.TheVariants as refusal
use Rattle.lp_main.specs.declared.status.Answer.{Answer}
use Rattle.lp_main.specs.declared.status.Answer.TheVariants as answer
use Rattle.lp_main.specs.Checks.{IsBothCutOff, IsReportFlaw}
use Rattle.lp_main.specs.FirstFaults.{IsTextFault}
use Rattle.lp_main.specs.Verdicts.{rule_name}

-- the refusal where the reader of reports answers this
abbrev pub refusal_of_report : ReportFault → Refusal
refusal_of_report fault.Read = refusal.Read
refusal_of_report fault.Memory = refusal.Memory
refusal_of_report (fault.At number flaw) = refusal.Report number flaw

-- why no deck with a report behind it was read
abbrev pub IsBothCause : Form → Option (List ℕ) → Option (List ℕ) → ℕ → ℕ → Refusal → Type 0
IsBothCause form text left faults faults' (refusal.Deck fault) = IfSome text (λ t. IsTextFault form t fault)
IsBothCause form text left faults faults' refusal.Read = IfSome text (IsBothCutOff form left faults faults')
IsBothCause form text left faults faults' (refusal.Report number found) = IfSome text (IsReportFlaw form number found)
IsBothCause form text left faults faults' refusal.Memory = Unit {0}
IsBothCause form text left faults faults' other = ⊥

-- why there is no verdict on a report
abbrev pub IsJudgeCause : ℕ → Deck → Report → Refusal → Type 0
IsJudgeCause w d report (refusal.Unfit rule name) = Judges w (walk d report.outcome report.basis) (Err (Overflow rule)) × (name ≡ rule_name d rule)
IsJudgeCause w d report refusal.Memory = Unit {0}
IsJudgeCause w d report other = ⊥

abbrev pub answer_of : Verdict → Answer
answer_of Yes = answer.Done
answer_of (No rule) = answer.Refused

-- What the parts of an audit answer.
use Rattle.std.specs.Prelude.{ℕ}
use Rattle.lp_model.specs.Deck.{Deck}
use Rattle.lp_run.specs.Instance.{instance_of}
use Rattle.lp_text.specs.Report.{Report}
use Rattle.run_audit.specs.declared.fault.AuditFault.TheVariants.{Overflow}
use Rattle.run_audit.specs.Answers.{IsAuditCause}
use Rattle.lp_main.specs.declared.refusal.Refusal.{Refusal}
use Rattle.lp_main.specs.declared.refusal.Refusal.TheVariants as refusal

-- why a report is not judged
abbrev pub IsUnauditedCause : ℕ → Deck → Report → Refusal → Type 0
IsUnauditedCause w d report (refusal.Overflow here) = IsAuditCause w (instance_of d) report (Overflow here)
IsUnauditedCause w d report refusal.Memory = Unit {0}
IsUnauditedCause w d report other = ⊥

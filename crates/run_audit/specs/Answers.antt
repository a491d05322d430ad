-- Why an audit has no answer.
use Rattle.std.specs.Prelude.{◌≡◌, ℕ, List, Some, Result, Ok, Err}
use Rattle.exact_frac.specs.Count.{raised}
use Rattle.lp_run.specs.Instance.{Instance}
use Rattle.lp_run.specs.Listing.{Listed, first_unfit}
use Rattle.lp_text.specs.Report.{Report}
use Rattle.run_audit.specs.declared.answer.Audit.{Audit}
use Rattle.run_audit.specs.declared.fault.AuditFault.{AuditFault}
use Rattle.run_audit.specs.declared.fault.AuditFault.TheVariants as fault
use Rattle.run_audit.specs.Works.{AuditLists}

-- an overflow has the place of the first value that does not fit, of what is worked for an answer: along the log as far as it agrees with the run, or along
-- a log that is the whole run and of the outcome; want of memory has no cause
abbrev pub IsAuditCause : ℕ → Instance → Report → AuditFault → Type 0
IsAuditCause w inst r fault.Memory = Unit {0}
IsAuditCause w inst r (fault.Overflow here) = (a : Audit) × (vs : List Listed) × AuditLists inst r a vs × (first_unfit w vs ≡ Some here)

-- the count of unfit results after an audit: raised by one exactly at an overflow
abbrev pub unfit_after_audit : {A : Type 0} → ℕ → Result A AuditFault → ℕ
unfit_after_audit count (Ok answer) = count
unfit_after_audit count (Err fault.Memory) = count
unfit_after_audit count (Err (fault.Overflow here)) = raised count 1

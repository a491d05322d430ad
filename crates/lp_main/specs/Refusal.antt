-- The status and the line of each refusal.
use Rattle.std.specs.Prelude.{ℕ, List}
use Rattle.lp_main.specs.declared.refusal.Refusal.{Refusal}
use Rattle.lp_main.specs.declared.refusal.Refusal.TheVariants as refusal
use Rattle.lp_main.specs.declared.status.Status.{Status}
use Rattle.lp_main.specs.declared.status.Status.TheVariants as status
use Rattle.lp_main.specs.FaultLines.{reader_line}
use Rattle.lp_main.specs.Overflow.{overflow_line, range_unfit_line}
use Rattle.lp_main.specs.Verdicts.{flaw_line, unfit_line}
use Rattle.lp_main.specs.Refusals.{budget_line, memory_line, read_line, usage_line, wide_line, write_line}

abbrev pub status_of_refusal : Refusal → Status
status_of_refusal refusal.Usage = status.Usage
status_of_refusal (refusal.Deck fault) = status.BadInput
status_of_refusal refusal.Read = status.ReadFault
status_of_refusal refusal.Write = status.WriteFault
status_of_refusal (refusal.Overflow here) = status.Overflow
status_of_refusal (refusal.Budget n) = status.Budget
status_of_refusal (refusal.Report number flaw) = status.BadInput
status_of_refusal (refusal.Unfit rule name) = status.Overflow
status_of_refusal (refusal.RangeUnfit place name) = status.Overflow
status_of_refusal (refusal.Wide name) = status.BadInput
status_of_refusal refusal.Memory = status.Memory

abbrev pub line_of : Refusal → List ℕ
line_of refusal.Usage = usage_line
line_of (refusal.Deck fault) = reader_line fault
line_of refusal.Read = read_line
line_of refusal.Write = write_line
line_of (refusal.Overflow here) = overflow_line here
line_of (refusal.Budget n) = budget_line n
line_of (refusal.Report number flaw) = flaw_line number flaw
line_of (refusal.Unfit rule name) = unfit_line rule name
line_of (refusal.RangeUnfit place name) = range_unfit_line place name
line_of (refusal.Wide name) = wide_line name
line_of refusal.Memory = memory_line

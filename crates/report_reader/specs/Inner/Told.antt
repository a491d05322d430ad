-- A line's judgement, told of the line of a number.
use Rattle.std.specs.Prelude.{ℕ, Result, Ok, Err}
use Rattle.report_lines.specs.declared.flaw.Flaw.{Flaw}
use Rattle.report_reader.specs.declared.fault.ReportFault.{ReportFault}
use Rattle.report_reader.specs.declared.fault.ReportFault.TheVariants.{At}

abbrev pub told : {V : Type 0} → ℕ → Result V Flaw → Result V ReportFault
told number (Ok v) = Ok v
told number (Err flaw) = Err (At number flaw)

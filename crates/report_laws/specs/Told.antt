-- A report that a text tells.
use Rattle.std.specs.Prelude.{◌≡◌, ◌≢◌, ◌^◌, ◌<◌, ℕ, List, Option, Result, Ok, Err, IfOk, IfErr, IfSome}
use Rattle.std.specs.Io.KnownBytes.{prepend_known}
use Rattle.std.specs.List.{All}
use Rattle.lp_model.specs.Deck.{Deck}
use Rattle.lp_text.specs.Lines.{lines_of}
use Rattle.lp_text.specs.Report.{Report, column_names, row_names}
use Rattle.mps_cards.specs.ReaderState.{ReaderState}
use Rattle.report_lines.specs.FirstFlaw.{HasFirstFlaw, column_total}
use Rattle.report_lines.specs.declared.flaw.Flaw.{Flaw}
use Rattle.report_reader.specs.Reading.{IsReportCause, IsReportOf, IsTextOf, counted_on}
use Rattle.report_reader.specs.declared.fault.ReportFault.{ReportFault}
use Rattle.report_reader.specs.declared.fault.ReportFault.TheVariants.{At, Memory, Read}

-- no line feed stands in the name
abbrev pub IsInLine : List ℕ → Type 0
IsInLine name = All (λ c. c ≢ 10) name

-- each name of the deck stands in one line, and the numbers of columns are of 64 bits
pub record IsTellable (d : Deck) : Type 0 where
  pub name : IsInLine d.name
  pub columns : All IsInLine (column_names d)
  pub rows : All IsInLine (row_names d)
  pub numbered : column_total d < 2 ^ 64

-- the report is one of the deck, and the text, which is within the limits, is its text, with or without the last line feed
pub record Tells (d : Deck) (text : List ℕ) (report : Report) : Type 0 where
  pub is_of : IsReportOf d report
  pub is_text : IsTextOf d report text

-- an answer to a text that should be a report of the deck: a report that it tells, or the number of the line with its first flaw, and that
abbrev pub IsAnswer : Deck → List ℕ → Result Report (ℕ × Flaw) → Type 0
IsAnswer d text (Ok report) = Tells d text report
IsAnswer d text (Err (line, found)) = HasFirstFlaw d (lines_of text) line found

-- what the reading of a report promises of its result
pub record IsReading (d : Deck) (before : ReaderState) (left left' : Option (List ℕ)) (faults faults' : ℕ) (result : Result Report ReportFault) : Type 0 where
  pub report : IfOk result (IsReportOf d)
  pub text : IfOk result (λ report. IfSome (prepend_known before.kept left) (IsTextOf d report))
  pub cause : IfErr result (IsReportCause d before left left' faults faults')

-- the result says the same as the answer, whose lines count from those before; a failed read and want of memory agree with each
abbrev pub Agrees : ReaderState → Result Report (ℕ × Flaw) → Result Report ReportFault → Type 0
Agrees before answer (Ok report) = answer ≡ Ok report
Agrees before answer (Err (At number found)) = (line : ℕ) × (number ≡ counted_on line before.count) × (answer ≡ Err (line, found))
Agrees before answer (Err Read) = Unit {0}
Agrees before answer (Err Memory) = Unit {0}

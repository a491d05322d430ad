-- Why there was no next line of a report.
use Rattle.std.specs.Prelude.{◌≡◌, ℕ, ◌+◌, ◌<◌, List, Option, Some, None, IfSome, true}
use Rattle.io_ends.specs.Count.{one_more}
use Rattle.lp_text.specs.Limits.{report_limit, report_line_limit}
use Rattle.mps_cards.specs.NextLine.{AnswersLine, FailsToRead, IsAtEnd, first_size, lines_left}
use Rattle.mps_cards.specs.ReaderState.{ReaderState}
use Rattle.mps_cards.specs.declared.faults.ReadFault.TheVariants as reader
use Rattle.mps_cards.specs.declared.lines.Line.{Line}
use Rattle.report_lines.specs.declared.flaw.Flaw.{Flaw}
use Rattle.report_lines.specs.declared.flaw.Flaw.TheVariants.{Bytes, Long, Missing}
use Rattle.report_reader.specs.declared.fault.ReportFault.{ReportFault}
use Rattle.report_reader.specs.declared.fault.ReportFault.TheVariants.{At, Memory, Read}

-- the flaw of the line that comes next: the report's bytes through it pass the limit, the line's own bytes do, or no line is left
abbrev pub IsFlawOfNext : ReaderState → ReaderState → Option (List ℕ) → Option (List ℕ) → Flaw → Type 0
IsFlawOfNext before after left left' Bytes = IfSome (lines_left before.kept left) (λ lines. report_limit < before.since + first_size lines)
IsFlawOfNext before after left left' Long = (line : Line) × AnswersLine before after left left' report_line_limit report_limit line × (line.longer ≡ true)
IsFlawOfNext before after left left' Missing = IsAtEnd before.kept left
IsFlawOfNext before after left left' other = ⊥

-- the cause of each answer that is no line; nothing is said of want of memory
abbrev pub IsLineCause : ReaderState → ReaderState → Option (List ℕ) → Option (List ℕ) → ℕ → ℕ → ReportFault → Type 0
IsLineCause before after left left' faults faults' Memory = Unit {0}
IsLineCause before after left left' faults faults' Read = FailsToRead before.kept before.since report_limit left left' faults faults'
IsLineCause before after left left' faults faults' (At number found) = (number ≡ one_more before.count) × IsFlawOfNext before after left left' found

-- where the reader stands after a refusal: past the limit of bytes, and where a read failed, it gives that fault again; else it stands behind
-- the line that has the flaw, and at the end where a line is missing; nothing is said after want of memory
abbrev pub StandsAfter : ReaderState → ReportFault → Type 0
StandsAfter after Memory = Unit {0}
StandsAfter after Read = after.fault ≡ Some reader.Read
StandsAfter after (At number Bytes) = after.fault ≡ Some (reader.TooMany number)
StandsAfter after (At number Missing) = (after.fault ≡ None) × (number ≡ one_more after.count)
StandsAfter after (At number other) = (after.fault ≡ None) × (number ≡ after.count)

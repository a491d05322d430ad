-- What the reading of a report answers, in terms of the lines that are left to read.
use Rattle.std.specs.Prelude.{◌≡◌, ◌⊎◌, ◌<◌, ℕ, zero, suc, ◌+◌, List, [], ◌∷◌, ◌++◌, length, get_or, Option, None, IfSome}
use Rattle.std.specs.List.{All}
use Rattle.io_ends.specs.Count.{one_more}
use Rattle.lp_model.specs.Basis.{Basis}
use Rattle.lp_model.specs.Deck.{Deck}
use Rattle.lp_model.specs.Outcome.{Outcome, infeasible, optimal, unbounded}
use Rattle.rational.specs.Width.{FitsWidth}
use Rattle.lp_text.specs.Report.{Report, text_of_report}
use Rattle.deck_model.specs.Outcome.{HasLengthsOf}
use Rattle.std.specs.Option.{option_map}
use Rattle.lp_text.specs.Limits.{report_limit}
use Rattle.lp_text.specs.Lines.{Line, lines_of}
use Rattle.mps_cards.specs.NextLine.{FailsToRead, lines_left}
use Rattle.mps_cards.specs.ReaderState.{ReaderState}
use Rattle.report_lines.specs.declared.flaw.Flaw.{Flaw}
use Rattle.report_lines.specs.FirstFlaw.{Expected, HasFirstFlaw, IsWithinLimits, Reaches, bytes_of, column_total, sizes, version}
use Rattle.report_reader.specs.declared.fault.ReportFault.{ReportFault}
use Rattle.report_reader.specs.declared.fault.ReportFault.TheVariants.{At, Memory, Read}
use Rattle.report_lines.specs.Judged.{IsWithin}

-- a count of 64 bits after so many more
abbrev pub counted_on : ℕ → ℕ → ℕ
counted_on zero count = count
counted_on (suc more) count = one_more (counted_on more count)

-- each number is above the one before
abbrev pub IsRising : List ℕ → Type 0
IsRising numbers = (i : ℕ) → i + 1 < length numbers → get_or numbers i 0 < get_or numbers (i + 1) 0

-- a basic column for each row, and columns that rise, all of them in range
pub record IsBasisOf (d : Deck) (basis : Basis) : Type 0 where
  pub one_each : length basis.basic ≡ length d.rows
  pub basic : All (λ q. q < column_total d) basis.basic
  pub upper : All (λ q. q < column_total d) basis.upper
  pub rising : IsRising basis.upper

-- the parts of each fraction are below 2^127
abbrev pub AreNarrow : Outcome → Type 0
AreNarrow (optimal x y objective) = All (FitsWidth 127) x × All (FitsWidth 127) y × FitsWidth 127 objective
AreNarrow (infeasible y) = All (FitsWidth 127) y
AreNarrow (unbounded x ray) = All (FitsWidth 127) x × All (FitsWidth 127) ray

-- the lists have the deck's lengths, the fractions are those of 128 bits, and the numbers of the basis and of the log are in range
pub record IsReportOf (d : Deck) (report : Report) : Type 0 where
  pub lengths : HasLengthsOf d report.outcome
  pub narrow : AreNarrow report.outcome
  pub basis : IfSome report.basis (IsBasisOf d)
  pub log : IfSome report.log (All (IsWithin (column_total d) (length d.rows)))

-- a reader that has given no fault, and has answered no line since its mark
pub record IsMarked (reader : ReaderState) : Type 0 where
  pub sound : reader.fault ≡ None
  pub since : reader.since ≡ 0

-- the first flaw of the lines that were left, whose number is counted on from the lines before them
abbrev pub IsFirstFlaw : Deck → ReaderState → Option (List ℕ) → ℕ → Flaw → Type 0
IsFirstFlaw d before left number found =
    (k : ℕ) × (number ≡ counted_on k before.count) × IfSome (lines_left before.kept left) (λ lines. HasFirstFlaw d lines k found)

-- a read failed that was needed behind these lines, which are as expected
pub record IsCutOff (d : Deck) (before : ReaderState) (left left' : Option (List ℕ)) (faults faults' : ℕ) : Type 0 where
  pub lines : List Line
  pub kept : List ℕ
  pub left_behind : Option (List ℕ)
  pub all : lines_left before.kept left ≡ option_map (λ rest. lines ++ rest) (lines_left kept left_behind)
  pub within : IsWithinLimits lines
  pub expected : List Expected
  pub met : Reaches d (version ∷ []) (bytes_of lines) expected
  pub fails : FailsToRead kept (sizes lines) report_limit left_behind left' faults faults'

-- why no report was read; nothing is said of want of memory
abbrev pub IsReportCause : Deck → ReaderState → Option (List ℕ) → Option (List ℕ) → ℕ → ℕ → ReportFault → Type 0
IsReportCause d before left left' faults faults' Memory = Unit {0}
IsReportCause d before left left' faults faults' Read = IsCutOff d before left left' faults faults'
IsReportCause d before left left' faults faults' (At number found) = IsFirstFlaw d before left number found

-- a text, but for a line feed at its end
abbrev pub IsUpToFeed : List ℕ → List ℕ → Type 0
IsUpToFeed text whole = (text ≡ whole) ⊎ (text ++ 10 ∷ [] ≡ whole)

-- the text, which is within the limits, is that of the report, with or without the line feed at its end
pub record IsTextOf (d : Deck) (report : Report) (text : List ℕ) : Type 0 where
  pub is : IsUpToFeed text (text_of_report d report)
  pub within : IsWithinLimits (lines_of text)

-- What a call leaves that takes lines of a report from a source.
use Rattle.std.specs.Prelude.{◌≡◌, ◌≤◌, ℕ, ◌+◌, List, [], ◌∷◌, ◌++◌, length, Option, None, IfSome, Result, IfOk, IfErr, IsErrOf}
use Rattle.std.specs.List.{All}
use Rattle.std.specs.Option.{option_map}
use Rattle.io_ends.specs.Count.{one_more}
use Rattle.lp_model.specs.Deck.{Deck}
use Rattle.lp_text.specs.Limits.{report_limit, report_line_limit}
use Rattle.lp_text.specs.Lines.{Line}
use Rattle.mps_cards.specs.NextLine.{FailsToRead, lines_left}
use Rattle.mps_cards.specs.ReaderState.{ReaderState}
use Rattle.report_lines.specs.FirstFlaw.{Expected, HasNextFlaw, Reaches, bytes_of, sizes}
use Rattle.report_reader.specs.Causes.{StandsAfter}
use Rattle.report_reader.specs.Reading.{counted_on}
use Rattle.report_reader.specs.declared.fault.ReportFault.{ReportFault}
use Rattle.report_reader.specs.declared.fault.ReportFault.TheVariants.{At, Memory, Read}

-- the reader has given no fault, and has answered no more than a report may have
pub record IsReady (reader : ReaderState) : Type 0 where
  pub sound : reader.fault ≡ None
  pub within : reader.since ≤ report_limit

-- the reader has answered these lines, none of which is too long
pub record Moves (before after : ReaderState) (left left' : Option (List ℕ)) (lines : List Line) : Type 0 where
  pub all : lines_left before.kept left ≡ option_map (λ rest. lines ++ rest) (lines_left after.kept left')
  pub ready : IsReady after
  pub count : after.count ≡ counted_on (length lines) before.count
  pub since : after.since ≡ before.since + sizes lines
  pub sized : length lines ≤ sizes lines
  pub short : All (λ line. length line.bytes ≤ report_line_limit) lines

-- lines were taken that are as expected, and of which this holds
pub record Found (d : Deck) (before after : ReaderState) (left left' : Option (List ℕ)) (expected next : List Expected) (Is : List (List ℕ) → Type 0) : Type 0 where
  pub lines : List Line
  pub moves : Moves before after left left' lines
  pub met : Reaches d expected (bytes_of lines) next
  pub holds : Is (bytes_of lines)

-- lines were taken that are as expected, and one more is expected
pub record Stops (d : Deck) (before : ReaderState) (left : Option (List ℕ)) (expected : List Expected) : Type 0 where
  pub after : ReaderState
  pub left_after : Option (List ℕ)
  pub lines : List Line
  pub moves : Moves before after left left_after lines
  pub one : Expected
  pub others : List Expected
  pub met : Reaches d expected (bytes_of lines) (one ∷ others)

-- why it went no further: a read failed, or the next line has this flaw
abbrev pub IsStop : Deck → ReaderState → Option (List ℕ) → Option (List ℕ) → ℕ → ℕ → List Expected → ReportFault → Type 0
IsStop d before left left' faults faults' expected Memory = Unit {0}
IsStop d before left left' faults faults' expected Read =
    (s : Stops d before left expected) × FailsToRead s.after.kept s.after.since report_limit s.left_after left' faults faults'
IsStop d before left left' faults faults' expected (At number found) =
    (s : Stops d before left expected) × (number ≡ one_more s.after.count)
    × IfSome (lines_left s.after.kept s.left_after) (λ lines. HasNextFlaw d (s.one ∷ s.others) s.after.since lines found)

-- what a call answers where these lines are expected, and others behind them
pub record Reads {S V : Type 0} (d : Deck) (remaining : S → Option (List ℕ)) (fault_count : S → ℕ) (before after : ReaderState) (old new : S)
    (expected : List Expected) (next : V → List Expected) (Is : V → List (List ℕ) → Type 0) (result : Result V ReportFault) : Type 0 where
  pub found : IfOk result (λ v. Found d before after (remaining old) (remaining new) expected (next v) (Is v))
  pub stop : IfErr result (IsStop d before (remaining old) (remaining new) (fault_count old) (fault_count new) expected)
  pub stands : IfErr result (StandsAfter after)
  pub stays : ¬ IsErrOf result Read → fault_count new ≡ fault_count old
  pub never_falls : fault_count old ≤ fault_count new

-- why the input did not end behind the report
abbrev pub IsRestCause : Deck → ReaderState → Option (List ℕ) → Option (List ℕ) → ℕ → ℕ → ReportFault → Type 0
IsRestCause d before left left' faults faults' Memory = Unit {0}
IsRestCause d before left left' faults faults' Read = FailsToRead before.kept before.since report_limit left left' faults faults'
IsRestCause d before left left' faults faults' (At number found) =
    (number ≡ one_more before.count) × IfSome (lines_left before.kept left) (λ lines. HasNextFlaw d [] before.since lines found)

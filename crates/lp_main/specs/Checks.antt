-- What is replied to a report behind a deck that is to be checked; w is the width of the arithmetic.
use Rattle.std.specs.Prelude.{◌≡◌, ◌⊎◌, ℕ, ◌++◌, List, [], ◌∷◌, drop, Option, Some, IfSome, Ok, Err}
use Rattle.lp_model.specs.Deck.{Deck}
use Rattle.lp_text.specs.Lines.{Line, lines_of}
use Rattle.lp_text.specs.Report.{Report}
use Rattle.mps_cards.specs.NextLine.{FailsToRead, lines_left}
use Rattle.lp_text.specs.declared.Form.{Form}
use Rattle.mps_model.specs.DeckOf.{IsDeckOf}
use Rattle.lp_text.specs.Limits.{report_limit}
use Rattle.report_lines.specs.declared.flaw.Flaw.{Flaw}
use Rattle.report_lines.specs.FirstFlaw.{Expected, HasFirstFlaw, IsWithinLimits, Reaches, bytes_of, sizes, version}
use Rattle.report_reader.specs.Reading.{IsReportOf, IsTextOf, counted_on}
use Rattle.cert_check.specs.declared.verdict.Rule.{Rule}
use Rattle.cert_check.specs.declared.verdict.CheckFault.TheVariants.{Overflow}
use Rattle.cert_check.specs.declared.verdict.Verdict.TheVariants.{No, Yes}
use Rattle.cert_check.specs.Judged.{Judges}
use Rattle.cert_check.specs.Proved.{Holds}
use Rattle.cert_check.specs.Walk.{walk}
use Rattle.lp_main.specs.declared.status.Answer.{Answer}
use Rattle.lp_main.specs.declared.status.Answer.TheVariants as answer
use Rattle.lp_main.specs.declared.refusal.Refusal.TheVariants as refusal
use Rattle.lp_main.specs.FirstFaults.{IsDeckCutOff, IsTextFault}
use Rattle.lp_main.specs.Reply.{Reply, gives, refuses}
use Rattle.lp_main.specs.Verdicts.{accepted_line, refused_line, rule_name}

-- the text is a deck, behind whose last line these lines stand
pub record HasBehind (form : Form) (text : List ℕ) (d : Deck) (behind : List Line) : Type 0 where
  pub line : ℕ
  pub deck : IsDeckOf form text d line
  pub behind_is : behind ≡ drop line (lines_of text)

-- behind the deck the text is that of the report, which is one of the deck
pub record TellsReport (form : Form) (text : List ℕ) (d : Deck) (report : Report) : Type 0 where
  pub rest : List ℕ
  pub behind : HasBehind form text d (lines_of rest)
  pub is : IsTextOf d report rest
  pub of_deck : IsReportOf d report

-- the verdict on a report, and its line: no item stops the walk, so all holds; or the first that does is broken
abbrev pub IsVerdictOn : ℕ → Deck → Report → Answer → List ℕ → Type 0
IsVerdictOn w d report answer.Done line =
    Judges w (walk d report.outcome report.basis) (Ok Yes) × Holds d report.outcome report.basis × (line ≡ accepted_line report.outcome)
IsVerdictOn w d report answer.Refused line =
    (rule : Rule) × Judges w (walk d report.outcome report.basis) (Ok (No rule)) × (line ≡ refused_line d rule)

-- the line is the verdict on the report that the text tells
abbrev pub IsVerdict : Form → ℕ → Answer → List ℕ → List ℕ → Type 0
IsVerdict form w ans line text = (d : Deck) × (report : Report) × TellsReport form text d report × IsVerdictOn w d report ans line

-- the line of this number, counted from the text's first, has the first flaw of what stands behind the deck
abbrev pub IsReportFlaw : Form → ℕ → Flaw → List ℕ → Type 0
IsReportFlaw form number found text =
    (d : Deck) × (behind : List Line) × (h : HasBehind form text d behind) × (k : ℕ) × (number ≡ counted_on k h.line) × HasFirstFlaw d behind k found

-- the first item of the walk that stops it has a sum that does not fit
abbrev pub IsUnfit : Form → ℕ → Rule → Option (List ℕ) → List ℕ → Type 0
IsUnfit form w rule name text =
    (d : Deck) × (report : Report) × TellsReport form text d report × Judges w (walk d report.outcome report.basis) (Err (Overflow rule)) × (name ≡ rule_name d rule)

-- a read failed behind the deck: the lines that were read whole are those of a report, and no more than it may have; what was read behind them has no whole line
pub record IsReportCutOff (form : Form) (left : Option (List ℕ)) (faults faults' : ℕ) (text : List ℕ) : Type 0 where
  pub d : Deck
  pub lines : List Line
  pub kept : List ℕ
  pub left_behind : Option (List ℕ)
  pub behind : List Line
  pub has : HasBehind form text d (lines ++ behind)
  pub rest : lines_left kept left_behind ≡ Some behind
  pub within : IsWithinLimits lines
  pub expected : List Expected
  pub met : Reaches d (version ∷ []) (bytes_of lines) expected
  pub fails : FailsToRead kept (sizes lines) report_limit left_behind left faults faults'

-- a read failed in the deck, or behind it
abbrev pub IsBothCutOff : Form → Option (List ℕ) → ℕ → ℕ → List ℕ → Type 0
IsBothCutOff form left faults faults' text = IsDeckCutOff form left text ⊎ IsReportCutOff form left faults faults' text

-- the verdict on the report; the deck's first fault, or the report's first flaw; or the first sum of a rule that does not fit w bits
abbrev pub Checks : Form → ℕ → Option (List ℕ) → Reply → Type 0
Checks form w text (gives ans line) = IfSome text (IsVerdict form w ans line)
Checks form w text (refuses (refusal.Deck fault)) = IfSome text (λ t. IsTextFault form t fault)
Checks form w text (refuses (refusal.Report number found)) = IfSome text (IsReportFlaw form number found)
Checks form w text (refuses (refusal.Unfit rule name)) = IfSome text (IsUnfit form w rule name)
Checks form w text other = ⊥

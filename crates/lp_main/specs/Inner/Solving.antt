-- What the parts of a solve answer; w is the width of the arithmetic.
use Rattle.std.specs.Prelude.{◌≡◌, ℕ, List, Option, IfSome}
use Rattle.lp_model.specs.declared.Entry.{Entry}
use Rattle.lp_model.specs.Deck.{Deck}
use Rattle.lp_run.specs.Instance.{instance_of}
use Rattle.lp_run.specs.Listing.{Overflows}
use Rattle.lp_run.specs.Run.{IsRun}
use Rattle.lp_run.specs.State.{State}
use Rattle.factor_run.specs.Calm.{IsCalm}
use Rattle.deck_model.specs.Outcome.{HasLengthsOf}
use Rattle.lp_text.specs.Report.{Report}
use Rattle.lp_text.specs.declared.Form.{Form}
use Rattle.mps_model.specs.DeckOf.{IsDeckOf}
use Rattle.mps_reader.specs.declared.faults.DeckFault.{DeckFault}
use Rattle.mps_reader.specs.declared.faults.DeckFault.TheVariants as fault
use Rattle.lp_main.specs.declared.words.Asked.{Asked}
use Rattle.lp_main.specs.declared.refusal.Refusal.{Refusal}
use Rattle.lp_main.specs.declared.refusal.Refusal.TheVariants as refusal
use Rattle.lp_main.specs.FirstFaults.{IsDeckCutOff, IsTextFault}
use Rattle.lp_main.specs.Solves.{IsShort, IsSolved, stated}

-- the refusal where the reader answers this
abbrev pub refusal_of : DeckFault → Refusal
refusal_of fault.Read = refusal.Read
refusal_of fault.Memory = refusal.Memory
refusal_of fault = refusal.Deck fault

-- the text is the deck
abbrev pub IsRead : Form → List ℕ → Deck → Type 0
IsRead form text d = (line : ℕ) × IsDeckOf form text d line

-- why no deck was read: the text's first fault; or a read failed, and what was taken before has no fault
abbrev pub IsReadingCause : Form → Option (List ℕ) → Option (List ℕ) → Refusal → Type 0
IsReadingCause form text left (refusal.Deck fault) = IfSome text (λ t. IsTextFault form t fault)
IsReadingCause form text left refusal.Read = IfSome text (IsDeckCutOff form left)
IsReadingCause form text left refusal.Memory = Unit {0}
IsReadingCause form text left other = ⊥

-- the report states the outcome of the deck's whole run, as it is asked for
pub record IsReportOf (asked : Asked) (d : Deck) (report : Report) : Type 0 where
  pub log : List Entry
  pub last : State
  pub solved : IsSolved asked.budget d log report.outcome
  pub run : IsRun (instance_of d) log last
  pub is : report ≡ stated asked log report.outcome last
  pub lengths : HasLengthsOf d report.outcome

-- why a deck that was read has no report. A deck that is calm is not refused for a value that does not fit
abbrev pub IsReportCause : Asked → ℕ → Deck → Refusal → Type 0
IsReportCause asked w d (refusal.Overflow here) = Overflows w asked.budget (instance_of d) here × (¬ IsCalm w (instance_of d))
IsReportCause asked w d (refusal.Budget moves) = IsShort asked.budget moves d
IsReportCause asked w d refusal.Memory = Unit {0}
IsReportCause asked w d other = ⊥

-- why a report was not written to its end
abbrev pub IsWriteCause : Refusal → Type 0
IsWriteCause refusal.Write = Unit {0}
IsWriteCause refusal.Memory = Unit {0}
IsWriteCause other = ⊥

-- What a call of the program does.
use Rattle.std.specs.Prelude.{◌≡◌, ◌≤◌, ◌⊎◌, ℕ, List, Option, IfSome, Result, Ok, Err}
use Rattle.io_ends.specs.Count.{Rose}
use Rattle.lp_model.specs.Deck.{Deck}
use Rattle.lp_model.specs.Log.{moves}
use Rattle.lp_model.specs.declared.Place.{Place}
use Rattle.lp_model.specs.Outcome.{Outcome}
use Rattle.lp_model.specs.declared.Entry.{Entry}
use Rattle.lp_run.specs.Ends.{HasOutcome}
use Rattle.lp_run.specs.Instance.{instance_of}
use Rattle.lp_run.specs.Listing.{RunFits}
use Rattle.lp_text.specs.declared.Form.{Form}
use Rattle.report_lines.specs.declared.flaw.Flaw.{Flaw}
use Rattle.mps_model.specs.DeckOf.{Reading, has_fault, is_deck, reading_of}
use Rattle.deck_tools.specs.Layout.{deck_text}
use Rattle.deck_tools.specs.Transport.{transport}
use Rattle.lp_main.specs.declared.status.Status.{Status}
use Rattle.lp_main.specs.declared.status.Status.TheVariants as status
use Rattle.lp_main.specs.declared.words.Task.{Task}
use Rattle.lp_main.specs.declared.words.Task.TheVariants as task
use Rattle.lp_main.specs.Audits.{IsUnfitAudit}
use Rattle.lp_main.specs.Checks.{IsReportFlaw}
use Rattle.lp_main.specs.Ends.{End, IsOrMemory, LeavesBy, TakesAsNeeded, ReadsBy, SaysBy, WritesBy, status_of_end}
use Rattle.lp_main.specs.FaultLines.{fault_line}
use Rattle.lp_main.specs.Refusals.{wide_line}
use Rattle.ranging.specs.declared.fault.RangePlace.{RangePlace}
use Rattle.lp_main.specs.Ranged.{HasUnfitRange}
use Rattle.lp_main.specs.Says.{Says}
use Rattle.lp_main.specs.Summaries.{summary_budget}
use Rattle.lp_main.specs.World.{World}

-- the run of the deck ends within the budget
abbrev pub EndsWithin : ℕ → Deck → Type 0
EndsWithin budget d = (log : List Entry) × (o : Outcome) × HasOutcome (instance_of d) log o × (moves log ≤ budget)

-- a deck whose run ends within the budget is solved, unless a value of the run does not fit w bits, or memory ran out
abbrev pub MustSolve : ℕ → ℕ → Deck → Status → Type 0
MustSolve budget w d s = EndsWithin budget d → IsOrMemory s status.Done ⊎ ((s ≡ status.Overflow) × (¬ RunFits w (instance_of d)))

-- the input is refused with the line, or memory ran out; Said is what standard error has of a line
abbrev pub RefusesInput : Status → (List ℕ → Type 0) → List ℕ → Type 0
RefusesInput s Said line = ((s ≡ status.BadInput) × Said line) ⊎ (s ≡ status.Memory)

-- a deck is written, or refused by its first number without a spelling
abbrev pub MustLayOut : Result (List ℕ) (List ℕ) → Status → (List ℕ → Type 0) → Type 0
MustLayOut (Ok bytes) s Said = IsOrMemory s status.Done
MustLayOut (Err name) s Said = RefusesInput s Said (wide_line name)

-- a deck whose run ends within the budget has its ranges told, unless a value of the run, or of the ranges, does not fit w bits, or memory ran out
abbrev pub MustRange : ℕ → Deck → Status → Type 0
MustRange w d s = EndsWithin summary_budget d
    → IsOrMemory s status.Done ⊎ ((s ≡ status.Overflow) × (RunFits w (instance_of d) → ((place : RangePlace) (name : List ℕ) → ¬ HasUnfitRange w place name d) → ⊥))

-- a report without a flaw is judged, unless a value of the run does not fit as far as the audit follows it, or memory ran out
abbrev pub MustAudit : Form → ℕ → List ℕ → Status → Type 0
MustAudit form w text s = ((number : ℕ) (found : Flaw) → ¬ IsReportFlaw form number found text) → ((here : Place) → ¬ IsUnfitAudit form w here text)
    → (s ≡ status.Done) ⊎ IsOrMemory s status.Refused

-- a text with a fault is refused with the line of its first; of a deck this is owed
abbrev pub MustAnswerTo : Reading → Status → (List ℕ → Type 0) → (Deck → Type 0) → Type 0
MustAnswerTo (has_fault fault) s Said Owed = RefusesInput s Said (fault_line fault)
MustAnswerTo (is_deck d line) s Said Owed = Owed d

-- what must be answered to a text, where the input tells one
abbrev pub MustAnswer : Task → ℕ → Option (List ℕ) → Status → (List ℕ → Type 0) → Type 0
MustAnswer (task.Solve asked) w text s Said = IfSome text (λ t. MustAnswerTo (reading_of asked.form t) s Said (λ d. MustSolve asked.budget w d s))
MustAnswer (task.Check form) w text s Said = IfSome text (λ t. MustAnswerTo (reading_of form t) s Said (λ d. Unit {0}))
MustAnswer (task.Deck form) w text s Said = IfSome text (λ t. MustAnswerTo (reading_of form t) s Said (λ d. MustLayOut (deck_text form d) s Said))
MustAnswer (task.Make n) w text s Said = MustSolve summary_budget w (transport n) s
MustAnswer (task.Range form) w text s Said = IfSome text (λ t. MustAnswerTo (reading_of form t) s Said (λ d. MustRange w d s))
MustAnswer (task.Audit form) w text s Said = IfSome text (λ t. MustAnswerTo (reading_of form t) s Said (λ d. MustAudit form w t s))

-- what is asked for, at a width of w bits, turns the world before into the world after, with this status
pub record Runs (what : Option Task) (w : ℕ) (before after : World) (s : Status) : Type 0 where
  -- it ends in one way, which has this status
  pub ends : (end : End) × (s ≡ status_of_end end) × LeavesBy what w before.input after.input before.output.bytes after.output.bytes end × SaysBy before.errors after.errors end
  -- the input is read only as needed, however the call ends
  pub needed : TakesAsNeeded what before.input after.input
  -- the counts of faults do not fall
  pub input_never_falls : before.input.faults ≤ after.input.faults
  pub output_never_falls : before.output.faults ≤ after.output.faults
  -- why a read or a write failed, and what it leaves
  pub reads : ReadsBy what before.input after.input s
  pub writes : WritesBy what w before.input.bytes before.output after.output s
  -- what must be answered, where no read and no write failed
  pub answered : IfSome what (λ t. ¬ Rose before.input.faults after.input.faults → ¬ Rose before.output.faults after.output.faults
      → MustAnswer t w before.input.bytes s (Says before.errors after.errors))

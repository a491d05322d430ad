-- What is replied to a deck that is to be solved; w is the width of the arithmetic.
use Rattle.std.specs.Prelude.{◌≡◌, ℕ, ◌≤◌, ◌<◌, List, Option, Some, None, IfSome, ◌==◌, if◌then◌else◌}
use Rattle.lp_model.specs.declared.Entry.{Entry}
use Rattle.lp_model.specs.Basis.{Basis}
use Rattle.lp_model.specs.Deck.{Deck}
use Rattle.lp_model.specs.Log.{moves}
use Rattle.lp_model.specs.Outcome.{Outcome}
use Rattle.lp_run.specs.Ends.{HasOutcome}
use Rattle.lp_run.specs.Instance.{instance_of}
use Rattle.lp_run.specs.Listing.{Overflows}
use Rattle.lp_run.specs.Run.{IsRun, IsSpent}
use Rattle.lp_run.specs.State.{State}
use Rattle.bland_laws.specs.Ends.{run_bound}
use Rattle.instance_model.specs.Basis.{basis_of}
use Rattle.lp_text.specs.declared.Form.{Form}
use Rattle.lp_text.specs.Report.{Report, text_of_report}
use Rattle.mps_model.specs.DeckOf.{IsDeckOf}
use Rattle.lp_main.specs.declared.refusal.Refusal.TheVariants as refusal
use Rattle.lp_main.specs.declared.status.Answer.TheVariants as answer
use Rattle.lp_main.specs.declared.words.Asked.{Asked}
use Rattle.lp_main.specs.FirstFaults.{IsTextFault}
use Rattle.lp_main.specs.Reply.{Reply, gives, refuses}
use Rattle.lp_main.specs.Truths.{IsTrue}

-- the deck's whole run is the log, within the budget; the outcome is that of the run, and it is true
pub record IsSolved (budget : ℕ) (d : Deck) (log : List Entry) (o : Outcome) : Type 0 where
  pub outcome : HasOutcome (instance_of d) log o
  pub within : moves log ≤ budget
  pub truth : IsTrue d o

-- the basis of the last state, which a report of version 2 tells
abbrev pub told : ℕ → State → Option Basis
told version last = if version == 2 then Some (basis_of last) else None

-- what the report that is asked for states: the outcome, the basis, and the log where it is asked for
abbrev pub stated : Asked → List Entry → Outcome → State → Report
stated asked log o last = record { outcome = o; basis = told asked.version last; log = if asked.log then Some log else None }

-- the bytes are the report that is asked for of the text's deck
abbrev pub IsReport : Asked → List ℕ → List ℕ → Type 0
IsReport asked bytes text =
    (d : Deck) × (line : ℕ) × (log : List Entry) × (o : Outcome) × (last : State)
    × IsDeckOf asked.form text d line × IsSolved asked.budget d log o × IsRun (instance_of d) log last × (bytes ≡ text_of_report d (stated asked log o last))

-- the run of the deck needs more moves than the budget, which is n, and below the bound of the run by Bland's theorem
abbrev pub IsShort : ℕ → ℕ → Deck → Type 0
IsShort budget n d = (n ≡ budget) × IsSpent (instance_of d) budget × (budget < run_bound (instance_of d))

-- the text is a deck, and this holds of it
abbrev pub IsDeckWith : Form → (Deck → Type 0) → List ℕ → Type 0
IsDeckWith form P text = (d : Deck) × (line : ℕ) × IsDeckOf form text d line × P d

-- its report; the text's first fault; the first value of its run, within the budget, that does not fit w bits; or a run longer than the budget
abbrev pub Solves : Asked → ℕ → Option (List ℕ) → Reply → Type 0
Solves asked w text (gives answer.Done bytes) = IfSome text (IsReport asked bytes)
Solves asked w text (refuses (refusal.Deck fault)) = IfSome text (λ t. IsTextFault asked.form t fault)
Solves asked w text (refuses (refusal.Overflow here)) = IfSome text (IsDeckWith asked.form (λ d. Overflows w asked.budget (instance_of d) here))
Solves asked w text (refuses (refusal.Budget n)) = IfSome text (IsDeckWith asked.form (IsShort asked.budget n))
Solves asked w text other = ⊥

-- What is true of a deck whose report was written or accepted, or whose ranges were.
use Rattle.std.specs.Prelude.{◌≡◌, ℕ, List, Option, Some, IfSome}
use Rattle.io_ends.specs.Bytes.{Appends}
use Rattle.rational.specs.Rational.{ℚ, ◌<ℚ◌}
use Rattle.lp_model.specs.Deck.{Deck, IsFeasible, IsOptimal, in_sense, objective}
use Rattle.lp_model.specs.Outcome.{Outcome, infeasible, optimal, unbounded}
use Rattle.bland_laws.specs.OutcomeProves.{OutcomeProves}
use Rattle.lp_run.specs.Ends.{Yields}
use Rattle.lp_run.specs.Instance.{instance_of}
use Rattle.lp_run.specs.State.{State}
use Rattle.lp_text.specs.declared.Form.{Form}
use Rattle.lp_text.specs.Report.{Report, text_of_report}
use Rattle.mps_model.specs.DeckOf.{IsDeckOf}
use Rattle.lp_main.specs.declared.status.Status.{Status}
use Rattle.lp_main.specs.declared.status.Status.TheVariants as status
use Rattle.lp_main.specs.declared.words.Task.{Task}
use Rattle.lp_main.specs.declared.words.Task.TheVariants as task
use Rattle.lp_main.specs.Checks.{TellsReport}
use Rattle.lp_main.specs.RangeTexts.{TellsRanges}

-- no feasible point is better than an optimal one; with a Farkas row there is no feasible point; along a ray feasible points pass every objective
abbrev pub Means : Deck → Outcome → Type 0
Means d (optimal x y v) = IsOptimal d x
Means d (infeasible y) = (x : List ℚ) → IsFeasible d x → ⊥
Means d (unbounded x r) = (v : ℚ) → (x' : List ℚ) × IsFeasible d x' × (in_sense d.sense (objective d x') <ℚ v)

-- the outcome is so of the deck, and its lists prove it
pub record IsTrue (d : Deck) (o : Outcome) : Type 0 where
  pub means : Means d o
  pub proves : OutcomeProves d o

-- the text is a deck, and the output gained a report of it that is true
abbrev pub WritesTruth : Form → Option (List ℕ) → Option (List ℕ) → List ℕ → Type 0
WritesTruth form old new text =
    (d : Deck) × (line : ℕ) × (report : Report) × IsDeckOf form text d line × Appends old new (text_of_report d report) × IsTrue d report.outcome

-- the text is a deck, and behind it the text of a report that is true
abbrev pub TellsTruth : Form → List ℕ → Type 0
TellsTruth form text = (d : Deck) × (report : Report) × TellsReport form text d report × IsTrue d report.outcome

-- the text is a deck, and the output gained what is told of the ranges of a state of it: one that yields this outcome, which is true
abbrev pub WritesTrueRanges : Form → Option (List ℕ) → Option (List ℕ) → List ℕ → Type 0
WritesTrueRanges form old new text =
    (d : Deck) × (line : ℕ) × (s : State) × (o : Outcome) × (bytes : List ℕ)
    × IsDeckOf form text d line × Appends old new bytes × Yields (instance_of d) s o × IsTrue d o × TellsRanges d s o bytes

-- a report that a solve wrote, or a check accepted, or an audit found to be the run, is true of the deck; and so are the ranges that were written
abbrev pub IsDoneTruly : Option Task → Option (List ℕ) → Option (List ℕ) → Option (List ℕ) → Status → Type 0
IsDoneTruly (Some (task.Solve asked)) text old new s = s ≡ status.Done → IfSome text (WritesTruth asked.form old new)
IsDoneTruly (Some (task.Check form)) text old new s = s ≡ status.Done → IfSome text (TellsTruth form)
IsDoneTruly (Some (task.Range form)) text old new s = s ≡ status.Done → IfSome text (WritesTrueRanges form old new)
IsDoneTruly (Some (task.Audit form)) text old new s = s ≡ status.Done → IfSome text (TellsTruth form)
IsDoneTruly other text old new s = Unit {0}

-- What is replied where a transport deck is to be made and solved; w is the width of the arithmetic.
use Rattle.std.specs.Prelude.{◌≡◌, ℕ, ◌*◌, List, ◌++◌, codes}
use Rattle.std.specs.Fmt.{decimal}
use Rattle.deck_tools.specs.Transport.{transport}
use Rattle.lp_model.specs.declared.Entry.{Entry}
use Rattle.lp_model.specs.Log.{moves}
use Rattle.lp_model.specs.Outcome.{optimal}
use Rattle.rational.specs.Rational.{ℚ}
use Rattle.lp_run.specs.Instance.{instance_of}
use Rattle.lp_run.specs.Listing.{Overflows}
use Rattle.lp_text.specs.Fraction.{fraction_text}
use Rattle.lp_main.specs.declared.refusal.Refusal.TheVariants as refusal
use Rattle.lp_main.specs.declared.status.Answer.TheVariants as answer
use Rattle.lp_main.specs.Refusals.{ended}
use Rattle.lp_main.specs.Reply.{Reply, gives, refuses}
use Rattle.lp_main.specs.Solves.{IsShort, IsSolved}

-- how many moves the run may take
abbrev pub summary_budget : ℕ
summary_budget = 1000000

-- the size of the deck, its rows and columns, the moves of its run, and the objective of its optimum
abbrev pub summary : ℕ → List Entry → ℚ → List ℕ
summary n log v =
    ended (codes "MAKE " ++ decimal n) ++ ended (codes "ROWS " ++ decimal (2 * n)) ++ ended (codes "COLUMNS " ++ decimal (n * n))
    ++ ended (codes "MOVES " ++ decimal (moves log)) ++ ended (codes "OBJECTIVE " ++ fraction_text v)

-- the bytes sum up the deck's whole run, which comes to an optimum
abbrev pub IsSummary : ℕ → List ℕ → Type 0
IsSummary n bytes =
    (log : List Entry) × (x y : List ℚ) × (v : ℚ) × IsSolved summary_budget (transport n) log (optimal x y v) × (bytes ≡ summary n log v)

-- the summary; the first value of the run, within the budget, that does not fit w bits; or a run longer than the budget
abbrev pub SumsUp : ℕ → ℕ → Reply → Type 0
SumsUp n w (gives answer.Done bytes) = IsSummary n bytes
SumsUp n w (refuses (refusal.Overflow here)) = Overflows w summary_budget (instance_of (transport n)) here
SumsUp n w (refuses (refusal.Budget moves)) = IsShort summary_budget moves (transport n)
SumsUp n w other = ⊥

-- On a deck that is calm a solve is not refused for a wide value, keeps the count of unfit results, and without workers works within a bound.
use Rattle.std.specs.Prelude.{◌≡◌, ◌≢◌, ℕ, ◌+◌, ◌≤◌, List, Option, Some, IfSome}
use Rattle.lp_model.specs.declared.Entry.{Entry}
use Rattle.lp_model.specs.Deck.{Deck}
use Rattle.lp_model.specs.Log.{moves}
use Rattle.lp_model.specs.Outcome.{Outcome}
use Rattle.lp_run.specs.Ends.{HasOutcome}
use Rattle.lp_run.specs.Instance.{instance_of}
use Rattle.factor_run.specs.Bound.{solve_work}
use Rattle.factor_run.specs.Calm.{IsCalm}
use Rattle.mps_model.specs.DeckOf.{IsDeckOf}
use Rattle.deck_tools.specs.Transport.{transport}
use Rattle.lp_main.specs.declared.status.Status.{Status}
use Rattle.lp_main.specs.declared.status.Status.TheVariants as status
use Rattle.lp_main.specs.declared.words.Task.{Task}
use Rattle.lp_main.specs.declared.words.Task.TheVariants as task

-- the counts of an arithmetic: its unfit results, and its products and quotients
pub record Counts : Type 0 where
  pub unfit : ℕ
  pub work : ℕ

abbrev pub counts : ℕ → ℕ → Counts
counts unfit work = record { unfit = unfit; work = work }

-- the products and quotients are at most those of a solve over factors with the moves of the deck's whole run
abbrev pub IsBounded : Deck → ℕ → ℕ → Type 0
IsBounded d work work' = (log : List Entry) × (o : Outcome) × HasOutcome (instance_of d) log o × (work' ≤ work + solve_work (instance_of d) (moves log))

-- where the deck is calm at w bits, so that each value fits that a solver by factors works along its run, no result is unfit, the solve is not refused for a
-- value that does not fit, and one that is done without workers works within the bound
abbrev pub WorksCalmly : ℕ → ℕ → Deck → Counts → Counts → Status → Type 0
WorksCalmly workers w d old new s =
    IsCalm w (instance_of d) → (new.unfit ≡ old.unfit) × (s ≢ status.Overflow) × (workers ≡ 0 → s ≡ status.Done → IsBounded d old.work new.work)

-- this holds of the deck that the text is, where one is to be solved, and of a deck that is made
abbrev pub Works : Option Task → ℕ → Option (List ℕ) → Counts → Counts → Status → Type 0
Works (Some (task.Solve asked)) w text old new s = IfSome text (λ t. (d : Deck) (line : ℕ) → IsDeckOf asked.form t d line → WorksCalmly asked.workers w d old new s)
Works (Some (task.Make n)) w text old new s = WorksCalmly 0 w (transport n) old new s
Works other w text old new s = Unit {0}

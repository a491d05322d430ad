-- What Bland's theorem says of the run of an instance: it never returns, it is short, and it ends.
use Rattle.std.specs.Prelude.{◌≡◌, ℕ, ◌+◌, ◌*◌, ◌^◌, ◌<◌, ◌≤◌, List, [], length}
use Rattle.lp_model.specs.declared.Entry.{Entry}
use Rattle.lp_run.specs.Instance.{Instance, row_count, structural_count}
use Rattle.lp_run.specs.Ends.{HasOutcome}
use Rattle.lp_model.specs.Outcome.{Outcome}
use Rattle.lp_run.specs.Run.{IsRun, IsSpent, IsWholeRun, Leads}
use Rattle.lp_run.specs.State.{State}

-- a run that comes back to its phase and its statuses has not left them
abbrev pub NeverReturns : Instance → Type 0
NeverReturns inst =
    (before log : List Entry) (s s' : State) → IsRun inst before s → Leads inst s log s' → s.phase ≡ s'.phase → s.statuses ≡ s'.statuses → log ≡ []

-- twice three to the number of columns: of m rows and n structurals, n + 2 m
abbrev pub run_bound : Instance → ℕ
run_bound inst = 2 * 3 ^ (structural_count inst + 2 * row_count inst)

-- a run has fewer entries than the bound, so it does not spend a budget of as many moves; there is one whole run, and one outcome
pub record Ends (inst : Instance) : Type 0 where
  pub short : (log : List Entry) (s : State) → IsRun inst log s → length log < run_bound inst
  pub never_spent : (budget : ℕ) → run_bound inst ≤ budget → IsSpent inst budget → ⊥
  pub whole : (log : List Entry) × (s : State) × IsWholeRun inst log s
  pub one : (log log' : List Entry) (s s' : State) → IsWholeRun inst log s → IsWholeRun inst log' s' → log ≡ log'
  pub outcome : (log : List Entry) × (o : Outcome) × HasOutcome inst log o
  pub one_outcome : (log log' : List Entry) (o o' : Outcome) → HasOutcome inst log o → HasOutcome inst log' o' → o ≡ o'

-- What a solve answers.
use Rattle.std.specs.Prelude.{◌≡◌, ℕ, ◌≤◌, Result, MatchResult}
use Rattle.lp_model.specs.Log.{moves}
use Rattle.deck_model.specs.Outcome.{outcome_of}
use Rattle.lp_run.specs.Ends.{HasOutcome}
use Rattle.lp_run.specs.Instance.{Instance}
use Rattle.lp_run.specs.Listing.{Overflows}
use Rattle.lp_run.specs.Run.{IsSpent}
use Rattle.two_phase.specs.declared.board.Closed.{Closed}
use Rattle.crew.specs.declared.faults.CrewFault.{CrewFault}
use Rattle.crew.specs.declared.faults.CrewFault.TheVariants as fault

-- the log is the instance's whole run, of at most the budget's moves, and the outcome is its outcome
pub record HasClosed (inst : Instance) (budget : ℕ) (closed : Closed) : Type 0 where
  pub outcome : HasOutcome inst closed.log (outcome_of closed.outcome)
  pub within : moves closed.log ≤ budget
  pub counted : closed.moves ≡ moves closed.log

-- why there is no outcome, at the width w: a place where the run does not fit, within the budget; or the budget is spent
abbrev pub IsCause : ℕ → Instance → ℕ → CrewFault → Type 0
IsCause w inst budget fault.Memory = Unit {0}
IsCause w inst budget (fault.Overflow here) = Overflows w budget inst here
IsCause w inst budget (fault.Budget n) = (n ≡ budget) × IsSpent inst budget

abbrev pub Solves : ℕ → Instance → ℕ → Result Closed CrewFault → Type 0
Solves w inst budget result = MatchResult result (HasClosed inst budget) (IsCause w inst budget)

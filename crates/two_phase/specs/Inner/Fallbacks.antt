-- What a run goes on over once its factors are given up: factors of its basis that are made anew, or the plain table.
use Rattle.std.specs.Prelude.{◌≡◌, ℕ, ◌≤◌, List, [], ◌∷◌, ◌++◌, length}
use Rattle.lp_model.specs.declared.Entry.{Entry}
use Rattle.lp_model.specs.Log.{moves}
use Rattle.lp_run.specs.Instance.{Instance, IsWellFormed}
use Rattle.lp_run.specs.Run.{IsRun}
use Rattle.lp_run.specs.State.{State}
use Rattle.lp_run.specs.Step.{IsNext}
use Rattle.two_phase.specs.declared.fallback.Fallback.{Fallback}
use Rattle.two_phase.specs.declared.fallback.Fallback.TheVariants as fallback
use Rattle.two_phase.specs.declared.reached.Reached.{Reached}
use Rattle.two_phase.specs.declared.reached.Reached.TheVariants as reached
use Rattle.run_outcome.specs.declared.stop.Stop.{Stop}
use Rattle.two_phase.specs.Spent.{IsSpentAt}
use Rattle.two_phase.specs.Inner.Iterates.{IsIterate}
use Rattle.two_phase.specs.Inner.Plains.{IsFitted, TableStops}
use Rattle.two_phase.specs.Inner.Reaching.{StopsAt}

abbrev pub fallback_state : Fallback → State
fallback_state (fallback.Anew it) = it.state
fallback_state (fallback.Table t) = t.state

-- it stands at the state that the log reaches
abbrev pub FallbackStands : ℕ → Instance → List Entry → Fallback → Type 0
FallbackStands w inst log (fallback.Anew it) = IsIterate w inst log it
FallbackStands w inst log (fallback.Table t) = IsFitted w inst log t

-- the run ends so at its state
abbrev pub FallbackStops : Instance → Fallback → Stop → Type 0
FallbackStops inst (fallback.Anew it) end = StopsAt inst it end
FallbackStops inst (fallback.Table t) end = TableStops inst t end

-- a step from the state s of a log leads to where the log has the next entry, or it is still at the log
abbrev pub FallbackReaches : ℕ → Instance → ℕ → List Entry → State → List Entry → Fallback → Reached → Type 0
FallbackReaches w inst budget log s log' new (reached.Entry e) = IsNext inst s e × (log' ≡ log ++ e ∷ []) × FallbackStands w inst log' new × (moves log' ≤ budget)
FallbackReaches w inst budget log s log' new (reached.End end) = (log' ≡ log) × FallbackStands w inst log' new × FallbackStops inst new end
FallbackReaches w inst budget log s log' new reached.Spent = (log' ≡ log) × FallbackStands w inst log' new × IsSpentAt inst budget (length log) s

-- it still stands at the log, in the same state
pub record StaysAt (w : ℕ) (inst : Instance) (log : List Entry) (old new : Fallback) : Type 0 where
  pub stands : FallbackStands w inst log new
  pub state : fallback_state new ≡ fallback_state old

-- the state is one of a run
abbrev pub IsReached : Instance → State → Type 0
IsReached inst s = IsWellFormed inst × ((log : List Entry) × IsRun inst log s)

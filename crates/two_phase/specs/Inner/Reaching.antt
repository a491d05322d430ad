-- What a step of a run comes to.
use Rattle.std.specs.Prelude.{◌≡◌, ℕ, ◌+◌, ◌≤◌, List, [], ◌∷◌, ◌++◌, length, Option, Some, MatchOption, true}
use Rattle.lp_model.specs.declared.Entry.{Entry}
use Rattle.lp_model.specs.Log.{moves}
use Rattle.rational.specs.Rational.{ℚ}
use Rattle.rational.specs.Worked.{settle}
use Rattle.lp_run.specs.Instance.{Instance}
use Rattle.lp_run.specs.Solution.{Prices}
use Rattle.lp_run.specs.State.{State, after}
use Rattle.lp_run.specs.Step.{Enters, IsNext, NoneEligible}
use Rattle.factor_model.specs.Factors.{Factors}
use Rattle.factor_run.specs.Built.{followed}
use Rattle.run_outcome.specs.Endings.{Stops}
use Rattle.two_phase.specs.declared.iterate.Iterate.{Iterate}
use Rattle.two_phase.specs.declared.reached.Reached.{Reached}
use Rattle.two_phase.specs.declared.reached.Reached.TheVariants as reached
use Rattle.run_outcome.specs.declared.stop.Stop.{Stop}
use Rattle.two_phase.specs.Spent.{IsSpentAt}
use Rattle.two_phase.specs.Inner.Iterates.{IsIterate}

-- the iterate's prices are worked, and the run ends so at its state
abbrev pub StopsAt : Instance → Iterate → Stop → Type 0
StopsAt inst it end = (it.is_priced ≡ true) × Stops inst it.state it.prices.items it.values.items it.alpha.items end

-- a step from the iterate `old` of a log leads to the iterate `new`: it stands at the log with the next entry, or still at the log, where the run ends or the budget is spent
abbrev pub Reaches : ℕ → Instance → ℕ → List Entry → State → List Entry → Iterate → Reached → Type 0
Reaches w inst budget log s log' new (reached.Entry e) = IsNext inst s e × (log' ≡ log ++ e ∷ []) × IsIterate w inst log' new × (moves log' ≤ budget)
Reaches w inst budget log s log' new (reached.End end) = (log' ≡ log) × IsIterate w inst log' new × StopsAt inst new end
Reaches w inst budget log s log' new reached.Spent = (log' ≡ log) × IsIterate w inst log' new × IsSpentAt inst budget (length log) s

-- the factors f of the state s of number k go with what a step comes to: they follow an entry, and else stay
abbrev pub GoesWith : ℕ → Instance → ℕ → State → Factors → Factors → Reached → Type 0
GoesWith w inst k s f g (reached.Entry e) = settle w (followed inst (after s e) (k + 1) f e) ≡ Some (Some g)
GoesWith w inst k s f g (reached.End end) = g ≡ f
GoesWith w inst k s f g reached.Spent = g ≡ f

-- the column enters at the state, and where there is none, none is eligible
abbrev pub IsChosen : Instance → State → Option ℕ → Type 0
IsChosen inst s entering = (y : List ℚ) × Prices inst s y × MatchOption entering (NoneEligible inst s y) (Enters inst s y)

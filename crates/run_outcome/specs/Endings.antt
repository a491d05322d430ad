-- How a run ends at a state, and why the outcome of that state is not given.
use Rattle.std.specs.Prelude.{◌≡◌, ℕ, List, length, Result, Ok, Err}
use Rattle.lp_model.specs.declared.Entry.{Entry}
use Rattle.rational.specs.Rational.{ℚ}
use Rattle.exact_frac.specs.Count.{raised}
use Rattle.lp_run.specs.Instance.{Instance, column_count, row_count}
use Rattle.lp_run.specs.Listing.{IsFirstTotal}
use Rattle.lp_run.specs.Solution.{reduced}
use Rattle.lp_run.specs.State.{State}
use Rattle.lp_run.specs.Step.{EndsFree, EndsInfeasible, EndsOptimal, direction}
use Rattle.bland_ratio.specs.Leave.{direction_where}
use Rattle.run_outcome.specs.declared.ending.Ending.{Ending}
use Rattle.run_outcome.specs.declared.fault.OutcomeFault.{OutcomeFault}
use Rattle.run_outcome.specs.declared.fault.OutcomeFault.TheVariants as fault
use Rattle.run_outcome.specs.declared.stop.Stop.{Stop}
use Rattle.run_outcome.specs.declared.stop.Stop.TheVariants as stop

-- the run ends so, at the prices y and the basic values β; a column that moves without a limit is α in terms of the basis
abbrev pub Stops : Instance → State → List ℚ → List ℚ → List ℚ → Stop → Type 0
Stops inst s y β α stop.Optimal = EndsOptimal inst s y β
Stops inst s y β α stop.Infeasible = EndsInfeasible inst s y β
Stops inst s y β α (stop.Free q down) = EndsFree inst s y β α q × (direction (reduced inst s y q) ≡ direction_where down)

-- the state has a basic column for each row and a status for each column, and the run ends so at it
pub record EndsAt (inst : Instance) (e : Ending) (end : Stop) : Type 0 where
  pub positions : length e.state.now.basis ≡ row_count inst
  pub statuses : length e.state.now.statuses ≡ column_count inst
  pub stops : Stops inst e.state.now e.prices.now e.values.now e.alpha.now end

-- an overflow has the place of the first sum of the objective that does not fit; want of memory has no cause
abbrev pub IsOutcomeCause : ℕ → Instance → List Entry → State → OutcomeFault → Type 0
IsOutcomeCause w inst log s fault.Memory = Unit {0}
IsOutcomeCause w inst log s (fault.Overflow here) = IsFirstTotal w inst log s here

-- the count of unfit results after an outcome: raised by one exactly at an overflow
abbrev pub count_after : {A : Type 0} → ℕ → Result A OutcomeFault → ℕ
count_after count (Ok outcome) = count
count_after count (Err fault.Memory) = count
count_after count (Err (fault.Overflow here)) = raised count 1

-- A run that goes on over the plain table.
use Rattle.std.specs.Prelude.{◌≡◌, ℕ, ◌≤◌, List, [], ◌∷◌, ◌++◌, length}
use Rattle.lp_model.specs.declared.Entry.{Entry}
use Rattle.lp_model.specs.Log.{moves}
use Rattle.exact_frac.specs.Count.{raised}
use Rattle.lp_run.specs.Instance.{Instance}
use Rattle.lp_run.specs.Listing.{IsFirstUnfit}
use Rattle.lp_run.specs.Run.{IsRun}
use Rattle.lp_run.specs.State.{State}
use Rattle.lp_run.specs.Step.{IsNext}
use Rattle.table_laws.specs.Fitted.{HasFitted}
use Rattle.plain_table.specs.declared.faults.TableFault.{TableFault}
use Rattle.plain_table.specs.declared.faults.TableFault.TheVariants as fault
use Rattle.plain_table.specs.Next.{column, prices}
use Rattle.plain_table.specs.Plain.{Plain, Stands}
use Rattle.two_phase.specs.Spent.{IsSpentAt}
use Rattle.two_phase.specs.declared.reached.Reached.{Reached}
use Rattle.two_phase.specs.declared.reached.Reached.TheVariants as reached
use Rattle.run_outcome.specs.declared.stop.Stop.{Stop}
use Rattle.run_outcome.specs.declared.stop.Stop.TheVariants as stop
use Rattle.run_outcome.specs.Endings.{Stops}

-- the table stands at the state that the log reaches, and all that was worked before fits
pub record IsFitted (w : ℕ) (inst : Instance) (log : List Entry) (t : Plain) : Type 0 where
  pub stands : Stands inst log t
  pub fitted : HasFitted w inst log

-- the column of an end that has one
abbrev pub free_column : Stop → ℕ
free_column stop.Optimal = 0
free_column stop.Infeasible = 0
free_column (stop.Free q down) = q

-- the run ends so at the table's state
abbrev pub TableStops : Instance → Plain → Stop → Type 0
TableStops inst t end = Stops inst t.state (prices inst t) t.values (column inst t (free_column end)) end

-- a step from a table that stands at a log leads to a table that stands at the log with the next entry, or still at the log
abbrev pub TableReaches : ℕ → Instance → ℕ → List Entry → Plain → List Entry → Plain → Reached → Type 0
TableReaches w inst budget log t log' t' (reached.Entry e) = IsNext inst t.state e × (log' ≡ log ++ e ∷ []) × IsFitted w inst log' t' × (moves log' ≤ budget)
TableReaches w inst budget log t log' t' (reached.End end) = (log' ≡ log) × (t' ≡ t) × TableStops inst t end
TableReaches w inst budget log t log' t' reached.Spent = (log' ≡ log) × (t' ≡ t) × IsSpentAt inst budget (length log) t.state

-- an overflow has the place of the first value that does not fit, of all that are listed up to the state that the log reaches; want of memory has no cause
abbrev pub IsRunFault : ℕ → Instance → List Entry → TableFault → Type 0
IsRunFault w inst log fault.Memory = Unit {0}
IsRunFault w inst log (fault.Overflow here) = (s : State) × IsRun inst log s × IsFirstUnfit w inst log s here

-- an overflow has raised the count of unfit results, where it is not at its end
abbrev pub HasRisen : ℕ → ℕ → TableFault → Type 0
HasRisen old new fault.Memory = Unit {0}
HasRisen old new (fault.Overflow here) = raised old 1 ≤ new

-- the two in one
abbrev pub IsCountedFault : ℕ → Instance → List Entry → ℕ → ℕ → TableFault → Type 0
IsCountedFault w inst log before after fault = IsRunFault w inst log fault × HasRisen before after fault

-- an overflow comes only with a cause
abbrev pub OverflowsFor : Type 0 → TableFault → Type 0
OverflowsFor cause fault.Memory = Unit {0}
OverflowsFor cause (fault.Overflow here) = cause

-- What the calls of a table ask and answer.
use Rattle.std.specs.Prelude.{ℕ, List, Result, Ok, Err, MatchResult}
use Rattle.lp_model.specs.declared.Entry.{Entry}
use Rattle.lp_model.specs.declared.Place.{Place}
use Rattle.exact_frac.specs.Count.{raised}
use Rattle.lp_run.specs.Instance.{Instance}
use Rattle.lp_run.specs.Listing.{Listed, StepLists, Judges}
use Rattle.lp_run.specs.Run.{IsRun}
use Rattle.lp_run.specs.State.{State}
use Rattle.lp_run.specs.Step.{IsNext}
use Rattle.table_laws.specs.Fitted.{HasFitted, HasOverflown}
use Rattle.plain_table.specs.declared.faults.TableFault.{TableFault}
use Rattle.plain_table.specs.declared.faults.TableFault.TheVariants as fault
use Rattle.plain_table.specs.Plain.{Plain, Stands}

-- the log is the first entries of the instance's run
abbrev pub IsRunLog : Instance → List Entry → Type 0
IsRunLog inst log = (s : State) × IsRun inst log s

-- the table stands at a state of the run, at which the entry is next
abbrev pub IsNextOf : Instance → Plain → Entry → Type 0
IsNextOf inst t e = (log : List Entry) × Stands inst log t × IsNext inst t.state e

-- the place of the first value that does not fit, of all that is worked before the state that the log reaches; want of memory has no cause
abbrev pub Refuses : ℕ → Instance → List Entry → TableFault → Type 0
Refuses w inst log fault.Memory = Unit {0}
Refuses w inst log (fault.Overflow here) = HasOverflown w inst log here

-- a table at the state that the log reaches, before which all that is worked fits; or why there is none
abbrev pub MakesTable : ℕ → Instance → List Entry → Result Plain TableFault → Type 0
MakesTable w inst log result = MatchResult result (λ t. Stands inst log t × HasFitted w inst log) (Refuses w inst log)

-- Ok exactly where all fits that is listed under the table's number, and else the place of the first value that does not
abbrev pub JudgesStep : {A : Type 0} → ℕ → Instance → Plain → Result A Place → Type 0
JudgesStep w inst t result = (now : List Listed) × StepLists inst t.number t.state now × Judges w now result

-- the count of unfit results after a making: raised by one exactly at an overflow
abbrev pub unfit_after_making : {A : Type 0} → ℕ → Result A TableFault → ℕ
unfit_after_making count (Ok table) = count
unfit_after_making count (Err fault.Memory) = count
unfit_after_making count (Err (fault.Overflow here)) = raised count 1

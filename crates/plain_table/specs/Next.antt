-- What comes next at a table.
use Rattle.std.specs.Prelude.{◌≡◌, ℕ, ◌⊎◌, List, [], Some}
use Rattle.lp_model.specs.declared.Entry.{Entry}
use Rattle.lp_model.specs.declared.Place.{Place}
use Rattle.rational.specs.Rational.{ℚ}
use Rattle.rational.specs.Sum.{at}
use Rattle.lp_run.specs.Instance.{Instance}
use Rattle.lp_run.specs.Listing.{Listed, StepLists, first_unfit, ratio_listing}
use Rattle.lp_run.specs.Solution.{reduced}
use Rattle.lp_run.specs.State.{State}
use Rattle.lp_run.specs.Step.{EndsFree, EndsInfeasible, EndsOptimal, IsNext, Pivoting, Rests, direction}
use Rattle.lp_run.specs.Tableau.{table_column}
use Rattle.table_laws.specs.Stands.{prices_shown}
use Rattle.plain_table.specs.Plain.{Plain, Stands, cell}
use Rattle.plain_table.specs.declared.next.End.{End}
use Rattle.plain_table.specs.declared.next.End.TheVariants as end
use Rattle.plain_table.specs.declared.next.Next.{Next}
use Rattle.plain_table.specs.declared.next.Next.TheVariants as next

-- the table stands at a state of the run
abbrev pub IsTableOf : Instance → Plain → Type 0
IsTableOf inst t = (log : List Entry) × Stands inst log t

-- the prices of the table's state, and column q in terms of its basis
abbrev pub prices : Instance → Plain → List ℚ
prices inst t = prices_shown inst (at t.costs)

abbrev pub column : Instance → Plain → ℕ → List ℚ
column inst t q = table_column inst (cell t) q

-- the run ends so at the table's state
abbrev pub EndsBy : Instance → Plain → End → Type 0
EndsBy inst t end.Optimal = EndsOptimal inst t.state (prices inst t) t.values
EndsBy inst t end.Infeasible = EndsInfeasible inst t.state (prices inst t) t.values
EndsBy inst t (end.Unbounded q) = EndsFree inst t.state (prices inst t) t.values (column inst t q) q

-- the next entry of the run, or its end
abbrev pub ComesNext : Instance → Plain → Next → Type 0
ComesNext inst t (next.Entry e) = IsNext inst t.state e
ComesNext inst t (next.End end) = EndsBy inst t end

-- of what is listed under the table's number, the first value that does not fit the width stands here
abbrev pub OverflowsNext : ℕ → Instance → Plain → Place → Type 0
OverflowsNext w inst t here = (now : List Listed) × StepLists inst t.number t.state now × (first_unfit w now ≡ Some here)

-- the ratio test at the state s lists these under number k: that of the column which enters, and nothing where none is eligible
abbrev pub RatioLists : Instance → ℕ → State → List Listed → Type 0
RatioLists inst k s vs =
    ((y β α : List ℚ) × (q : ℕ) × Pivoting inst s y β α q × (vs ≡ ratio_listing inst k s q (direction (reduced inst s y q)) β α))
    ⊎ ((y β : List ℚ) × Rests inst s y β × (vs ≡ []))

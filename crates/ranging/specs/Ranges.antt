-- Ranges: how far one cost, or one right side, may change with the basis of a state staying optimal.
use Rattle.std.specs.Prelude.{◌≡◌, ◌↔◌, ℕ, ◌<◌, List, length, None, get_or, set}
use Rattle.lp_model.specs.declared.Entry.{Entry}
use Rattle.lp_model.specs.declared.Phase.TheVariants.{Two}
use Rattle.lp_model.specs.Deck.{Interval, Within}
use Rattle.rational.specs.Rational.{ℚ, ◌+ℚ◌}
use Rattle.rational.specs.Sum.{at}
use Rattle.lp_run.specs.Instance.{Instance, bounds, row_count, structural, structural_count}
use Rattle.lp_run.specs.Run.{IsRun}
use Rattle.lp_run.specs.Solution.{Prices, Values}
use Rattle.lp_run.specs.State.{State, basic}
use Rattle.lp_run.specs.Step.{EndsOptimal, NoneEligible}

-- the instance in which the cost of structural j is changed by t
abbrev pub with_cost : Instance → ℕ → ℚ → Instance
with_cost inst j t = record inst { structurals = set inst.structurals j (record (structural inst j) { cost = (structural inst j).cost +ℚ t }) }

-- the instance in which the right side of row i is changed by t; the ends that the residuals pass stay
abbrev pub with_right : Instance → ℕ → ℚ → Instance
with_right inst i t = record inst { right = set inst.right i (at inst.right i +ℚ t) }

-- where the cost of structural j is changed by t, no column is eligible at the state
abbrev pub CostStays : Instance → State → ℕ → ℚ → Type 0
CostStays inst s j t = (y : List ℚ) × Prices (with_cost inst j t) s y × NoneEligible (with_cost inst j t) s y

-- where the right side of row i is changed by t, the basic values of the state lie within the bounds of phase two
abbrev pub RightStays : Instance → State → ℕ → ℚ → Type 0
RightStays inst s i t = (β : List ℚ) × Values (with_right inst i t) s β × ((p : ℕ) → p < row_count inst → Within (bounds inst Two (basic s p)) (at β p))

-- an interval of changes for each structural, and one for each row
pub record Ranges : Type 0 where
  pub costs : List Interval
  pub rights : List Interval

-- all numbers
abbrev pub everything : Interval
everything = record { lower = None; upper = None }

abbrev pub cost_range : Ranges → ℕ → Interval
cost_range found j = get_or found.costs j everything

abbrev pub right_range : Ranges → ℕ → Interval
right_range found i = get_or found.rights i everything

-- the intervals have just the changes of one cost, and of one right side, that leave the state optimal
pub record AreRanges (inst : Instance) (s : State) (found : Ranges) : Type 0 where
  pub each_cost : length found.costs ≡ structural_count inst
  pub each_right : length found.rights ≡ row_count inst
  pub costs : (j : ℕ) → j < structural_count inst → (t : ℚ) → CostStays inst s j t ↔ Within (cost_range found j) t
  pub rights : (i : ℕ) → i < row_count inst → (t : ℚ) → RightStays inst s i t ↔ Within (right_range found i) t

-- the log is the instance's whole run, which ends at an optimum
abbrev pub EndsAtOptimum : Instance → List Entry → Type 0
EndsAtOptimum inst log = (s : State) × IsRun inst log s × ((y β : List ℚ) × EndsOptimal inst s y β)

-- Calm runs: at a width, each value fits that a solver by factors works along the run.
use Rattle.std.specs.Prelude.{◌≡◌, ◌≢◌, ℕ, ◌<◌, Bool, true, false, List, map, length, Some, IsSome, IsFalse}
use Rattle.std.specs.List.{filter}
use Rattle.lp_model.specs.declared.Entry.{Entry}
use Rattle.lp_model.specs.declared.Kind.{Kind}
use Rattle.lp_model.specs.declared.Kind.TheVariants as kind
use Rattle.lp_model.specs.declared.Status.TheVariants as status
use Rattle.rational.specs.Rational.{ℚ}
use Rattle.rational.specs.Sparse.{upto}
use Rattle.rational.specs.Worked.{settle}
use Rattle.lp_run.specs.Instance.{Instance, bounds, column_count, cost, row_count}
use Rattle.lp_run.specs.Listing.{AllFit, Listed, MakingLists, StartFits, StepLists}
use Rattle.lp_run.specs.Run.{IsRun}
use Rattle.lp_run.specs.Solution.{Prices}
use Rattle.lp_run.specs.State.{State, basic, status_of}
use Rattle.lp_run.specs.Step.{Enters, is_fixed}
use Rattle.bland_ratio.specs.Pricing.{priced}
use Rattle.factor_model.specs.Factors.{Factors, btran, ftran}
use Rattle.factor_run.specs.Built.{built, entering_column}

-- whether a solver by factors works values of this kind: it has no table and no row of reduced costs
abbrev pub is_worked : Kind → Bool
is_worked kind.Start = true
is_worked kind.Value = true
is_worked kind.Ratio = true
is_worked kind.Total = true
is_worked kind.Entry = false
is_worked kind.Cost = false

-- the values of these kinds in a listing
abbrev pub without_table : List Listed → List Listed
without_table vs = filter (λ v. is_worked v.0.kind) vs

-- the costs of the basic columns by position
abbrev pub basic_costs : Instance → State → List ℚ
basic_costs inst s = map (λ p. cost inst s.phase (basic s p)) (upto (row_count inst))

-- what the factors f of a state work to choose the entering column and to solve for it fits the width
pub record SolvesFit (w : ℕ) (inst : Instance) (s : State) (f : Factors) : Type 0 where
  pub prices : IsSome (settle w (btran f (basic_costs inst s)))
  pub reduced : (y : List ℚ) (j : ℕ) → Prices inst s y → j < column_count inst → status_of s j ≢ status.Basic → IsFalse (is_fixed (bounds inst s.phase j))
      → IsSome (settle w (priced inst s.phase y j))
  pub entering : (y : List ℚ) (q : ℕ) → Prices inst s y → Enters inst s y q → IsSome (settle w (ftran f (entering_column inst q)))

-- along the whole run each value fits that a solver by factors works: the run's own but for the table, the making of the factors, and their solves
pub record IsCalm (w : ℕ) (inst : Instance) : Type 0 where
  pub start : StartFits w inst
  pub making : (vs : List Listed) → MakingLists inst vs → AllFit w (without_table vs)
  pub steps : (log : List Entry) (s : State) (vs : List Listed) → IsRun inst log s → StepLists inst (length log) s vs → AllFit w (without_table vs)
  pub factors : (log : List Entry) (s : State) → IsRun inst log s → IsSome (settle w (built inst log))
  pub solves : (log : List Entry) (s : State) (f : Factors) → IsRun inst log s → settle w (built inst log) ≡ Some (Some f) → SolvesFit w inst s f

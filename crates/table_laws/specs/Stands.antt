-- A table at a state of a run: each of its parts is stated by the equations that it solves.
use Rattle.std.specs.Prelude.{◌≡◌, ℕ, ◌+◌, ◌<◌, List, map}
use Rattle.lp_model.specs.declared.Entry.{Entry}
use Rattle.rational.specs.Rational.{ℚ, neg_ℚ}
use Rattle.rational.specs.Sparse.{upto}
use Rattle.lp_run.specs.Instance.{Instance, column_count, row_count, structural_count}
use Rattle.lp_run.specs.Run.{IsRun}
use Rattle.lp_run.specs.Solution.{IsTable, Prices, Values, reduced}
use Rattle.lp_run.specs.State.{State}

-- the prices that the reduced costs show: a logical's, negated
abbrev pub prices_shown : Instance → (ℕ → ℚ) → List ℚ
prices_shown inst d = map (λ i. neg_ℚ (d (structural_count inst + i))) (upto (row_count inst))

-- the log leads to the state s, whose columns in terms of the basis are the table, whose basic values are β, and whose reduced costs are d
pub record StandsAt (inst : Instance) (log : List Entry) (s : State) (table : ℕ → ℕ → ℚ) (β : List ℚ) (d : ℕ → ℚ) : Type 0 where
  pub reached : IsRun inst log s
  pub columns : IsTable inst s table
  pub values : Values inst s β
  pub prices : Prices inst s (prices_shown inst d)
  pub costs : (j : ℕ) → j < column_count inst → d j ≡ reduced inst s (prices_shown inst d) j

-- Factors of a state's basis: that they are, how they are made, and what it costs to follow an exchange.
use Rattle.std.specs.Prelude.{◌≡◌, ℕ, ◌<◌, List, length, Some}
use Rattle.rational.specs.Rational.{ℚ}
use Rattle.rational.specs.Worked.{settle}
use Rattle.sparse_cols.specs.Sparse.{Sparse}
use Rattle.lp_run.specs.Instance.{Instance, column_count, column_kind, row_count}
use Rattle.lp_run.specs.Solution.{Regular, basis_entry}
use Rattle.lp_run.specs.State.{State, basic}
use Rattle.bland_ratio.specs.Pricing.{kind_entries}
use Rattle.factor_model.specs.Factors.{AreFactors, Factors}
use Rattle.factor_run.specs.Built.{made_anew}

-- these are the basic columns of the state, a column for each row, and its basis is regular
pub record IsBasis (inst : Instance) (s : State) (basis : List ℕ) : Type 0 where
  pub is : s.basis ≡ basis
  pub positions : length basis ≡ row_count inst
  pub within : (p : ℕ) → p < row_count inst → basic s p < column_count inst
  pub regular : Regular inst s

-- column q of the equations: its stored entries
abbrev pub sparse_column : Instance → ℕ → Sparse ℚ
sparse_column inst q = record { length = row_count inst; pairs = kind_entries inst (column_kind inst q) }

-- the factors are those that are made for the state's basis at this number, and its factors
pub record FactorsFrom (w : ℕ) (inst : Instance) (s : State) (number : ℕ) (f : Factors) : Type 0 where
  pub made : settle w (made_anew inst s number) ≡ Some (Some f)
  pub factors : AreFactors (row_count inst) f (basis_entry inst s)

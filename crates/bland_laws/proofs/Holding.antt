-- What holds of a state with its values: its table, its statuses, and that each value is within its bounds.
use Rattle.std.proofs.Common.{◌≡◌, ◌≢◌, ℕ, ◌<◌, List, length, refl, sym, ap, subst}
use Rattle.lp_model.specs.declared.Status.TheVariants as status
use Rattle.rational.specs.Rational.{ℚ, zero_ℚ}
use Rattle.rational.specs.Sum.{at}
use Rattle.lp_model.specs.Deck.{Within}
use Rattle.lp_run.specs.Instance.{Instance, bounds, column_count, row_count}
use Rattle.lp_run.specs.Solution.{ColumnOf, Prices, Regular, Values}
use Rattle.lp_run.specs.State.{State, basic, rest, status_of, resting_value}
use Rattle.lp_run.specs.Tableau.{HasTable, IsTableau, table_cost, prices_of, table_column}
use Rattle.lp_run.proofs.Kept.{regular_from_table}
use Rattle.lp_run.proofs.Regularity.{column_solves, one_values, tableau_prices, table_solves}
use Rattle.lp_run.proofs.Unique.{one_position}
use Rattle.lp_run.specs.State.{NamesEnd}
use Rattle.bland_laws.proofs.Weights.{value, value_basic, value_resting}

pub record Holds (inst : Instance) (s : State) : Type 0 where
  pub table : HasTable inst s
  pub each : length s.statuses ≡ column_count inst
  pub β : List ℚ
  pub values : Values inst s β
  pub marked : (p : ℕ) → p < row_count inst → status_of s (basic s p) ≡ status.Basic
  pub found : (j : ℕ) → j < column_count inst → status_of s j ≡ status.Basic → (p : ℕ) × (p < row_count inst) × (basic s p ≡ j)
  pub stands : (j : ℕ) → j < column_count inst → NamesEnd (status_of s j) (bounds inst s.phase j)
  pub within : (p : ℕ) → p < row_count inst → Within (bounds inst s.phase (basic s p)) (at β p)

module _ (inst : Instance) (s : State) (h : Holds inst s) where
  pub regular : Regular inst s
  regular = regular_from_table inst s h.table

  pub once : (p k : ℕ) → p < row_count inst → k < row_count inst → basic s p ≡ basic s k → p ≡ k
  once p k b c same = one_position inst s regular p k b c same

  -- a basic column counts 0 at rest
  pub basic_still : (p : ℕ) → p < row_count inst → rest inst s (basic s p) ≡ zero_ℚ
  basic_still p b = ap (λ st. resting_value st (bounds inst s.phase (basic s p))) (h.marked p b)

  pub value_there : (p : ℕ) → p < row_count inst → value inst s h.β (basic s p) ≡ at h.β p
  value_there p b = value_basic inst s h.β p b (h.table.within p b) (λ k c same. once k p c b same) (basic_still p b)

  pub value_at_rest : (j : ℕ) → j < column_count inst → status_of s j ≢ status.Basic → value inst s h.β j ≡ rest inst s j
  value_at_rest j b other = value_resting inst s h.β j b (λ p c same. other (subst (λ k. status_of s k ≡ status.Basic) same (h.marked p c)))

  tableau : IsTableau inst s h.table.table h.β (table_cost inst s h.table.table)
  tableau =
      record {
        inverse = record { right = h.table.inverse.right; left = h.table.inverse.left };
        entries = h.table.entries;
        values = h.values;
        costs = λ j b.
            refl;
      }

  pub some_prices : (y : List ℚ) × Prices inst s y
  some_prices = (prices_of inst s h.table.table, tableau_prices inst s h.table.table h.β (table_cost inst s h.table.table) tableau h.table.within)

  pub some_column : (q : ℕ) → q < column_count inst → (α : List ℚ) × ColumnOf inst s q α
  some_column q b =
      (table_column inst h.table.table q, column_solves inst s h.table.table (table_solves inst s h.table.table h.table.inverse h.table.entries) q b)

  pub same_values : (β : List ℚ) → Values inst s β → β ≡ h.β
  same_values β values = one_values inst s regular β h.β values h.values

  pub values_within : (β : List ℚ) → Values inst s β → (p : ℕ) → p < row_count inst → Within (bounds inst s.phase (basic s p)) (at β p)
  values_within β values p b = subst (λ v. Within (bounds inst s.phase (basic s p)) (at v p)) (sym (same_values β values)) (h.within p b)

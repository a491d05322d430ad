-- Where the basis matrix has an inverse, the state is regular, and its solutions are unique.
use Rattle.std.proofs.Common.{◌≡◌, ℕ, ◌<◌, List, sym, ◌∙◌, ap}
use Rattle.rational.specs.Rational.{ℚ, zero_ℚ, one_ℚ, ◌-ℚ◌, ◌*ℚ◌}
use Rattle.rational.specs.Sparse.{at_index}
use Rattle.rational.specs.Sum.{sum_ℚ, at}
use Rattle.rational.proofs.MatrixLaws as matrix
use Rattle.rational.proofs.RationalRing.{*ℚ_assoc}
use Rattle.rational.proofs.SumLaws.{sum-cong, sum-exchange, sum-scale, sum-scale_right, sum-unit, sum-unit_right}
use Rattle.rational.proofs.VectorLaws.{get-map-upto, length-map-upto, same_vectors}
use Rattle.lp_run.specs.Instance.{Instance, coefficient, column_count, cost, row_count}
use Rattle.lp_run.specs.Solution.{ColumnOf, IsTable, Prices, Regular, Values, basis_entry, basis_times, reduced, times_basis}
use Rattle.lp_run.specs.State.{State, basic}
use Rattle.lp_run.specs.Tableau.{InvertsBasis, IsTableau, logical_part, prices_of, table_column, table_price}

pub regular_from_inverse : (inst : Instance) (s : State) (inverse : ℕ → ℕ → ℚ) → InvertsBasis inst s inverse → Regular inst s
regular_from_inverse inst s inverse h = matrix.regular_from_inverse (row_count inst) (basis_entry inst s) inverse h

-- ── uniqueness ──

module _ (inst : Instance) (s : State) (regular : Regular inst s) where
  -- two vectors of which the basis matrix makes the same are the same
  pub same_columns : (v v' : ℕ → ℚ) → ((i : ℕ) → i < row_count inst → basis_times inst s v i ≡ basis_times inst s v' i) → (p : ℕ) → p < row_count inst → v p ≡ v' p
  same_columns = matrix.same_columns (row_count inst) (basis_entry inst s) regular

  pub same_rows : (y y' : ℕ → ℚ) → ((p : ℕ) → p < row_count inst → times_basis inst s y p ≡ times_basis inst s y' p) → (i : ℕ) → i < row_count inst → y i ≡ y' i
  same_rows = matrix.same_rows (row_count inst) (basis_entry inst s) regular

  pub one_prices : (y y' : List ℚ) → Prices inst s y → Prices inst s y' → y ≡ y'
  one_prices y y' h h' =
      same_vectors y y' (row_count inst) h.one_each h'.one_each (same_rows (at y) (at y') (λ p b. h.solves p b ∙ sym (h'.solves p b)))

  pub one_values : (β β' : List ℚ) → Values inst s β → Values inst s β' → β ≡ β'
  one_values β β' h h' =
      same_vectors β β' (row_count inst) h.one_each h'.one_each (same_columns (at β) (at β') (λ i b. h.solves i b ∙ sym (h'.solves i b)))

  pub one_column : (q : ℕ) (α α' : List ℚ) → ColumnOf inst s q α → ColumnOf inst s q α' → α ≡ α'
  one_column q α α' h h' =
      same_vectors α α' (row_count inst) h.one_each h'.one_each (same_columns (at α) (at α') (λ i b. h.solves i b ∙ sym (h'.solves i b)))

  pub one_table : (table table' : ℕ → ℕ → ℚ) → IsTable inst s table → IsTable inst s table' → (p j : ℕ) → p < row_count inst → j < column_count inst → table p j ≡ table' p j
  one_table table table' h h' p j within column =
      same_columns (λ k. table k j) (λ k. table' k j) (λ i b. h i j b column ∙ sym (h' i j b column)) p within

-- ── what a tableau gives ──

-- a table that is the inverse of the basis matrix times the columns has each column in terms of the basis
pub table_solves : (inst : Instance) (s : State) (table : ℕ → ℕ → ℚ) → InvertsBasis inst s (logical_part inst table)
    → ((p j : ℕ) → p < row_count inst → j < column_count inst → table p j ≡ sum_ℚ (row_count inst) (λ i. logical_part inst table p i *ℚ coefficient inst i j))
    → IsTable inst s table
table_solves inst s table inverts entries i j within column =
    let m = row_count inst in
    let inverse = logical_part inst table in
    sum-cong m (λ p. basis_entry inst s i p *ℚ table p j) (λ p. sum_ℚ m (λ k. basis_entry inst s i p *ℚ inverse p k *ℚ coefficient inst k j))
    (λ p b. ap (λ z. basis_entry inst s i p *ℚ z) (entries p j b column) ∙ sym (sum-scale m (basis_entry inst s i p) (λ k. inverse p k *ℚ coefficient inst k j))
    ∙ sum-cong m _ _ (λ k c. sym (*ℚ_assoc (basis_entry inst s i p) (inverse p k) (coefficient inst k j))))
    ∙ sum-exchange m m (λ p k. basis_entry inst s i p *ℚ inverse p k *ℚ coefficient inst k j)
    ∙ sum-cong m (λ k. sum_ℚ m (λ p. basis_entry inst s i p *ℚ inverse p k *ℚ coefficient inst k j)) (λ k. at_index i k one_ℚ *ℚ coefficient inst k j)
    (λ k c. sum-scale_right m (λ p. basis_entry inst s i p *ℚ inverse p k) (coefficient inst k j) ∙ ap (λ z. z *ℚ coefficient inst k j) (inverts.right i k within c))
    ∙ sum-unit m i (λ k. coefficient inst k j) within

-- a column of such a table is that column in terms of the basis
pub column_solves : (inst : Instance) (s : State) (table : ℕ → ℕ → ℚ) → IsTable inst s table → (q : ℕ) → q < column_count inst → ColumnOf inst s q (table_column inst table q)
column_solves inst s table h q column = record {
  one_each = length-map-upto (λ p. table p q) (row_count inst);
  solves = λ i b. sum-cong (row_count inst) _ _ (λ p c. ap (λ z. basis_entry inst s i p *ℚ z) (get-map-upto (λ p. table p q) zero_ℚ (row_count inst) p c)) ∙ h i q b column;
}

module _ (inst : Instance) (s : State) (table : ℕ → ℕ → ℚ) (β : List ℚ) (d : ℕ → ℚ) (h : IsTableau inst s table β d) where
  pub tableau_table : IsTable inst s table
  tableau_table = table_solves inst s table h.inverse h.entries

  pub tableau_column : (q : ℕ) → q < column_count inst → ColumnOf inst s q (table_column inst table q)
  tableau_column q column = column_solves inst s table tableau_table q column

  -- the prices times column j
  weighted : (j : ℕ) → j < column_count inst → sum_ℚ (row_count inst) (λ i. at (prices_of inst s table) i *ℚ coefficient inst i j) ≡ sum_ℚ (row_count inst)
      (λ p. cost inst s.phase (basic s p) *ℚ table p j)
  weighted j column =
      let m = row_count inst in
      let c = λ (p : ℕ). cost inst s.phase (basic s p) in
      let inverse = logical_part inst table in
      sum-cong m _ _ (λ i b. ap (λ z. z *ℚ coefficient inst i j) (get-map-upto (table_price inst s table) zero_ℚ m i b)
      ∙ sym (sum-scale_right m (λ p. c p *ℚ inverse p i) (coefficient inst i j)) ∙ sum-cong m _ _ (λ p e. *ℚ_assoc (c p) (inverse p i) (coefficient inst i j)))
      ∙ sum-exchange m m (λ i p. c p *ℚ (inverse p i *ℚ coefficient inst i j))
      ∙ sum-cong m _ _ (λ p b. sum-scale m (c p) (λ i. inverse p i *ℚ coefficient inst i j) ∙ ap (λ z. c p *ℚ z) (sym (h.entries p j b column)))

  -- the reduced costs beside the table are those of its prices
  pub tableau_reduced : (j : ℕ) → j < column_count inst → reduced inst s (prices_of inst s table) j ≡ d j
  tableau_reduced j column = ap (λ z. cost inst s.phase j -ℚ z) (weighted j column) ∙ sym (h.costs j column)

  module _ (basis_within : (p : ℕ) → p < row_count inst → basic s p < column_count inst) where
    -- the columns of the basis are unit columns in the table
    pub unit_columns : (k p : ℕ) → k < row_count inst → p < row_count inst → table k (basic s p) ≡ at_index k p one_ℚ
    unit_columns k p b c = h.entries k (basic s p) b (basis_within p c) ∙ h.inverse.left k p b c

    pub tableau_prices : Prices inst s (prices_of inst s table)
    tableau_prices = record {
      one_each = length-map-upto (table_price inst s table) (row_count inst);
      solves = λ p b. weighted (basic s p) (basis_within p b)
          ∙ sum-cong (row_count inst) _ _ (λ k c. ap (λ z. cost inst s.phase (basic s k) *ℚ z) (unit_columns k p c b))
          ∙ sum-unit_right (row_count inst) p (λ k. cost inst s.phase (basic s k)) b;
    }

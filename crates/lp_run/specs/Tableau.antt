-- inner: the plain table of a state: the inverse of the basis matrix times the columns, with the basic values and the reduced costs beside it.
use Rattle.std.specs.Prelude.{◌≡◌, ℕ, ◌+◌, ◌<◌, List, map, length, ◌==◌, if◌then◌else◌}
use Rattle.rational.specs.Rational.{ℚ, ◌-ℚ◌, ◌*ℚ◌, ◌/ℚ◌}
use Rattle.rational.specs.Matrix.{IsInverse}
use Rattle.rational.specs.Sparse.{upto}
use Rattle.rational.specs.Sum.{sum_ℚ}
use Rattle.lp_run.specs.Instance.{Instance, coefficient, column_count, cost, row_count, structural_count}
use Rattle.lp_run.specs.Solution.{Values, basis_entry}
use Rattle.lp_run.specs.State.{State, basic}

-- the matrix is the inverse of the basis matrix, on both sides
abbrev pub InvertsBasis : Instance → State → (ℕ → ℕ → ℚ) → Type 0
InvertsBasis inst s inverse = IsInverse (row_count inst) (basis_entry inst s) inverse

-- the part of a table that belongs to the logicals
abbrev pub logical_part : Instance → (ℕ → ℕ → ℚ) → ℕ → ℕ → ℚ
logical_part inst table p i = table p (structural_count inst + i)

-- the reduced cost of column j, from the table
abbrev pub table_cost : Instance → State → (ℕ → ℕ → ℚ) → ℕ → ℚ
table_cost inst s table j = cost inst s.phase j -ℚ sum_ℚ (row_count inst) (λ p. cost inst s.phase (basic s p) *ℚ table p j)

-- a table with the basic values β and the reduced costs d: its logical part is the inverse of the basis matrix, and it is that inverse times the columns
pub record IsTableau (inst : Instance) (s : State) (table : ℕ → ℕ → ℚ) (β : List ℚ) (d : ℕ → ℚ) : Type 0 where
  pub inverse : InvertsBasis inst s (logical_part inst table)
  pub entries : (p j : ℕ) → p < row_count inst → j < column_count inst → table p j ≡ sum_ℚ (row_count inst) (λ i. logical_part inst table p i *ℚ coefficient inst i j)
  pub values : Values inst s β
  pub costs : (j : ℕ) → j < column_count inst → d j ≡ table_cost inst s table j

-- the state has a table, and its basis is a list of columns, one for each row
pub record HasTable (inst : Instance) (s : State) : Type 0 where
  pub table : ℕ → ℕ → ℚ
  pub inverse : InvertsBasis inst s (logical_part inst table)
  pub entries : (p j : ℕ) → p < row_count inst → j < column_count inst → table p j ≡ sum_ℚ (row_count inst) (λ i. logical_part inst table p i *ℚ coefficient inst i j)
  pub positions : length s.basis ≡ row_count inst
  pub within : (p : ℕ) → p < row_count inst → basic s p < column_count inst

-- the price of row i, from the table
abbrev pub table_price : Instance → State → (ℕ → ℕ → ℚ) → ℕ → ℚ
table_price inst s table i = sum_ℚ (row_count inst) (λ p. cost inst s.phase (basic s p) *ℚ logical_part inst table p i)

abbrev pub prices_of : Instance → State → (ℕ → ℕ → ℚ) → List ℚ
prices_of inst s table = map (table_price inst s table) (upto (row_count inst))

-- column q of the table, by position
abbrev pub table_column : Instance → (ℕ → ℕ → ℚ) → ℕ → List ℚ
table_column inst table q = map (λ p. table p q) (upto (row_count inst))

-- the table after a pivot on position p and column q
abbrev pub pivoted : (ℕ → ℕ → ℚ) → ℕ → ℕ → ℕ → ℕ → ℚ
pivoted table p q k j = if k == p then table p j /ℚ table p q else table k j -ℚ table k q *ℚ (table p j /ℚ table p q)

-- the reduced costs after that pivot
abbrev pub repriced : (ℕ → ℕ → ℚ) → (ℕ → ℚ) → ℕ → ℕ → ℕ → ℚ
repriced table d p q j = d j -ℚ d q *ℚ (table p j /ℚ table p q)

-- The solutions that a state has, each stated by its equations: the basic values, the prices, a column in terms of the basis, and the whole table.
use Rattle.std.specs.Prelude.{◌≡◌, ℕ, ◌<◌, List, length}
use Rattle.rational.specs.Rational.{ℚ, ◌-ℚ◌, ◌*ℚ◌}
use Rattle.rational.specs.Matrix.{IsRegular, matrix_times, times_matrix}
use Rattle.rational.specs.Sum.{sum_ℚ, at}
use Rattle.lp_run.specs.Instance.{Instance, coefficient, column_count, cost, row_count}
use Rattle.lp_run.specs.State.{State, basic, rest}

-- the entry of the basis matrix in row i and position p
abbrev pub basis_entry : Instance → State → ℕ → ℕ → ℚ
basis_entry inst s i p = coefficient inst i (basic s p)

-- the basis matrix times a column of numbers by position, in row i
abbrev pub basis_times : Instance → State → (ℕ → ℚ) → ℕ → ℚ
basis_times inst s v i = matrix_times (row_count inst) (basis_entry inst s) v i

-- a row of numbers times the basis matrix, in position p
abbrev pub times_basis : Instance → State → (ℕ → ℚ) → ℕ → ℚ
times_basis inst s y p = times_matrix (row_count inst) y (basis_entry inst s) p

-- the basis matrix takes only 0 to 0, on both sides
abbrev pub Regular : Instance → State → Type 0
Regular inst s = IsRegular (row_count inst) (basis_entry inst s)

-- what the columns at rest leave of the right side of row i
abbrev pub right_left : Instance → State → ℕ → ℚ
right_left inst s i = at inst.right i -ℚ sum_ℚ (column_count inst) (λ j. rest inst s j *ℚ coefficient inst i j)

-- β are the values of the basic columns by position
pub record Values (inst : Instance) (s : State) (β : List ℚ) : Type 0 where
  pub one_each : length β ≡ row_count inst
  pub solves : (i : ℕ) → i < row_count inst → basis_times inst s (at β) i ≡ right_left inst s i

-- y are the prices of the rows
pub record Prices (inst : Instance) (s : State) (y : List ℚ) : Type 0 where
  pub one_each : length y ≡ row_count inst
  pub solves : (p : ℕ) → p < row_count inst → times_basis inst s (at y) p ≡ cost inst s.phase (basic s p)

-- α is column q in terms of the basis
pub record ColumnOf (inst : Instance) (s : State) (q : ℕ) (α : List ℚ) : Type 0 where
  pub one_each : length α ≡ row_count inst
  pub solves : (i : ℕ) → i < row_count inst → basis_times inst s (at α) i ≡ coefficient inst i q

-- the table has every column in terms of the basis: table p j belongs to position p and column j
abbrev pub IsTable : Instance → State → (ℕ → ℕ → ℚ) → Type 0
IsTable inst s table = (i j : ℕ) → i < row_count inst → j < column_count inst → basis_times inst s (λ p. table p j) i ≡ coefficient inst i j

-- the reduced cost of column j at the prices y
abbrev pub reduced : Instance → State → List ℚ → ℕ → ℚ
reduced inst s y j = cost inst s.phase j -ℚ sum_ℚ (row_count inst) (λ i. at y i *ℚ coefficient inst i j)

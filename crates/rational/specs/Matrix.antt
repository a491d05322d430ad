-- Matrices. A matrix is a function of row and column; how many rows or columns it has is said where it is used.
use Rattle.std.specs.Prelude.{◌≡◌, ℕ, ◌<◌}
use Rattle.rational.specs.Rational.{ℚ, zero_ℚ, one_ℚ, ◌*ℚ◌}
use Rattle.rational.specs.Sum.{sum_ℚ}
use Rattle.rational.specs.Sparse.{at_index}

-- a matrix of n columns times a column of numbers, in row i
abbrev pub matrix_times : ℕ → (ℕ → ℕ → ℚ) → (ℕ → ℚ) → ℕ → ℚ
matrix_times n a v i = sum_ℚ n (λ j. a i j *ℚ v j)

-- a row of numbers times a matrix of m rows, in column j
abbrev pub times_matrix : ℕ → (ℕ → ℚ) → (ℕ → ℕ → ℚ) → ℕ → ℚ
times_matrix m y a j = sum_ℚ m (λ i. y i *ℚ a i j)

-- a square matrix of n rows takes only 0 to 0, on both sides
pub record IsRegular (n : ℕ) (a : ℕ → ℕ → ℚ) : Type 0 where
  pub columns : (v : ℕ → ℚ) → ((i : ℕ) → i < n → matrix_times n a v i ≡ zero_ℚ) → (j : ℕ) → j < n → v j ≡ zero_ℚ
  pub rows : (y : ℕ → ℚ) → ((j : ℕ) → j < n → times_matrix n y a j ≡ zero_ℚ) → (i : ℕ) → i < n → y i ≡ zero_ℚ

-- b is the inverse of a, both square of n rows, on both sides
pub record IsInverse (n : ℕ) (a b : ℕ → ℕ → ℚ) : Type 0 where
  pub right : (i k : ℕ) → i < n → k < n → matrix_times n a (λ j. b j k) i ≡ at_index i k one_ℚ
  pub left : (j k : ℕ) → j < n → k < n → matrix_times n b (λ i. a i k) j ≡ at_index j k one_ℚ

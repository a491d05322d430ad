-- When operations and a triangular form stand for a matrix: the operations take each of its columns to the form's.
use Rattle.std.specs.Prelude.{◌≡◌, ℕ, ◌<◌, List}
use Rattle.rational.specs.Rational.{ℚ}
use Rattle.rational.specs.Sum.{at}
use Rattle.factor_model.specs.declared.Op.{Op}
use Rattle.factor_model.specs.Vectors.{matrix_column}
use Rattle.factor_model.specs.Eta.{apply, AreOps}
use Rattle.factor_model.specs.Upper.{Triangle, IsUpper, cell}

-- what the operations make of column p of a matrix of n rows, in row i
abbrev pub made : ℕ → List Op → (ℕ → ℕ → ℚ) → ℕ → ℕ → ℚ
made n ops b i p = at (apply (matrix_column n b p) ops).answer i

-- the operations and the form are factors of the matrix b of n rows and n columns; its column p is that of position p
pub record Represents (n : ℕ) (ops : List Op) (u : Triangle) (b : ℕ → ℕ → ℚ) : Type 0 where
  pub within : AreOps n ops
  pub upper : IsUpper n u
  pub columns : (i p : ℕ) → i < n → p < n → made n ops b i p ≡ cell u i p

-- The factors of a basis: operations and a triangular form, how they solve for a column and for a row, and how they follow the basis.
use Rattle.std.specs.Prelude.{◌≡◌, ℕ, ◌+◌, ◌<◌, List, [], ◌∷◌, ◌++◌}
use Rattle.rational.specs.Rational.{ℚ}
use Rattle.rational.specs.Matrix.{matrix_times, times_matrix}
use Rattle.rational.specs.Sum.{at}
use Rattle.rational.specs.Worked.{Worked, done, bind}
use Rattle.factor_model.specs.declared.Op.{Op}
use Rattle.factor_model.specs.Eta.{apply, apply_back}
use Rattle.factor_model.specs.Upper.{Triangle, solve, solve_back}
use Rattle.factor_model.specs.Update.{RowEta, update, row_operation, updated_upper}
use Rattle.factor_model.specs.Represents.{Represents}

-- the operations, the form, how many updates they have had, and the number of entries of the log at which they were made
pub record Factors : Type 0 where
  pub etas : List Op
  pub upper : Triangle
  pub updates : ℕ
  pub base : ℕ

-- how many updates factors have at most before they are made anew
abbrev pub most_updates : ℕ
most_updates = 64

-- they are factors of the matrix b of n rows
abbrev pub AreFactors : ℕ → Factors → (ℕ → ℕ → ℚ) → Type 0
AreFactors n f b = Represents n f.etas f.upper b

-- B·x = a, of n rows
abbrev pub IsSolution : ℕ → (ℕ → ℕ → ℚ) → (ℕ → ℚ) → List ℚ → Type 0
IsSolution n b a x = (i : ℕ) → i < n → matrix_times n b (at x) i ≡ a i

-- y·B = c, of n positions
abbrev pub IsRowSolution : ℕ → (ℕ → ℕ → ℚ) → (ℕ → ℚ) → List ℚ → Type 0
IsRowSolution n b c y = (p : ℕ) → p < n → times_matrix n (at y) b p ≡ c p

-- the spike of a column a, and the x with B·x = a
abbrev pub ftran : Factors → List ℚ → Worked (List ℚ × List ℚ)
ftran f a = bind (apply a f.etas) (λ spike. bind (solve f.upper spike) (λ x. done (spike, x)))

-- the y with y·B = c
abbrev pub btran : Factors → List ℚ → Worked (List ℚ)
btran f c = bind (solve_back f.upper c) (λ z. apply_back z f.etas)

-- the factors with what an update worked
abbrev pub with_update : Factors → ℕ → List ℚ → RowEta → Factors
with_update f p spike e = record f { etas = f.etas ++ row_operation f.upper p e ∷ []; upper = updated_upper f.upper p spike e; updates = f.updates + 1 }

-- the factors after an update in position p
abbrev pub updated : Factors → ℕ → List ℚ → Worked Factors
updated f p spike = bind (update f.upper p spike) (λ e. done (with_update f p spike e))

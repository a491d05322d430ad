-- The active part of an elimination.
use Rattle.std.specs.Prelude.{◌≡◌, ℕ, true}
use Rattle.factor_model.specs.Factoring.{Elimination}
use Rattle.factor_model.specs.Upper.{In}
use Rattle.cross_links.specs.Matrix.{Matrix, IsMatrix, is_active}
use Rattle.cross_links.specs.Cells.{cell, HasNoZero}

-- the rows and columns that were not removed are the rows and positions without a pivot, and the values there are the elimination's
pub record IsActivePart (e : Elimination) (a : Matrix) : Type 0 where
  pub matrix : IsMatrix a
  pub no_zero : HasNoZero a
  pub row_active : (i : ℕ) → In i e.rows → is_active a.active_rows i ≡ true
  pub row_left : (i : ℕ) → is_active a.active_rows i ≡ true → In i e.rows
  pub col_active : (p : ℕ) → In p e.positions → is_active a.active_cols p ≡ true
  pub col_left : (p : ℕ) → is_active a.active_cols p ≡ true → In p e.positions
  pub cells : (i p : ℕ) → In i e.rows → In p e.positions → cell a i p ≡ e.matrix i p

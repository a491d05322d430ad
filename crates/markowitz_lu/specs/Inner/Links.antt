-- Changes of single entries of the active part.
use Rattle.std.specs.Prelude.{◌≡◌, ◌≢◌, ℕ, Option, Some, None}
use Rattle.rational.specs.Rational.{ℚ}
use Rattle.factor_model.specs.Factoring.{with_entry}
use Rattle.cross_links.specs.Matrix.{Matrix, IsLink, IsMatrix, Has, row_of, col_of}
use Rattle.cross_links.specs.Cells.{cell, HasNoZero}

-- as many rows and columns, of which the same were not removed
pub record IsAlike (a b : Matrix) : Type 0 where
  pub size : b.size ≡ a.size
  pub active_rows : b.active_rows ≡ a.active_rows
  pub active_cols : b.active_cols ≡ a.active_cols

-- the link is that of the entry in row i and column p, if there is one
abbrev pub IsLinkAt : Matrix → ℕ → ℕ → Option ℕ → Type 0
IsLinkAt a i p None = ¬ Has a i p
IsLinkAt a i p (Some l) = IsLink a l × (row_of a l ≡ i) × (col_of a l ≡ p)

-- the value in row i and column p is x, all others are as they were, and the other entries of the row keep their links
pub record IsPut (a : Matrix) (i p : ℕ) (x : ℚ) (b : Matrix) : Type 0 where
  pub alike : IsAlike a b
  pub matrix : IsMatrix b
  pub no_zero : HasNoZero b
  pub cells : cell b ≡ with_entry (cell a) i p x
  pub links : (q : ℕ) → q ≢ p → (o : Option ℕ) → IsLinkAt a i q o → IsLinkAt b i q o

-- What the code keeps of an elimination.
use Rattle.std.specs.Prelude.{◌≡◌, ◌≢◌, ℕ, ◌<◌, false, List, [], ◌∷◌, ◌++◌, Option, Some, None, length, map, slice_set}
use Rattle.rational.specs.Rational.{ℚ, zero_ℚ}
use Rattle.rational.specs.Sparse.{upto}
use Rattle.sparse_cols.specs.Sparse.{Sparse, IsRising, value_at, with_pair}
use Rattle.order_chain.specs.Order.{order_with_last}
use Rattle.factor_model.specs.declared.Op.TheVariants.{Column}
use Rattle.factor_model.specs.Vectors.{entry}
use Rattle.factor_model.specs.Upper.{In}
use Rattle.factor_model.specs.Edits.{column_in}
use Rattle.factor_model.specs.Factoring.{Elimination, row_paired}
use Rattle.markowitz_lu.specs.Inner.Active.{IsActivePart}
use Rattle.markowitz_lu.specs.declared.stage.Stage.{Stage}

-- the column with a value in row r, where one is given
abbrev pub stored_at : ℕ → Option ℚ → Sparse ℚ → Sparse ℚ
stored_at r None column = column
stored_at r (Some u) column = with_pair column r u

-- row r is one of the column's, and nothing is stored there
abbrev pub IsOpen : ℕ → Sparse ℚ → Type 0
IsOpen r column = (r < column.length) × (value_at column.pairs r ≡ None)

-- the column of a position has the entries of the rows that have a pivot
pub record IsKeptColumn (n : ℕ) (e : Elimination) (p : ℕ) (column : Sparse ℚ) : Type 0 where
  pub length : column.length ≡ n
  pub rising : IsRising n 0 column.pairs
  pub nonzero : (i : ℕ) (x : ℚ) → value_at column.pairs i ≡ Some x → x ≢ zero_ℚ
  pub open_rows : (i : ℕ) → In i e.rows → value_at column.pairs i ≡ None
  pub done_rows : (i : ℕ) → i < n → ¬ In i e.rows → entry column.pairs i ≡ e.matrix i p

-- the code stands where the elimination of n rows does
pub record IsKept (n : ℕ) (e : Elimination) (s : Stage) : Type 0 where
  pub size : s.cross.size ≡ n
  pub part : IsActivePart e s.cross
  pub count : length s.columns.items ≡ n
  pub columns : (p : ℕ) → p < n → IsKeptColumn n e p (column_in s.columns.items p)
  pub rows : s.rows.items ≡ map (row_paired e.pivots) (upto n)
  pub order : s.order ≡ e.positions ++ map (λ pivot. pivot.1) e.pivots
  pub left : s.left.items ≡ s.cross.active_rows
  pub etas : s.etas ≡ e.ops

-- a pivot in row r and column c is kept, with the entries of its row and its multipliers
pub record IsKeptPivot (old : Stage) (r c : ℕ) (pairs : List (ℕ × ℚ)) (multipliers : Sparse ℚ) (new : Stage) : Type 0 where
  pub cross : new.cross ≡ old.cross
  pub count : length new.columns.items ≡ length old.columns.items
  pub columns : (p : ℕ) → column_in new.columns.items p ≡ stored_at r (value_at pairs p) (column_in old.columns.items p)
  pub rows : new.rows.items ≡ slice_set old.rows.items c r
  pub order : new.order ≡ order_with_last old.order c
  pub left : new.left.items ≡ slice_set old.left.items r false
  pub etas : new.etas ≡ old.etas ++ Column r multipliers ∷ []

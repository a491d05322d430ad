use Rattle.std.proofs.Common.{◌≡◌, ℕ, Some, drop, length}
use Rattle.rational.specs.Rational.{ℚ}
use Rattle.sparse_cols.specs.Sparse.{value_at}
use Rattle.factor_model.specs.Edits.{column_in}
use Rattle.factor_model.specs.Update.{AreApart}
use Rattle.markowitz_lu.specs.Inner.Kept.{stored_at}
use Rattle.markowitz_lu.proofs.stage.store_row.Given as goal

-- each column with what is left for it is what it comes to, and those that get something yet are as they were
abbrev pub invariant-loop-p : goal.invariant-loop-p
invariant-loop-p l = record {
  count : length l.columns.items ≡ length l.fn.columns.items;
  apart : AreApart (length l.columns.items) (drop l.p-index l.row);
  stored : (p : ℕ) → stored_at l.r (value_at (drop l.p-index l.row) p) (column_in l.columns.items p) ≡ stored_at l.r (value_at l.row p) (column_in l.fn.columns.items p);
  waiting : (p : ℕ) (u : ℚ) → value_at (drop l.p-index l.row) p ≡ Some u → (column_in l.columns.items p ≡ column_in l.fn.columns.items p) × (value_at l.row p ≡ Some u);
}

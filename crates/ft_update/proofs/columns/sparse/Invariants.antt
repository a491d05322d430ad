use Rattle.std.proofs.Common.{◌≡◌, ◌++◌, drop, length}
use Rattle.sparse_cols.specs.Sparse.{IsRising}
use Rattle.factor_model.specs.Vectors.{stored_from}
use Rattle.ft_update.proofs.columns.sparse.Given as goal

-- the stored items of what is left, behind those that are stored, are those of the vector
abbrev pub invariant-loop-i : goal.invariant-loop-i
invariant-loop-i l = record {
  length : l.column.length ≡ length l.v;
  rising : IsRising l.i 0 l.column.pairs;
  left : l.column.pairs ++ stored_from l.i (drop l.i l.v) ≡ stored_from 0 l.v;
}

use Rattle.std.proofs.Common.{◌≡◌, ℕ, ◌<◌, [], length}
use Rattle.factor_model.specs.Edits.{column_in}
use Rattle.markowitz_lu.proofs.stage.empty_columns.Given as goal

abbrev pub invariant-loop-p : goal.invariant-loop-p
invariant-loop-p l = record {
  count : length l.columns.items ≡ l.p;
  empty : (k : ℕ) → k < l.p → column_in l.columns.items k ≡ record { length = l.m; pairs = [] };
}

use Rattle.std.proofs.Common.{◌≡◌, ◌≤◌, ◌<◌, ℕ, length}
use Rattle.factor_model.specs.Edits.{cleared_column, column_in}
use Rattle.upper_form.proofs.clear_others.Given as goal

-- the columns before q are cleared, and those from q on are as they were
abbrev pub invariant-loop-q : goal.invariant-loop-q
invariant-loop-q l = record {
  length : length l.columns.items ≡ length l.fn.columns.items;
  cleared : (k : ℕ) → k < l.q → column_in l.columns.items k ≡ cleared_column l.fn.columns.items l.p l.row k;
  kept : (k : ℕ) → l.q ≤ k → column_in l.columns.items k ≡ column_in l.fn.columns.items k;
}

use Rattle.std.proofs.Common.{◌≡◌, ◌≢◌, ℕ, ◌<◌, ◌≤◌, length, None, vec_len, vec_capacity}
use Rattle.std.specs.List.{All}
use Rattle.sparse_cols.specs.Work.{value_in}
use Rattle.sparse_cols.proofs.work.Work.clear.Given as goal

-- a row outside what is left of the list has no value
abbrev pub invariant-loop-i : goal.invariant-loop-i
invariant-loop-i g l = record {
  same_length : length l.self-inside.values.items ≡ length l.fn.self;
  in_range : All (λ i. i < length l.self-inside.values.items) l.self-inside.filled.items;
  empty_elsewhere : (i : ℕ) → All (λ j. j ≢ i) l.self-inside.filled.items → value_in l.self-inside.values.items i ≡ None;
  has_room : length l.self-inside.values.items ≤ vec_capacity l.self-inside.filled;
}

abbrev pub decreases-loop-i : goal.decreases-loop-i
decreases-loop-i g l = vec_len l.self-inside.filled

-- The columns so far have the length, and so have the items that may be repeated.
use Rattle.std.proofs.Common.{◌≡◌, length}
use Rattle.std.specs.List.{All}
use Rattle.markowitz_lu.specs.Columns.{HasNoZero}
use Rattle.bench_parts.proofs.factors.calls.matrix.Given as goal

abbrev pub invariant-loop-c : goal.invariant-loop-c
invariant-loop-c l = record {
  count : length l.all.items ≡ l.c;
  lengths : All (λ column. column.length ≡ l.plan.rows) l.all.items;
  stored : All HasNoZero l.all.items;
  items : length l.items.items ≡ l.plan.rows;
}

-- The columns that were drawn have the length.
use Rattle.std.proofs.Common.{◌≡◌, length}
use Rattle.std.specs.List.{All}
use Rattle.bench_parts.proofs.links.draws.columns.Given as goal

abbrev pub invariant-loop-c : goal.invariant-loop-c
invariant-loop-c l = record {
  count : length l.columns.items ≡ l.c;
  lengths : All (λ column. column.length ≡ l.size) l.columns.items;
}

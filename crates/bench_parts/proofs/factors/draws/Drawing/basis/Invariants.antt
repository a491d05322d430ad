-- A column for each position so far.
use Rattle.std.proofs.Common.{◌≡◌, length}
use Rattle.std.specs.List.{All}
use Rattle.markowitz_lu.specs.Columns.{HasNoZero}
use Rattle.bench_parts.proofs.factors.draws.Drawing.basis.Given as goal

abbrev pub invariant-loop-c : goal.invariant-loop-c
invariant-loop-c l = record {
  size : l.self.size ≡ l.fn.self.size;
  count : length l.basis.items ≡ l.c;
  lengths : All (λ column. column.length ≡ l.fn.self.size) l.basis.items;
  stored : All HasNoZero l.basis.items;
}

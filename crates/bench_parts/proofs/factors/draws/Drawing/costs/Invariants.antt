-- The rows so far have the length.
use Rattle.std.proofs.Common.{◌≡◌, length}
use Rattle.std.specs.List.{All}
use Rattle.bench_parts.proofs.factors.draws.Drawing.costs.Given as goal

abbrev pub invariant-loop : goal.invariant-loop
invariant-loop l = record {
  size : l.self.size ≡ l.fn.self.size;
  lengths : All (λ row. length row.items ≡ l.fn.self.size) l.all.items;
}

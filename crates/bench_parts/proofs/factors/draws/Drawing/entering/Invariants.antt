-- The columns so far have the rows of the basis.
use Rattle.std.proofs.Common.{◌≡◌}
use Rattle.std.specs.List.{All}
use Rattle.sparse_cols.specs.Sparse.{IsRising}
use Rattle.bench_parts.proofs.factors.draws.Drawing.entering.Given as goal

abbrev pub invariant-loop : goal.invariant-loop
invariant-loop l = record {
  size : l.self.size ≡ l.fn.self.size;
  rising : All (λ e. IsRising l.fn.self.size 0 e.column.pairs) l.all.items;
}

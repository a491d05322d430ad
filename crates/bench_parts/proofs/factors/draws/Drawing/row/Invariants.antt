-- The size stays.
use Rattle.std.proofs.Common.{◌≡◌}
use Rattle.bench_parts.proofs.factors.draws.Drawing.row.Given as goal

abbrev pub invariant-loop-item : goal.invariant-loop-item
invariant-loop-item l = l.self.size ≡ l.fn.self.size

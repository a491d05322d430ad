-- The column keeps its length.
use Rattle.std.proofs.Common.{◌≡◌}
use Rattle.bench_parts.proofs.links.draws.Drawing.column.Given as goal

abbrev pub invariant-loop : goal.invariant-loop
invariant-loop l = l.column.length ≡ l.size

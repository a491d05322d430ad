-- The entries before the next are in other columns.
use Rattle.std.proofs.Common.{◌≢◌, length}
use Rattle.chain_links.specs.Lists.{rest}
use Rattle.cross_links.specs.Matrix.{row, col_of}
use Rattle.cross_links.proofs.Search.{Walked}
use Rattle.bench_parts.proofs.links.eliminate.find.Given as goal

abbrev pub invariant-entries : goal.invariant-entries
invariant-entries l = Walked (row l.cross l.r) l.next (λ k. col_of l.cross k ≢ l.c)

abbrev pub decreases-entries : goal.decreases-entries
decreases-entries l = length (rest l.next (row l.cross l.r))

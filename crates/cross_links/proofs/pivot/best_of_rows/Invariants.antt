-- What is left of the bucket is followed, and each other line of it was looked at.
use Rattle.std.proofs.Common.{ℕ, length}
use Rattle.std.specs.List.{Contains}
use Rattle.chain_links.specs.Lists.{rest}
use Rattle.count_chain.specs.Chains.{list_at}
use Rattle.cross_links.specs.Matrix.{row}
use Rattle.cross_links.specs.Sides.{IsLinkIfSome, Covers}
use Rattle.cross_links.specs.Held.{matrix_of}
use Rattle.cross_links.proofs.Search.{Walked}
use Rattle.cross_links.proofs.pivot.best_of_rows.Given as goal

abbrev pub invariant-bucket : goal.invariant-bucket
invariant-bucket l = record {
  link : IsLinkIfSome (matrix_of l.table) l.best;
  walked : Walked (list_at l.table.rows.buckets l.count) l.next (λ i. (k : ℕ) → Contains (row (matrix_of l.table) i) k → Covers (matrix_of l.table) l.best k);
  kept : (k : ℕ) → Covers (matrix_of l.table) l.fn.best k → Covers (matrix_of l.table) l.best k;
}

abbrev pub decreases-bucket : goal.decreases-bucket
decreases-bucket l = length (rest l.next (list_at l.table.rows.buckets l.count))

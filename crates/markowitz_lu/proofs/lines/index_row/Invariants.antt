use Rattle.std.proofs.Common.{◌≡◌, ℕ, Some, length}
use Rattle.chain_links.specs.Lists.{rest}
use Rattle.sparse_cols.specs.Work.{value_in}
use Rattle.cross_links.specs.Matrix.{row, col_of, IsLink, row_of}
use Rattle.cross_links.proofs.Search.{Walked}
use Rattle.markowitz_lu.proofs.lines.index_row.Given as goal

-- each link that was met stands at its column, and no other link does
abbrev pub invariant-loop-next : goal.invariant-loop-next
invariant-loop-next l = record {
  len : length l.index ≡ l.cross.size;
  walked : Walked (row l.cross l.i) l.next (λ k. value_in l.index (col_of l.cross k) ≡ Some k);
  only : (p k : ℕ) → value_in l.index p ≡ Some k → IsLink l.cross k × (row_of l.cross k ≡ l.i) × (col_of l.cross k ≡ p);
}

abbrev pub decreases-loop-next : goal.decreases-loop-next
decreases-loop-next l = length (rest l.next (row l.cross l.i))

-- What is left of the line is followed, and each other entry of it was looked at.
use Rattle.std.proofs.Common.{ℕ, length}
use Rattle.chain_links.specs.Lists.{rest}
use Rattle.cross_links.specs.Matrix.{row}
use Rattle.cross_links.specs.Sides.{IsLinkIfSome, Covers}
use Rattle.cross_links.specs.Held.{matrix_of}
use Rattle.cross_links.proofs.Search.{Walked}
use Rattle.cross_links.proofs.pivot.best_in_row.Given as goal

abbrev pub invariant-entries : goal.invariant-entries
invariant-entries l = record {
  link : IsLinkIfSome (matrix_of l.table) l.best;
  walked : Walked (row (matrix_of l.table) l.r) l.next (Covers (matrix_of l.table) l.best);
  kept : (k : ℕ) → Covers (matrix_of l.table) l.fn.best k → Covers (matrix_of l.table) l.best k;
}

abbrev pub decreases-entries : goal.decreases-entries
decreases-entries l = length (rest l.next (row (matrix_of l.table) l.r))

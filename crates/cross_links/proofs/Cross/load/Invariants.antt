-- The first c columns stand, and the others have no entry. The ledger of the call is the one of the blank that it is given.
use Rattle.std.proofs.Common.{◌≡◌, ℕ, ◌<◌, ◌≤◌, [], true, map, replicate, get_or}
use Rattle.cross_links.specs.Matrix.{col, col_pairs, IsMatrix}
use Rattle.cross_links.proofs.Cross.load.Given as goal

abbrev pub ghosts-empty : goal.ghosts-empty
ghosts-empty a = record { name = a.blank.name; parts = a.blank.parts }

abbrev pub invariant-loop-c : goal.invariant-loop-c
invariant-loop-c l = record {
  size : l.cross.size ≡ l.m;
  done : (j : ℕ) → j < l.c → col_pairs l.cross j ≡ get_or (map (λ column. column.pairs) l.columns) j [];
  left : (j : ℕ) → l.c ≤ j → col l.cross j ≡ [];
  active_rows : l.cross.active_rows ≡ replicate l.m true;
  active_cols : l.cross.active_cols ≡ replicate l.m true;
  matrix : IsMatrix l.cross;
}

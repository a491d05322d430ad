-- Column c has its first k pairs, and each other column what it had.
use Rattle.std.proofs.Common.{◌≡◌, ℕ, take}
use Rattle.cross_links.specs.Matrix.{col, col_pairs, IsMatrix}
use Rattle.cross_links.proofs.Cross.load_column.Given as goal

abbrev pub invariant-loop-k : goal.invariant-loop-k
invariant-loop-k l = record {
  size : l.self.size ≡ l.fn.self.size;
  pairs : col_pairs l.self l.c ≡ take l.k l.column.pairs;
  others : (d : ℕ) → (d ≡ l.c → ⊥) → col l.self d ≡ col l.fn.self d;
  other_pairs : (d : ℕ) → (d ≡ l.c → ⊥) → col_pairs l.self d ≡ col_pairs l.fn.self d;
  active_rows : l.self.active_rows ≡ l.fn.self.active_rows;
  active_cols : l.self.active_cols ≡ l.fn.self.active_cols;
  matrix : IsMatrix l.self;
}

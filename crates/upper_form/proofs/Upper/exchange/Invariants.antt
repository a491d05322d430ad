use Rattle.std.proofs.Common.{◌≡◌, ℕ, ◌<◌, ◌≤◌, length}
use Rattle.rational.specs.Sum.{at}
use Rattle.factor_model.specs.Upper.{row_of}
use Rattle.upper_form.proofs.Upper.exchange.Given as goal

-- the positions before p are exchanged, and those from p on are as they were
abbrev pub invariant-loop-p : goal.invariant-loop-p
invariant-loop-p l = record {
  rows_len : length l.rows ≡ length l.fn.rows;
  positions_len : length l.positions ≡ length l.fn.positions;
  positions_done : (k : ℕ) → k < l.p → at l.positions k ≡ at l.fn.rows (row_of l.self k);
  positions_left : (k : ℕ) → l.p ≤ k → at l.positions k ≡ at l.fn.positions k;
  rows_done : (k : ℕ) → k < l.p → at l.rows (row_of l.self k) ≡ at l.fn.positions k;
  rows_left : (k : ℕ) → l.p ≤ k → k < length l.self.rows → at l.rows (row_of l.self k) ≡ at l.fn.rows (row_of l.self k);
}

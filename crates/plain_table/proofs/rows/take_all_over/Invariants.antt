use Rattle.std.proofs.Common.{◌≡◌, ◌+◌, ◌<◌, ◌≤◌, ℕ, [], length, get_or, eqb}
use Rattle.plain_table.specs.Inner.Rows.{AreWide, IsTaken}
use Rattle.plain_table.proofs.rows.take_all_over.Given as goal

abbrev pub invariant-loop-i : goal.invariant-loop-i
invariant-loop-i l = record {
  count : length l.rows ≡ length l.fn.rows;
  wide : AreWide (length l.elimination.line.now) l.rows;
  taken : (k : ℕ) → k < l.i → IsTaken (eqb (k + l.base) l.elimination.position) l.elimination.column l.elimination.line.now l.elimination.support.now (get_or l.fn.rows k []) (get_or l.packed k []) (get_or l.rows k []);
  left : (k : ℕ) → l.i ≤ k → get_or l.rows k [] ≡ get_or l.fn.rows k [];
}

use Rattle.std.proofs.Common.{◌≡◌, ◌<◌, ℕ, [], length, get_or}
use Rattle.rational.specs.Sum.{at}
use Rattle.plain_table.proofs.rows.read_column.Given as goal

abbrev pub invariant-loop-p : goal.invariant-loop-p
invariant-loop-p l = record {
  count : length l.out ≡ length l.rows;
  read : (k : ℕ) → k < l.p → at l.out k ≡ at (get_or l.rows k []) l.q;
}

use Rattle.std.proofs.Common.{◌≡◌, ◌<◌, ℕ, length}
use Rattle.rational.specs.Rational.{one_ℚ}
use Rattle.rational.specs.Sparse.{at_index}
use Rattle.rational.specs.Sum.{at}
use Rattle.ranging.proofs.row.put_unit.Given as goal

-- the items below i are put
abbrev pub invariant-loop-i : goal.invariant-loop-i
invariant-loop-i l = record {
  count : length l.out ≡ length l.fn.out;
  items : (k : ℕ) → k < l.i → at l.out k ≡ at_index k l.p one_ℚ;
}

use Rattle.std.proofs.Common.{◌≡◌, ◌<◌, ℕ, length}
use Rattle.rational.specs.Sum.{at}
use Rattle.ranging.proofs.basic_values.put_rights.Given as goal

-- the right sides of the rows below i are put
abbrev pub invariant-loop-i : goal.invariant-loop-i
invariant-loop-i l = record {
  count : length l.out ≡ length l.fn.out;
  items : (k : ℕ) → k < l.i → at l.out k ≡ at l.inst.right k;
}

use Rattle.std.proofs.Common.{◌≡◌, ◌<◌, ℕ, length, get_or, None, Some}
use Rattle.rational.specs.Sum.{at}
use Rattle.ranging.proofs.basic_values.stored.Given as goal

-- the items below i are stored
abbrev pub invariant-loop-i : goal.invariant-loop-i
invariant-loop-i l = record {
  count : length l.row ≡ length l.v;
  items : (k : ℕ) → k < l.i → get_or l.row k None ≡ Some (at l.v k);
}

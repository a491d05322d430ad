-- Node k is the first of its level that is set.
use Rattle.std.proofs.Common.{◌≡◌, ℕ, ◌*◌, ◌^◌, ◌<◌, ◌≤◌, true, false}
use Rattle.flag_tree.specs.Flags.{is_set}
use Rattle.flag_tree.proofs.leftmost.Given as goal

abbrev pub invariant-loop-level : goal.invariant-loop-level
invariant-loop-level l = record {
  from : 2 ^ l.level ≤ l.k;
  below : l.k < 2 * 2 ^ l.level;
  set : is_set l.nodes l.k ≡ true;
  first : (j : ℕ) → 2 ^ l.level ≤ j → j < l.k → is_set l.nodes j ≡ false;
}

-- The leaves are a power of two.
use Rattle.std.proofs.Common.{◌≡◌, ◌-◌, ◌^◌, ◌<◌}
use Rattle.flag_tree.proofs.leaves_for.Given as goal

abbrev pub invariant-levels : goal.invariant-levels
invariant-levels l = record {
  leaves : l.leaves ≡ 2 ^ l.height;
  more : l.height < l.leaves;
}

abbrev pub decreases-levels : goal.decreases-levels
decreases-levels l = l.len - l.leaves

-- Node k alone may be joined wrongly, and the leaves stay.
use Rattle.std.proofs.Common.{◌≡◌, ◌<◌, length, drop}
use Rattle.flag_tree.specs.Tree.{AreJoinedBut}
use Rattle.flag_tree.proofs.join_above.Given as goal

abbrev pub invariant-path : goal.invariant-path
invariant-path l = record {
  len : length l.nodes.items ≡ length l.fn.nodes.items;
  inner : l.k < l.leaves;
  joined : AreJoinedBut l.k l.leaves l.nodes.items;
  flags : drop l.leaves l.nodes.items ≡ drop l.leaves l.fn.nodes.items;
}

abbrev pub decreases-path : goal.decreases-path
decreases-path l = l.k

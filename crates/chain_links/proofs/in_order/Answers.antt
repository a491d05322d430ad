-- One more node at the end.
use Rattle.std.proofs.Common.{arith}
use Rattle.std.proofs.lemmas.Grind.{common_steps}
use Rattle.chain_links.proofs.Rings.{range_with_len_more}
use Rattle.chain_links.proofs.in_order.Goals as goal

pub loop-node-preserved : goal.loop-node-preserved
loop-node-preserved c = grind (arith, common_steps, range_with_len_more)

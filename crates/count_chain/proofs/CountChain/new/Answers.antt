-- Nodes that are linked to themselves close empty rings.
use Rattle.std.proofs.Common.{◌≡◌, ◌+◌, ◌^◌, ◌<◌, rules}
use Rattle.count_chain.proofs.ChainsOf.{IsLinked-loops}
use Rattle.count_chain.proofs.CountChain.new.Goals as goal
use Rattle.count_chain.proofs.CountChain.new.Goals.{In_ok-links}

nodes : (c : In_ok-links) → c.in_ok-nodes.nodes ≡ c.args.items + c.args.counts
nodes c = search rules

fits : (c : In_ok-links) → c.args.items + c.args.counts < 2 ^ 64
fits c = search rules

pub invariant_of-result : goal.invariant_of-result
invariant_of-result c =
    rw (c.in_ok-links.ensures, nodes c) (IsLinked-loops c.args.items c.args.counts (fits c)).0

pub returns : goal.returns
returns c = rw (c.in_ok-links.ensures, nodes c) (IsLinked-loops c.args.items c.args.counts (fits c)).1

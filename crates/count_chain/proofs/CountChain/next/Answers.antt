-- The node behind an item is the item behind it in its list, or no item.
use Rattle.std.proofs.Common.{arith, subst, ◌∙◌}
use Rattle.count_chain.specs.Chains.{IsChained}
use Rattle.count_chain.proofs.ChainsOf.{next_says, other_says, IsChained-chains}
use Rattle.count_chain.proofs.CountChain.next.Goals as goal

pub returns-then-node-i-clause-next : goal.returns-then-node-i-clause-next
returns-then-node-i-clause-next c = λ count held.
    let says = next_says c.self.inside.links c.self.inside.items c.self.inside.counts c.args.i count _ c.self.invariant c.self.view_is held in
    grind (arith, says)

pub returns-then-node-i-clause-placed : goal.returns-then-node-i-clause-placed
returns-then-node-i-clause-placed c = λ _. other_says c.self.inside.links c.self.inside.items c.self.inside.counts c.args.i _ c.self.invariant c.self.view_is
    c.requires (λ e. c.if-node-i.true (c.next-node.ensures ∙ e))

pub returns-then-node-i-clause-chained : goal.returns-then-node-i-clause-chained
returns-then-node-i-clause-chained c =
    subst IsChained c.self.view_is (IsChained-chains c.self.inside.links c.self.inside.items c.self.inside.counts c.self.invariant.closed)

pub returns-else-node-self-clause-next : goal.returns-else-node-self-clause-next
returns-else-node-self-clause-next c = λ count held.
    let says = next_says c.self.inside.links c.self.inside.items c.self.inside.counts c.args.i count _ c.self.invariant c.self.view_is held in
    grind (arith, says)

pub returns-else-node-self-clause-chained : goal.returns-else-node-self-clause-chained
returns-else-node-self-clause-chained c =
    subst IsChained c.self.view_is (IsChained-chains c.self.inside.links c.self.inside.items c.self.inside.counts c.self.invariant.closed)

-- The node behind a count's end is the first item of its list, or the end again.
use Rattle.std.proofs.Common.{arith, subst}
use Rattle.count_chain.specs.Chains.{IsChained}
use Rattle.count_chain.proofs.ChainsOf.{sizes, first_says, IsChained-chains}
use Rattle.count_chain.proofs.CountChain.first.Goals as goal

pub overflow_add-self-inside : goal.overflow_add-self-inside
overflow_add-self-inside c =
    omega (arith, sizes c.self.inside.links c.self.inside.items c.self.inside.counts _ c.self.view_is)

pub next-node-requires : goal.next-node-requires
next-node-requires c =
    omega (arith, sizes c.self.inside.links c.self.inside.items c.self.inside.counts _ c.self.view_is, c.self.invariant.closed.nodes.next_len)

pub returns-then-node-self-clause-first : goal.returns-then-node-self-clause-first
returns-then-node-self-clause-first c =
    let says = first_says c.self.inside.links c.self.inside.items c.self.inside.counts c.args.count _ c.self.invariant c.self.view_is c.requires in
    grind (arith, says)

pub returns-then-node-self-clause-chained : goal.returns-then-node-self-clause-chained
returns-then-node-self-clause-chained c =
    subst IsChained c.self.view_is (IsChained-chains c.self.inside.links c.self.inside.items c.self.inside.counts c.self.invariant.closed)

pub returns-else-node-self-clause-first : goal.returns-else-node-self-clause-first
returns-else-node-self-clause-first c =
    let says = first_says c.self.inside.links c.self.inside.items c.self.inside.counts c.args.count _ c.self.invariant c.self.view_is c.requires in
    grind (arith, says)

pub returns-else-node-self-clause-chained : goal.returns-else-node-self-clause-chained
returns-else-node-self-clause-chained c =
    subst IsChained c.self.view_is (IsChained-chains c.self.inside.links c.self.inside.items c.self.inside.counts c.self.invariant.closed)

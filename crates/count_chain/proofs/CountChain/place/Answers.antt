-- The links become those in which the item stands before the end of its count's ring.
use Rattle.std.proofs.Common.{◌≡◌, ◌+◌, length, ap, arith, length-set, ◌∙◌}
use Rattle.chain_links.specs.Links.{with_node_before, with_link}
use Rattle.count_chain.specs.Chains.{with_item}
use Rattle.count_chain.proofs.ChainsOf.{Becomes, Becomes-with_item, sizes}
use Rattle.count_chain.proofs.CountChain.place.Goals as goal
use Rattle.count_chain.proofs.CountChain.place.Goals.{After-join-2}

pub overflow_add-end : goal.overflow_add-end
overflow_add-end g c =
    omega (arith, sizes c.self.inside.links c.self.inside.items c.self.inside.counts _ c.self.view_is)

pub prev-last-requires : goal.prev-last-requires
prev-last-requires g c =
    let n = c.self.invariant.closed.nodes in
    omega (arith, sizes c.self.inside.links c.self.inside.items c.self.inside.counts _ c.self.view_is, n.prev_len)

pub join-requires-2-clause-to : goal.join-requires-2-clause-to
join-requires-2-clause-to g c =
    let n = c.self.invariant.closed.nodes in
    omega (
      arith,
      sizes c.self.inside.links c.self.inside.items c.self.inside.counts _ c.self.view_is,
      n.prev_len,
      ap (λ l. length l.prev) c.join.ensures.linked,
      length-set c.self.inside.links.prev c.args.i c.prev-last.result,
    )

becomes : (g : _) (c : After-join-2 g) → Becomes c.join-2.new.self c.self.inside.items c.self.inside.counts (with_item c.args.self.now c.args.i c.args.count)
becomes g c =
    let end = c.self.inside.items + c.args.count in
    let set' : c.join-2.new.self ≡ with_node_before c.self.inside.links c.args.i end =
    c.join-2.ensures.linked ∙ ap (λ l. with_link l c.args.i end) (c.join.ensures.linked ∙ ap (λ a. with_link c.self.inside.links a c.args.i) c.prev-last.ensures) in
    Becomes-with_item c.self.inside.links c.join-2.new.self c.self.inside.items c.self.inside.counts c.args.i c.args.count c.args.self.now c.self.invariant
    c.self.view_is c.requires.item c.requires.count c.requires.loose set'

pub invariant_of-self : goal.invariant_of-self
invariant_of-self g c = (becomes g c).linked

pub returns-clause-placed : goal.returns-clause-placed
returns-clause-placed g c = (becomes g c).is

pub returns-clause-chained : goal.returns-clause-chained
returns-clause-chained g c = (becomes g c).chained

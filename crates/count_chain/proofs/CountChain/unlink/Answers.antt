-- The item's neighbours are with_link over it, and it is linked to itself.
use Rattle.std.proofs.Common.{◌≡◌, ap, refl, subst, length-set, ◌∙◌}
use Rattle.chain_links.specs.Links.{without_node, with_link}
use Rattle.count_chain.specs.Chains.{without_item, IsChained}
use Rattle.count_chain.proofs.ChainsOf.{Becomes, Becomes-without_item, IsChained-chains, item_node}
use Rattle.count_chain.proofs.CountChain.unlink.Goals as goal
use Rattle.count_chain.proofs.CountChain.unlink.Goals.{After-join-2}

pub prev-before-requires : goal.prev-before-requires
prev-before-requires g c =
    (item_node c.self.inside.links c.self.inside.items c.self.inside.counts c.args.i c.args.self.now c.self.invariant c.self.view_is c.requires).1

pub next-behind-requires : goal.next-behind-requires
next-behind-requires g c =
    (item_node c.self.inside.links c.self.inside.items c.self.inside.counts c.args.i c.args.self.now c.self.invariant c.self.view_is c.requires).0

pub join-requires-2-clause-from : goal.join-requires-2-clause-from
join-requires-2-clause-from g c =
    rw (c.join.ensures.linked, length-set) (item_node c.self.inside.links c.self.inside.items c.self.inside.counts c.args.i c.args.self.now c.self.invariant c.self.view_is c.requires).0

pub join-requires-2-clause-to : goal.join-requires-2-clause-to
join-requires-2-clause-to g c =
    rw (c.join.ensures.linked, length-set) (item_node c.self.inside.links c.self.inside.items c.self.inside.counts c.args.i c.args.self.now c.self.invariant c.self.view_is c.requires).1

becomes : (g : _) (c : After-join-2 g) → Becomes c.join-2.new.self c.self.inside.items c.self.inside.counts (without_item c.args.self.now c.args.i)
becomes g c =
    let set' : c.join-2.new.self ≡ with_link (without_node c.self.inside.links c.args.i) c.args.i c.args.i =
    c.join-2.ensures.linked ∙ ap (λ l. with_link l c.args.i c.args.i) (c.join.ensures.linked ∙ rw (c.prev-before.ensures, c.next-behind.ensures) refl) in
    Becomes-without_item c.self.inside.links c.join-2.new.self c.self.inside.items c.self.inside.counts c.args.i c.args.self.now c.self.invariant c.self.view_is c.requires set'

pub invariant_of-self : goal.invariant_of-self
invariant_of-self g c = (becomes g c).linked

pub returns-clause-unlinked : goal.returns-clause-unlinked
returns-clause-unlinked g c = (becomes g c).is

pub returns-clause-chained : goal.returns-clause-chained
returns-clause-chained g c = (becomes g c).chained

pub returns-clause-was_chained : goal.returns-clause-was_chained
returns-clause-was_chained g c =
    subst IsChained c.self.view_is (IsChained-chains c.self.inside.links c.self.inside.items c.self.inside.counts c.self.invariant.closed)

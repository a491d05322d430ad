-- The position's neighbours are joined over it, and it is put before the end.
use Rattle.std.proofs.Common.{◌≡◌, ◌+◌, ◌<◌, ◌∙◌, length, ap, refl, arith}
use Rattle.chain_links.specs.Links.{IsClosed, without_node, with_node_before}
use Rattle.chain_links.proofs.Rings.{prev_below}
use Rattle.order_chain.specs.Order.{order_with_last}
use Rattle.order_chain.proofs.OrderOf.{position_below, IsClosed-taken, Becomes, Becomes-moved}
use Rattle.order_chain.proofs.OrderChain.move_to_end_counted.Goals as goal
use Rattle.order_chain.proofs.OrderChain.move_to_end_counted.Goals.{After-join, After-append}

pub prev-before-requires : goal.prev-before-requires
prev-before-requires g c =
    omega (arith, c.self.invariant.closed.nodes.prev_len, position_below c.self.inside.links c.self.inside.len c.args.p c.args.self.now c.self.invariant c.self.view_is c.requires.position)

pub next-behind-requires : goal.next-behind-requires
next-behind-requires g c =
    omega (arith, c.self.invariant.closed.nodes.next_len, position_below c.self.inside.links c.self.inside.len c.args.p c.args.self.now c.self.invariant c.self.view_is c.requires.position)

taken : (g : _) (c : After-join g) → (c.join.new.self ≡ without_node c.self.inside.links c.args.p) × (c.args.p < c.self.inside.len) × IsClosed c.join.new.self c.self.inside.len (c.self.inside.len + 1)
taken g c =
    let set' : c.join.new.self ≡ without_node c.self.inside.links c.args.p =
    c.join.ensures.linked ∙ rw (c.prev-before.ensures, c.next-behind.ensures) refl in
    let below = position_below c.self.inside.links c.self.inside.len c.args.p c.args.self.now c.self.invariant c.self.view_is c.requires.position in
    (set', below, IsClosed-taken c.self.inside.links c.join.new.self c.self.inside.len c.args.p c.self.invariant below set')

pub append-requires-clause-p_next : goal.append-requires-clause-p_next
append-requires-clause-p_next g c =
    let (_, below, closed) = taken g (goal.at.append-requires-clause-p_next g c).After-join in
    omega (arith, below, closed.nodes.next_len)

pub append-requires-clause-p_prev : goal.append-requires-clause-p_prev
append-requires-clause-p_prev g c =
    let (_, below, closed) = taken g (goal.at.append-requires-clause-p_prev g c).After-join in
    omega (arith, below, closed.nodes.prev_len)

pub append-requires-clause-last : goal.append-requires-clause-last
append-requires-clause-last g c =
    let (_, _, closed) = taken g (goal.at.append-requires-clause-last g c).After-join in
    omega (arith, closed.nodes.next_len, prev_below c.join.new.self c.self.inside.len (c.self.inside.len + 1) closed c.self.inside.len (omega arith))

becomes : (g : _) (c : After-append g) → Becomes c.append.new.links c.self.inside.len (length c.args.self.now) (order_with_last c.args.self.now c.args.p)
becomes g c =
    let set' : c.append.new.links ≡ with_node_before (without_node c.self.inside.links c.args.p) c.args.p c.self.inside.len =
    c.append.ensures ∙ ap (λ l. with_node_before l c.args.p c.self.inside.len) (c.join.ensures.linked ∙ rw (c.prev-before.ensures, c.next-behind.ensures) refl) in
    Becomes-moved c.self.inside.links c.append.new.links c.self.inside.len c.args.p c.args.self.now c.self.invariant c.self.view_is c.requires.position set'

pub invariant_of-self : goal.invariant_of-self
invariant_of-self g c = (becomes g (goal.at.invariant_of-self g c).After-append).ordered

pub returns-clause-moved : goal.returns-clause-moved
returns-clause-moved g c = (becomes g (goal.at.returns-clause-moved g c).After-append).is

pub returns-clause-whole : goal.returns-clause-whole
returns-clause-whole g c = (becomes g (goal.at.returns-clause-whole g c).After-append).whole

pub returns-clause-len : goal.returns-clause-len
returns-clause-len g c = (becomes g (goal.at.returns-clause-len g c).After-append).same_len

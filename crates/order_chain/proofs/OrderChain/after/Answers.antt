-- The node behind a position is the position behind it, or the end.
use Rattle.std.proofs.Common.{◌≡◌, ◌<◌, sym, length, ◌∙◌, ap, arith, subst}
use Rattle.chain_links.specs.Lists.{after}
use Rattle.std.specs.Option.{IfSome}
use Rattle.order_chain.specs.Order.{IsWhole, position_of}
use Rattle.order_chain.proofs.OrderOf.{after_says, IsWhole-order, length-order, position_below}
use Rattle.order_chain.proofs.OrderChain.after.Goals as goal

pub next-requires : goal.next-requires
next-requires c =
    let n = c.self.invariant.closed.nodes in
    omega (arith, n.next_len, position_below c.self.inside.links c.self.inside.len c.args.p c.args.self.now c.self.invariant c.self.view_is c.requires)

pub returns-clause-after : goal.returns-clause-after
returns-clause-after c =
    subst (λ order. c.position.result ≡ after c.args.p order) c.self.view_is
    (c.position.ensures.position ∙ ap (λ node. position_of node c.self.inside.len) c.next.ensures
    ∙ after_says c.self.inside.links c.self.inside.len c.self.invariant c.args.p
    (position_below c.self.inside.links c.self.inside.len c.args.p c.args.self.now c.self.invariant c.self.view_is c.requires))

pub returns-clause-position : goal.returns-clause-position
returns-clause-position c =
    let len = sym (length-order c.self.inside.links c.self.inside.len c.self.invariant) ∙ ap length c.self.view_is in
    subst (λ n. IfSome c.position.result (λ q. q < n)) len c.position.ensures.below

pub returns-clause-whole : goal.returns-clause-whole
returns-clause-whole c =
    subst IsWhole c.self.view_is (IsWhole-order c.self.inside.links c.self.inside.len c.self.invariant)

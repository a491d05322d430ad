-- The node before a position is the position before it, or the end.
use Rattle.std.proofs.Common.{◌≡◌, ◌<◌, sym, length, ◌∙◌, ap, arith, subst}
use Rattle.chain_links.specs.Lists.{before}
use Rattle.std.specs.Option.{IfSome}
use Rattle.order_chain.specs.Order.{IsWhole, position_of}
use Rattle.order_chain.proofs.OrderOf.{before_says, IsWhole-order, length-order, position_below}
use Rattle.order_chain.proofs.OrderChain.before.Goals as goal

pub prev-requires : goal.prev-requires
prev-requires c =
    let n = c.self.invariant.closed.nodes in
    omega (arith, n.prev_len, position_below c.self.inside.links c.self.inside.len c.args.p c.args.self.now c.self.invariant c.self.view_is c.requires)

pub returns-clause-before : goal.returns-clause-before
returns-clause-before c =
    subst (λ order. c.position.result ≡ before c.args.p order) c.self.view_is
    (c.position.ensures.position ∙ ap (λ node. position_of node c.self.inside.len) c.prev.ensures
    ∙ before_says c.self.inside.links c.self.inside.len c.self.invariant c.args.p
    (position_below c.self.inside.links c.self.inside.len c.args.p c.args.self.now c.self.invariant c.self.view_is c.requires))

pub returns-clause-position : goal.returns-clause-position
returns-clause-position c =
    let len = sym (length-order c.self.inside.links c.self.inside.len c.self.invariant) ∙ ap length c.self.view_is in
    subst (λ n. IfSome c.position.result (λ q. q < n)) len c.position.ensures.below

pub returns-clause-whole : goal.returns-clause-whole
returns-clause-whole c =
    subst IsWhole c.self.view_is (IsWhole-order c.self.inside.links c.self.inside.len c.self.invariant)

-- The node before the end is the last position, or the end again.
use Rattle.std.proofs.Common.{◌≡◌, ◌<◌, sym, length, reverse, slice_get, ◌∙◌, ap, arith, subst}
use Rattle.std.specs.Option.{IfSome}
use Rattle.order_chain.specs.Order.{IsWhole, position_of}
use Rattle.order_chain.proofs.OrderOf.{last_says, IsWhole-order, length-order}
use Rattle.order_chain.proofs.OrderChain.last.Goals as goal

pub prev-requires : goal.prev-requires
prev-requires c =
    let n = c.self.invariant.closed.nodes in
    omega (arith, n.prev_len)

pub returns-clause-last : goal.returns-clause-last
returns-clause-last c =
    subst (λ order. c.position.result ≡ slice_get (reverse order) 0) c.self.view_is
    (c.position.ensures.position ∙ ap (λ node. position_of node c.self.inside.len) c.prev.ensures ∙ last_says c.self.inside.links c.self.inside.len c.self.invariant)

pub returns-clause-position : goal.returns-clause-position
returns-clause-position c =
    let len = sym (length-order c.self.inside.links c.self.inside.len c.self.invariant) ∙ ap length c.self.view_is in
    subst (λ n. IfSome c.position.result (λ q. q < n)) len c.position.ensures.below

pub returns-clause-whole : goal.returns-clause-whole
returns-clause-whole c =
    subst IsWhole c.self.view_is (IsWhole-order c.self.inside.links c.self.inside.len c.self.invariant)

-- The node behind the end is the first position, or the end again.
use Rattle.std.proofs.Common.{◌≡◌, ◌<◌, sym, length, slice_get, ◌∙◌, ap, arith, subst}
use Rattle.std.specs.Option.{IfSome}
use Rattle.order_chain.specs.Order.{IsWhole, position_of}
use Rattle.order_chain.proofs.OrderOf.{first_says, IsWhole-order, length-order}
use Rattle.order_chain.proofs.OrderChain.first.Goals as goal

pub next-requires : goal.next-requires
next-requires c =
    let n = c.self.invariant.closed.nodes in
    omega (arith, n.next_len)

pub returns-clause-first : goal.returns-clause-first
returns-clause-first c =
    subst (λ order. c.position.result ≡ slice_get order 0) c.self.view_is
    (c.position.ensures.position ∙ ap (λ node. position_of node c.self.inside.len) c.next.ensures ∙ first_says c.self.inside.links c.self.inside.len c.self.invariant)

pub returns-clause-position : goal.returns-clause-position
returns-clause-position c =
    let len = sym (length-order c.self.inside.links c.self.inside.len c.self.invariant) ∙ ap length c.self.view_is in
    subst (λ n. IfSome c.position.result (λ q. q < n)) len c.position.ensures.below

pub returns-clause-whole : goal.returns-clause-whole
returns-clause-whole c =
    subst IsWhole c.self.view_is (IsWhole-order c.self.inside.links c.self.inside.len c.self.invariant)

use Rattle.std.proofs.Common.{◌≡◌, IfNone, IfOk, subst}
use Rattle.two_phase.specs.Inner.Fallbacks.{FallbackReaches, StaysAt, fallback_state}
use Rattle.two_phase.proofs.fallback.Fallback.advance.Goals as goal

pub returns-clause-reached : goal.returns-clause-reached
returns-clause-reached g c =
    let a = c.args in
    let w = g.A.Arith.width a.arith.now in
    let mid = c.over_factors.new.self in
    let left = subst (λ o. IfNone o ((c.over_factors.new.log ≡ a.log.now) × StaysAt w a.inst.now a.log.now a.self.now mid)) c.in_default.is c.in_ok-reached.ensures.left in
    subst (λ s. IfOk c.over_table.result (FallbackReaches w a.inst.now a.budget a.log.now s c.over_table.new.log c.over_table.new.self)) left.1.state
    (subst (λ l. IfOk c.over_table.result (FallbackReaches w a.inst.now a.budget l (fallback_state mid) c.over_table.new.log c.over_table.new.self)) left.0
    (subst (λ w. IfOk c.over_table.result (FallbackReaches w a.inst.now a.budget c.over_factors.new.log (fallback_state mid) c.over_table.new.log c.over_table.new.self)) c.in_ok-reached.ensures.width
    c.over_table.ensures.reached))

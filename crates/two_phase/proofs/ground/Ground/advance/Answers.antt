use Rattle.std.proofs.Common.{◌≡◌, IfNone, IfOk, subst}
use Rattle.two_phase.specs.Inner.Grounds.{GroundReaches, HasCause, IsStill, ground_state}
use Rattle.two_phase.proofs.Grounds.{if_ok}
use Rattle.two_phase.proofs.ground.Ground.advance.Goals as goal

pub returns-clause-reached : goal.returns-clause-reached
returns-clause-reached g c =
    let a = c.args in
    let w = g.A.Arith.width a.arith.now in
    let mid = c.over_factors.new.self in
    let left = subst (λ o. IfNone o (HasCause w a.inst.now a.log.now a.self.now × IsStill w a.inst.now a.log.now a.self.now mid)) c.in_default.is c.in_ok-reached.ensures.left in
    let kept = subst (λ o. IfNone o (c.over_factors.new.log ≡ a.log.now)) c.in_default.is c.in_ok-reached.ensures.log_kept.0 in
    subst (λ s. IfOk c.over_plain.result (GroundReaches w a.inst.now a.budget a.log.now s c.over_plain.new.log c.over_plain.new.self)) left.1.state
    (subst (λ l. IfOk c.over_plain.result (GroundReaches w a.inst.now a.budget l (ground_state mid) c.over_plain.new.log c.over_plain.new.self)) kept
    (subst (λ w. IfOk c.over_plain.result (GroundReaches w a.inst.now a.budget c.over_factors.new.log (ground_state mid) c.over_plain.new.log c.over_plain.new.self)) c.in_ok-reached.ensures.width
    (if_ok c.over_plain.result (λ r h. h.0) c.over_plain.ensures.reached)))

use Rattle.std.proofs.Common.{IfOk, subst}
use Rattle.two_phase.specs.Inner.Reaching.{Reaches}
use Rattle.two_phase.proofs.iterate.Iterate.move_on.Goals as goal

pub returns-in-Flip-clause-reached : goal.returns-in-Flip-clause-reached
returns-in-Flip-clause-reached g c =
    let a = c.args in
    let w = g.A.Arith.width a.arith.now in
    subst (λ s. IfOk c.flip_on.result (Reaches w a.inst.now a.budget a.log.now s c.flip_on.new.log c.flip_on.new.self)) c.in_ok-down.ensures.kept.state
    (subst (λ w. IfOk c.flip_on.result (Reaches w a.inst.now a.budget a.log.now c.enter.new.self.state c.flip_on.new.log c.flip_on.new.self)) c.in_ok-down.ensures.width c.flip_on.ensures.reached)

pub returns-in-Out-clause-reached : goal.returns-in-Out-clause-reached
returns-in-Out-clause-reached g c =
    let a = c.args in
    let w = g.A.Arith.width a.arith.now in
    subst (λ s. IfOk c.exchange_on.result (Reaches w a.inst.now a.budget a.log.now s c.exchange_on.new.log c.exchange_on.new.self)) c.in_ok-down.ensures.kept.state
    (subst (λ w. IfOk c.exchange_on.result (Reaches w a.inst.now a.budget a.log.now c.enter.new.self.state c.exchange_on.new.log c.exchange_on.new.self)) c.in_ok-down.ensures.width
    c.exchange_on.ensures.reached)

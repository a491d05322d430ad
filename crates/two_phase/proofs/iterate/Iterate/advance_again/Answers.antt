use Rattle.std.proofs.Common.{IfOk, ◌∙◌, subst}
use Rattle.two_phase.specs.Inner.Reaching.{Reaches}
use Rattle.two_phase.proofs.iterate.Iterate.advance_again.Goals as goal

pub returns-clause-reached : goal.returns-clause-reached
returns-clause-reached g c =
    let a = c.args in
    let w = g.A.Arith.width a.arith.now in
    let first = c.in-Err-Unfit.ensures in
    let it = c.refactor.new.self in
    let log' = c.advance-2.new.log in
    let it' = c.advance-2.new.self in
    subst (λ s. IfOk c.advance-2.result (Reaches w a.inst.now a.budget a.log.now s log' it')) (c.refactor.ensures.state ∙ first.kept.state)
    (subst (λ l. IfOk c.advance-2.result (Reaches w a.inst.now a.budget l it.state log' it')) first.log_kept
    (subst (λ w. IfOk c.advance-2.result (Reaches w a.inst.now a.budget c.advance.new.log it.state log' it')) (c.refactor.ensures.width ∙ first.width) c.advance-2.ensures.reached))

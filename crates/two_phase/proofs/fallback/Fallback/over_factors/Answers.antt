use Rattle.std.proofs.Common.{sym, subst}
use Rattle.two_phase.specs.declared.fallback.Fallback.TheVariants as fallback
use Rattle.two_phase.specs.Inner.Fallbacks.{FallbackReaches, fallback_state}
use Rattle.two_phase.proofs.Fallbacks.{factors_reach}
use Rattle.two_phase.proofs.fallback.Fallback.over_factors.Goals as goal

pub returns-in-Ok-clause-reached : goal.returns-in-Ok-clause-reached
returns-in-Ok-clause-reached g c =
    let a = c.args in
    let w = g.A.Arith.width a.arith.now in
    let log' = c.advance_again.new.log in
    let it' = c.advance_again.new.self in
    subst (λ x. FallbackReaches w a.inst.now a.budget a.log.now (fallback_state x) log' (fallback.Anew it') c.in-Ok.reached) (sym c.in-Anew.is)
    (factors_reach w a.inst.now a.budget a.log.now c.in-Anew.iterate.state log' it' c.in-Ok.reached c.in-Ok.ensures.reached)

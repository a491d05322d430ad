use Rattle.std.proofs.Common.{sym, subst}
use Rattle.two_phase.specs.declared.ground.Ground.TheVariants as ground
use Rattle.two_phase.specs.Inner.Grounds.{GroundReaches, ground_state}
use Rattle.two_phase.proofs.Grounds.{factors_ground}
use Rattle.two_phase.proofs.ground.Ground.over_factors.Goals as goal

pub returns-in-Ok-clause-reached : goal.returns-in-Ok-clause-reached
returns-in-Ok-clause-reached g c =
    let a = c.args in
    let w = g.A.Arith.width a.arith.now in
    subst (λ x. GroundReaches w a.inst.now a.budget a.log.now (ground_state x) c.advance.new.log (ground.Factors c.advance.new.self) c.in-Ok.reached) (sym c.in-Factors.is)
    (factors_ground w a.inst.now a.budget a.log.now c.in-Factors.iterate.state c.advance.new.log c.advance.new.self c.in-Ok.reached c.in-Ok.ensures.reached)

use Rattle.std.proofs.Common.{sym, subst}
use Rattle.two_phase.specs.declared.ground.Ground.TheVariants as ground
use Rattle.two_phase.specs.Inner.Fallbacks.{FallbackReaches, fallback_state}
use Rattle.two_phase.specs.Inner.Grounds.{GroundReaches, ground_state}
use Rattle.two_phase.specs.Inner.Reaching.{IsChosen}
use Rattle.two_phase.proofs.Grounds.{if_ok, one_state, plain_ground}
use Rattle.two_phase.proofs.ground.Ground.over_plain.Goals as goal

pub advance-requires-in-Factors-clause-chosen : goal.advance-requires-in-Factors-clause-chosen
advance-requires-in-Factors-clause-chosen g c κs within =
    let a = c.args in
    let w = g.A.Arith.width a.arith.now in
    subst (λ s. IsChosen a.inst.now s a.entering) (one_state w w a.inst.now a.log.now a.self.now (ground.Plain c.in_ok-plain-in-Factors.plain) c.requires.stands c.in_ok-plain-in-Factors.ensures.stands) c.requires.chosen

pub returns-in-Plain-clause-reached : goal.returns-in-Plain-clause-reached
returns-in-Plain-clause-reached g c =
    let a = c.args in
    let w = g.A.Arith.width a.arith.now in
    let log' = c.advance.new.log in
    let p' = c.advance.new.self in
    if_ok c.advance.result (λ r h. (
      subst (λ x. GroundReaches w a.inst.now a.budget a.log.now (ground_state x) log' (ground.Plain p') r) (sym c.in-Plain.is)
          (plain_ground w a.inst.now a.budget a.log.now (fallback_state c.in-Plain.plain) log' p' r h),
      tt,
    )) c.advance.ensures.reached

pub returns-in_ok-reached-in-Factors-clause-reached : goal.returns-in_ok-reached-in-Factors-clause-reached
returns-in_ok-reached-in-Factors-clause-reached g c =
    let a = c.args in
    let w = g.A.Arith.width a.arith.now in
    let p = c.in_ok-plain-in-Factors.plain in
    let stands = c.in_ok-plain-in-Factors.ensures.stands in
    let log' = c.advance-in-Factors.new.log in
    let p' = c.advance-in-Factors.new.self in
    let r = c.in_ok-reached-in-Factors.reached in
    let reaches = subst (λ s. FallbackReaches w a.inst.now a.budget a.log.now s log' p' r) (one_state w w a.inst.now a.log.now (ground.Plain p) a.self.now stands c.requires.stands)
    (subst (λ w. FallbackReaches w a.inst.now a.budget a.log.now (fallback_state p) log' p' r) c.in_ok-plain-in-Factors.ensures.width c.in_ok-reached-in-Factors.ensures.reached) in
    (plain_ground w a.inst.now a.budget a.log.now (ground_state a.self.now) log' p' r reaches, tt)

use Rattle.std.proofs.Common.{IfOk, MatchOption, sym, subst}
use Rattle.lp_run.specs.Step.{Enters, NoneEligible}
use Rattle.two_phase.specs.Inner.Reaching.{IsChosen, Reaches}
use Rattle.two_phase.proofs.Iterating.{iterate_basis}
use Rattle.two_phase.proofs.Starting.{chosen_there}
use Rattle.two_phase.proofs.Taking.{goes_there}
use Rattle.two_phase.proofs.iterate.Iterate.advance.Goals as goal

pub move_on-requires-clause-enters : goal.move_on-requires-clause-enters
move_on-requires-clause-enters g c κs within =
    let a = c.args in
    let mid = c.price.new.self in
    subst (λ o. MatchOption o (NoneEligible a.inst.now mid.state mid.prices.items) (Enters a.inst.now mid.state mid.prices.items)) c.in-Some.is
    (chosen_there (g.A.Arith.width a.arith.now) a.inst.now a.log.now mid (c.in_ok-price.ensures.stands a.log.now c.requires.stands) c.in_ok-price.ensures.priced a.entering
    (subst (λ s. IsChosen a.inst.now s a.entering) (sym c.in_ok-price.ensures.kept.state) c.requires.chosen))

pub rest-requires-clause-none : goal.rest-requires-clause-none
rest-requires-clause-none g c =
    let a = c.args in
    let mid = c.price.new.self in
    subst (λ o. MatchOption o (NoneEligible a.inst.now mid.state mid.prices.items) (Enters a.inst.now mid.state mid.prices.items)) c.in-None.is
    (chosen_there (g.A.Arith.width a.arith.now) a.inst.now a.log.now mid (c.in_ok-price.ensures.stands a.log.now c.requires.stands) c.in_ok-price.ensures.priced a.entering
    (subst (λ s. IsChosen a.inst.now s a.entering) (sym c.in_ok-price.ensures.kept.state) c.requires.chosen))

pub rest-requires-clause-basis : goal.rest-requires-clause-basis
rest-requires-clause-basis g c =
    let a = c.args in
    iterate_basis (g.A.Arith.width a.arith.now) a.inst.now c.price.new.self (a.log.now, c.in_ok-price.ensures.stands a.log.now c.requires.stands)

pub returns-in_ok-rest-in-None-clause-reached : goal.returns-in_ok-rest-in-None-clause-reached
returns-in_ok-rest-in-None-clause-reached g c =
    let a = c.args in
    let w = g.A.Arith.width a.arith.now in
    subst (λ s. Reaches w a.inst.now a.budget a.log.now s c.rest.new.log c.rest.new.self c.in_ok-rest-in-None.field-0) c.in_ok-price.ensures.kept.state
    (c.in_ok-rest-in-None.ensures.reached w a.budget c.requires.well_formed (c.in_ok-price.ensures.stands a.log.now c.requires.stands) c.in_ok-price.ensures.priced c.requires.within)

pub returns-in_ok-rest-in-None-clause-goes : goal.returns-in_ok-rest-in-None-clause-goes
returns-in_ok-rest-in-None-clause-goes g c =
    let w = g.A.Arith.width c.args.arith.now in
    let it = c.args.self.now in
    let mid = c.price.new.self in
    let kept = c.in_ok-price.ensures.kept in
    goes_there w c.args.inst.now _ it.state mid.state it.factors mid.factors c.rest.new.self.factors kept.state kept.factors c.in_ok-rest-in-None.field-0 (c.in_ok-rest-in-None.ensures.goes w)

pub returns-in-Some-clause-reached : goal.returns-in-Some-clause-reached
returns-in-Some-clause-reached g c =
    let a = c.args in
    let w = g.A.Arith.width a.arith.now in
    subst (λ s. IfOk c.move_on.result (Reaches w a.inst.now a.budget a.log.now s c.move_on.new.log c.move_on.new.self)) c.in_ok-price.ensures.kept.state
    (subst (λ w. IfOk c.move_on.result (Reaches w a.inst.now a.budget a.log.now c.price.new.self.state c.move_on.new.log c.move_on.new.self)) c.in_ok-price.ensures.width c.move_on.ensures.reached)

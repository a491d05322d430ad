use Rattle.std.proofs.Common.{sym, ◌∙◌, subst}
use Rattle.lp_run.specs.Step.{ArtificialsZero}
use Rattle.two_phase.proofs.Taking.{stay_followed, turn_comes, turned_within}
use Rattle.two_phase.proofs.iterate.Iterate.rest.Goals as goal

pub returns-in_ok-turn-in-One-clause-reached : goal.returns-in_ok-turn-in-One-clause-reached
returns-in_ok-turn-in-One-clause-reached c w budget well_formed stands priced within =
    let inst = c.args.inst.now in
    let it = c.args.self.now in
    let zero = subst (ArtificialsZero inst it.state) c.deref.ensures.value (c.artificials_are_zero.ensures.0 c.if-artificials_are_zero.true) in
    let next = turn_comes w inst c.args.log.now it stands priced c.requires.none (sym c.phase.ensures ∙ c.in-One.is) zero in
    (next, c.in_ok-turn-in-One.ensures.log, c.in_ok-turn-in-One.ensures.stands w inst well_formed stands next, turned_within c.args.log.now c.turn.new.log budget c.in_ok-turn-in-One.ensures.log within)

pub returns-in_ok-turn-in-One-clause-goes : goal.returns-in_ok-turn-in-One-clause-goes
returns-in_ok-turn-in-One-clause-goes c w = stay_followed w c.args.self.now.factors c.turn.new.self.factors c.in_ok-turn-in-One.ensures.same

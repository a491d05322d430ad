use Rattle.two_phase.proofs.Taking.{turn_iterate}
use Rattle.two_phase.proofs.iterate.Iterate.turn.Goals as goal

pub returns-clause-stands : goal.returns-clause-stands
returns-clause-stands c w inst well_formed stands next = turn_iterate w inst well_formed c.args.log.now c.args.self.now stands next c.after.new.self c.after.ensures c.push.new.self c.in_ok-push.ensures.ok

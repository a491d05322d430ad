use Rattle.bland_ratio.proofs.Exact.{exact_choice_enters}
use Rattle.two_phase.specs.Inner.Grounds.{ground_state}
use Rattle.two_phase.proofs.ground.Ground.record.Goals as goal

pub advance-requires-clause-chosen : goal.advance-requires-clause-chosen
advance-requires-clause-chosen g c κs within =
    exact_choice_enters (g.A.Arith.width c.args.arith.now) c.args.inst.now (ground_state c.args.self.now) c.args.choice.now c.requires.well_formed c.requires.exact c.if-choice.false

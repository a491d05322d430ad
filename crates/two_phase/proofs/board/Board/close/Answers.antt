use Rattle.two_phase.specs.Board.{state_of}
use Rattle.two_phase.proofs.Grounds.{reached_by}
use Rattle.two_phase.proofs.board.Board.close.Goals as goal

pub returns-in-Ok-clause-outcome : goal.returns-in-Ok-clause-outcome
returns-in-Ok-clause-outcome g c =
    let b = c.args.self in
    (state_of b, reached_by (g.A.Arith.width b.arith) b.inst.value b.log b.ground c.requires.stands.stands, c.in-Ok.ensures.outcome)

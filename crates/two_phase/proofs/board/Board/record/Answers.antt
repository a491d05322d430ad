use Rattle.std.proofs.Common.{arith}
use Rattle.two_phase.proofs.Boards.{choice_of_state}
use Rattle.two_phase.proofs.board.Board.record.Goals as goal

pub take-requires-clause-exact : goal.take-requires-clause-exact
take-requires-clause-exact g c κs running =
    choice_of_state (g.A.Arith.width c.args.self.now.arith) c.args.self.now c.args.choice c.requires.stands (omega arith) c.requires.exact

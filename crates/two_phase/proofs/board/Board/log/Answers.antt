use Rattle.two_phase.proofs.Boards.{stands_with_factors}
use Rattle.two_phase.proofs.board.Board.log.Goals as goal

pub returns-clause-factors : goal.returns-clause-factors
returns-clause-factors g c = λ w stands. stands_with_factors w c.args.self.now stands

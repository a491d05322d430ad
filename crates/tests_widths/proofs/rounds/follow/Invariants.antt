-- The board stands, and both widths stay.
use Rattle.std.proofs.Common.{◌≡◌}
use Rattle.two_phase.specs.Board.{BoardStands}
use Rattle.tests_widths.proofs.rounds.follow.Given as goal

abbrev pub invariant-loop : goal.invariant-loop
invariant-loop g l = record {
  stands : BoardStands (g.A.Arith.width l.fn.board.arith) l.board;
  board_width : g.A.Arith.width l.board.arith ≡ g.A.Arith.width l.fn.board.arith;
  width : g.A.Arith.width l.arith ≡ g.A.Arith.width l.fn.arith;
}

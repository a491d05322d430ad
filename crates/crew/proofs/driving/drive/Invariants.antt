use Rattle.std.proofs.Common.{◌≡◌, ◌≤◌}
use Rattle.crew.specs.Inner.Driving.{IsCalmOn, IsRunning, StandsOn}
use Rattle.crew.proofs.Rounds.{measure}
use Rattle.crew.proofs.driving.drive.Given as goal

abbrev pub invariant-rounds : goal.invariant-rounds
invariant-rounds g l = record {
  running : IsRunning (g.A.Arith.width l.fn.board.arith) l.board;
  same : StandsOn (g.A.Arith.width l.fn.board.arith) l.fn.board l.board;
  board_width : g.A.Arith.width l.board.arith ≡ g.A.Arith.width l.fn.board.arith;
  board_unfit : g.A.Arith.unfit_count l.fn.board.arith ≤ g.A.Arith.unfit_count l.board.arith;
  width : g.A.Arith.width l.arith ≡ g.A.Arith.width l.fn.arith;
  unfit : g.A.Arith.unfit_count l.fn.arith ≤ g.A.Arith.unfit_count l.arith;
  calm : IsCalmOn (g.A.Arith.width l.fn.board.arith) l.fn.board
      → IsCalmOn (g.A.Arith.width l.fn.board.arith) l.board
      × (g.A.Arith.unfit_count l.board.arith ≡ g.A.Arith.unfit_count l.fn.board.arith) × (g.A.Arith.unfit_count l.arith ≡ g.A.Arith.unfit_count l.fn.arith);
}

-- a run is short (Bland 1977), and factors are given up once
abbrev pub decreases-rounds : goal.decreases-rounds
decreases-rounds g l = measure (g.A.Arith.width l.fn.board.arith) l.board

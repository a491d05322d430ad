use Rattle.std.proofs.Common.{◌≡◌, ◌+◌, ◌≤◌, length}
use Rattle.factor_run.specs.Calm.{IsCalm}
use Rattle.two_phase.specs.Inner.Grounds.{IsPlain}
use Rattle.two_phase.specs.Tally.{HasWorked, IsFresh}
use Rattle.two_phase.specs.Board.{AreBuilt, BoardStands, standing_on}
use Rattle.two_phase.specs.declared.standing.Standing.TheVariants as standing
use Rattle.crew.proofs.Rounds.{measure}
use Rattle.crew.proofs.solving.run.Given as goal

abbrev pub invariant-rounds : goal.invariant-rounds
invariant-rounds g l = record {
  stands : BoardStands (g.A.Arith.width l.fn.board.arith) l.board;
  running : standing_on l.board ≡ standing.Running;
  instance : l.board.inst ≡ l.fn.board.inst;
  budget : l.board.budget ≡ l.fn.board.budget;
  board_width : g.A.Arith.width l.board.arith ≡ g.A.Arith.width l.fn.board.arith;
  width : g.A.Arith.width l.arith ≡ g.A.Arith.width l.fn.arith;
  unfit : g.A.Arith.unfit_count l.fn.arith ≤ g.A.Arith.unfit_count l.arith;
  board_unfit : g.A.Arith.unfit_count l.fn.board.arith ≤ g.A.Arith.unfit_count l.board.arith;
  calm : IsCalm (g.A.Arith.width l.fn.board.arith) l.fn.board.inst.value → IsFresh (g.A.Arith.width l.fn.board.arith) l.fn.board → AreBuilt (g.A.Arith.width l.fn.board.arith) l.board × (IsPlain l.board.ground → ⊥)
      × (g.A.Arith.unfit_count l.board.arith ≡ g.A.Arith.unfit_count l.fn.board.arith) × (g.A.Arith.unfit_count l.arith ≡ g.A.Arith.unfit_count l.fn.arith)
      × HasWorked l.fn.board.inst.value l.board.log (length l.board.log) l.board.updates (g.A.Arith.work_count l.fn.board.arith + g.A.Arith.work_count l.fn.arith)
      (g.A.Arith.work_count l.board.arith + g.A.Arith.work_count l.arith);
}

-- a run is short (Bland 1977), and factors are given up once
abbrev pub decreases-rounds : goal.decreases-rounds
decreases-rounds g l = measure (g.A.Arith.width l.fn.board.arith) l.board

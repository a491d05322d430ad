use Rattle.std.proofs.Common.{◌≡◌, take}
use Rattle.two_phase.proofs.board.Board.since.Given as goal

-- the entries before this one are copied
abbrev pub invariant-loop-entry : goal.invariant-loop-entry
invariant-loop-entry g l = l.later ≡ take l.entry-index l.entry-items

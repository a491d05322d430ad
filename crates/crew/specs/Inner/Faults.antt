-- The refusals of a board that are those of a solve.
use Rattle.std.specs.Prelude.{◌≡◌}
use Rattle.two_phase.specs.declared.standing.BoardFault.{BoardFault}
use Rattle.two_phase.specs.declared.standing.BoardFault.TheVariants as board
use Rattle.crew.specs.declared.faults.CrewFault.{CrewFault}
use Rattle.crew.specs.declared.faults.CrewFault.TheVariants as fault

-- it may be handed on: the board is neither ended, nor further than the choice
abbrev pub IsHandedOn : BoardFault → Type 0
IsHandedOn board.Memory = Unit {0}
IsHandedOn (board.Overflow here) = Unit {0}
IsHandedOn (board.Stale n) = ⊥
IsHandedOn (board.Ended s) = ⊥

-- the refusal of a solve for one of the board
abbrev pub IsFaultFor : BoardFault → CrewFault → Type 0
IsFaultFor board.Memory f = f ≡ fault.Memory
IsFaultFor (board.Overflow here) f = f ≡ fault.Overflow here
IsFaultFor (board.Stale n) f = ⊥
IsFaultFor (board.Ended s) f = ⊥

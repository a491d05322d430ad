-- What a record changes on a board, and why one of a choice of the board's own state is refused.
use Rattle.std.specs.Prelude.{◌≡◌, ℕ, Option, Some, None, false}
use Rattle.bland_ratio.specs.declared.tickets.Choice.{Choice}
use Rattle.two_phase.specs.declared.board.Board.{Board}
use Rattle.two_phase.specs.declared.ground.Ground.{Ground}
use Rattle.two_phase.specs.declared.ground.Ground.TheVariants as ground
use Rattle.two_phase.specs.declared.reached.Reached.{Reached}
use Rattle.two_phase.specs.declared.standing.BoardFault.{BoardFault}
use Rattle.two_phase.specs.declared.standing.BoardFault.TheVariants as fault
use Rattle.two_phase.specs.declared.standing.Course.{Course}
use Rattle.two_phase.specs.Board.{IsFirstOf}
use Rattle.two_phase.specs.Inner.Grounds.{HasCause}
use Rattle.two_phase.specs.Standing.{course_after}

-- what a step comes to is noted, with the counts of the factors where there are some
abbrev pub noted_course : Option Reached → Course → Course
noted_course None before = before
noted_course (Some reached) before = course_after reached

abbrev pub noted_epoch : Ground → ℕ → ℕ
noted_epoch (ground.Factors it) before = it.factors.base
noted_epoch (ground.Plain p) before = before

abbrev pub noted_updates : Ground → ℕ → ℕ
noted_updates (ground.Factors it) before = it.factors.updates
noted_updates (ground.Plain p) before = before

abbrev pub noted : {A : Type 0} → Option Reached → Board A → Board A
noted gone b = record b { course = noted_course gone b.course; epoch = noted_epoch b.ground b.epoch; updates = noted_updates b.ground b.updates }

-- of a choice of the board's own state
abbrev pub IsTakingCause : {A : Type 0} → ℕ → Board A → Choice → ℕ → ℕ → BoardFault → Type 0
IsTakingCause w b choice before after fault.Memory = Unit {0}
IsTakingCause w b choice before after (fault.Overflow here) = IsFirstOf w b before after here × (choice.unfit ≡ false → HasCause w b.inst.value b.log b.ground)
IsTakingCause w b choice before after (fault.Stale n) = ⊥
IsTakingCause w b choice before after (fault.Ended s) = ⊥

-- How a round leads on.
use Rattle.std.specs.Prelude.{◌≡◌, ◌≢◌, [], ◌∷◌, ◌++◌}
use Rattle.two_phase.specs.Board.{standing_on}
use Rattle.two_phase.specs.Inner.Grounds.{IsPlain}
use Rattle.two_phase.specs.declared.board.Board.{Board}
use Rattle.two_phase.specs.declared.standing.Recorded.{Recorded}
use Rattle.two_phase.specs.declared.standing.Recorded.TheVariants as recorded
use Rattle.two_phase.specs.declared.standing.Standing.TheVariants as standing

-- an entry more is in the log, or factors are given up for good, or the run has come to an end
abbrev pub GoesOn : {A : Type 0} → Board A → Board A → Recorded → Type 0
GoesOn old new (recorded.Entry e) = (new.log ≡ old.log ++ e ∷ []) × (standing_on new ≡ standing.Running)
GoesOn old new recorded.Rescued = (new.log ≡ old.log) × (standing_on new ≡ standing.Running) × (IsPlain old.ground → ⊥) × IsPlain new.ground
GoesOn old new (recorded.Ended s) = (s ≢ standing.Running) × (standing_on new ≡ s)

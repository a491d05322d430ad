-- Which entries a state can take in.
use Rattle.std.specs.Prelude.{◌<◌, length}
use Rattle.lp_model.specs.declared.Entry.{Entry}
use Rattle.lp_model.specs.declared.Entry.TheVariants.{Flip, Swap, Turn}
use Rattle.lp_run.specs.State.{State, basic}

-- the columns and the position of the entry are the state's
abbrev pub CanTake : State → Entry → Type 0
CanTake s (Flip q) = q < length s.statuses
CanTake s (Swap q p end) = (q < length s.statuses) × (p < length s.basis) × (basic s p < length s.statuses)
CanTake s Turn = Unit {0}

-- What is kept along a seat's loop.
use Rattle.std.proofs.Common.{◌≡◌, ℕ, ◌≤◌, []}
use Rattle.price_round.specs.declared.round.Round.{Round}
use Rattle.price_round.specs.declared.round.Seat.{Seat}
use Rattle.price_round.specs.Seats.{FitsAll, IsSeatOf, held_of}

-- the seat holds nothing; the width of its arithmetic, and the count of unfit results before and now
abbrev pub keeps_on : Round → Seat → ℕ → ℕ → ℕ → ℕ → Type 0
keeps_on round seat w₀ w before now = IsSeatOf round seat × (held_of seat ≡ []) × (w ≡ w₀) × (before ≤ now) × (FitsAll round → now ≡ before)

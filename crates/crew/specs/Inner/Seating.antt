-- A seat at the end of its loop.
use Rattle.std.specs.Prelude.{◌≡◌, [], true}
use Rattle.price_round.specs.declared.round.Round.{Round}
use Rattle.price_round.specs.declared.round.Seat.{Seat}
use Rattle.price_round.specs.Seats.{IsSeatOf, had_none, held_of}

-- it is a seat of the round, has offered all that it claimed, and found no chunk left
pub record IsDone (round : Round) (seat : Seat) : Type 0 where
  pub round_is : IsSeatOf round seat
  pub free : held_of seat ≡ []
  pub over : had_none seat ≡ true

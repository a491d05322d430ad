-- Inner: what becomes of the seats that a token took in and cut off again.
use Rattle.std.specs.Prelude.{◌≡◌, ℕ, ◌+◌, ◌≤◌, List, map, All}
use Rattle.counting.specs.Counting.{times}
use Rattle.price_round.specs.declared.view.Plan.{Plan}
use Rattle.price_round.specs.declared.view.View.{View}
use Rattle.price_round.specs.Rounds.{IsState}
use Rattle.price_round.specs.declared.round.Round.{Round}
use Rattle.price_round.specs.declared.round.Seat.{Seat}
use Rattle.price_round.specs.Seats.{held_of, done_of, seen_of, had_none, held_in, done_in, nones_in, IsSeatOf}

-- what a view and the seats beside it know together
abbrev pub IsStateWith : Plan → View → List Seat → ℕ → Type 0
IsStateWith plan v seats code =
    (given : ℕ)
    × IsState plan (λ x. times x v.held + held_in x seats) (λ x. times x v.done + done_in x seats) (v.nones + nones_in seats) given code

-- they are as they were, but that each has seen the code
pub record IsSurveyed (round : Round) (code : ℕ) (old new : List Seat) : Type 0 where
  pub seats : All (IsSeatOf round) new
  pub held : map held_of new ≡ map held_of old
  pub done : map done_of new ≡ map done_of old
  pub over : map had_none new ≡ map had_none old
  pub seen : All (λ seat. seen_of seat ≡ code) new
  pub lower : All (λ seat. code ≤ seen_of seat) old

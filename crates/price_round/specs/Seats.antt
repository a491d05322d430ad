-- The words of a round's contracts.
use Rattle.std.specs.Prelude.{◌≡◌, ℕ, ◌<◌, ◌≤◌, ◌⊎◌, map, sum_by, count_by, All, List, [], Option, Some, None, Bool, false}
use Rattle.counting.specs.Counting.{times}
use Rattle.lp_run.specs.Instance.{Instance}
use Rattle.bland_ratio.specs.declared.tickets.Ticket.{Ticket}
use Rattle.bland_ratio.specs.Pricing.{IsFirstStopper}
use Rattle.atomic_table.specs.Seated.{TableId}
use Rattle.price_round.specs.declared.view.Plan.{Plan}
use Rattle.price_round.specs.declared.round.Round.{Round}
use Rattle.price_round.specs.declared.round.Seat.{Seat}
use Rattle.price_round.specs.Rounds.{chunk_start, chunk_end, code_of, no_code, NoneUnfit, StopsAt, IsState}

-- ── of a round ──

abbrev pub plan_of : Round → Plan
plan_of round = round.table.shared.key

abbrev pub inst_of : Round → Instance
inst_of round = (plan_of round).inst.value

abbrev pub ticket_of : Round → Ticket
ticket_of round = (plan_of round).ticket.value

-- the width of the arithmetic that prices it
abbrev pub width_of : Round → ℕ
width_of round = (plan_of round).width

-- how many seats it was opened with
abbrev pub seats_in : Round → ℕ
seats_in round = (plan_of round).seats

-- it is the first stopper of a chunk
abbrev pub IsFirstIn : Round → ℕ → Option (ℕ × Bool) → Type 0
IsFirstIn round chunk found =
    IsFirstStopper (width_of round) (inst_of round) (ticket_of round) (chunk_start chunk) (chunk_end (inst_of round) chunk) found

-- no column of it is an unfit stopper
abbrev pub FitsAll : Round → Type 0
FitsAll round = NoneUnfit (width_of round) (inst_of round) (ticket_of round)

-- ── of a seat ──

-- the chunks that it claimed and has not offered
abbrev pub held_of : Seat → List ℕ
held_of seat = seat.seat.me.0.held

-- the chunks that it offered
abbrev pub done_of : Seat → List ℕ
done_of seat = seat.seat.me.0.done

-- the least code that it has glanced or offered
abbrev pub seen_of : Seat → ℕ
seen_of seat = seat.seat.me.0.seen

-- a claim of it found that the claim word had passed the last chunk
abbrev pub had_none : Seat → Bool
had_none seat = seat.over

-- it is a seat of this round
abbrev pub IsSeatOf : Round → Seat → Type 0
IsSeatOf round seat = (seat.seat.table_id ≡ round.table.shared.table_id) × (seat.seat.me.0.plan ≡ Some (plan_of round))

-- it has done nothing yet
pub record IsFresh (seat : Seat) : Type 0 where
  pub held : held_of seat ≡ []
  pub done : done_of seat ≡ []
  pub seen : seen_of seat ≡ no_code
  pub claims : had_none seat ≡ false

-- it is a seat of the round with this table and plan, and has done nothing yet
abbrev pub IsNewSeat : TableId → Plan → Seat → Type 0
IsNewSeat table plan seat = (seat.seat.table_id ≡ table) × (seat.seat.me.0.plan ≡ Some plan) × IsFresh seat

-- what was found in a chunk may be offered: its first stopper, or none where it has none or the seat has seen a stopper below it
abbrev pub MayOffer : Round → Seat → ℕ → Option (ℕ × Bool) → Type 0
MayOffer round seat chunk (Some stopper) = IsFirstIn round chunk (Some stopper)
MayOffer round seat chunk None = IsFirstIn round chunk None ⊎ (seen_of seat < code_of (chunk_start chunk) false)

-- the code of what was found
abbrev pub found_code : Option (ℕ × Bool) → ℕ
found_code None = no_code
found_code (Some stopper) = code_of stopper.0 stopper.1

-- the code seen is that of the stopper in this column
abbrev pub SeesColumn : Round → ℕ → ℕ → Type 0
SeesColumn round code column = (unfit : Bool) × (code ≡ code_of column unfit) × StopsAt (plan_of round) column unfit

-- what a glance answers: the column of the code that is seen, or that there is none
abbrev pub IsGlance : Round → ℕ → Option ℕ → Type 0
IsGlance round code None = code ≡ no_code
IsGlance round code (Some column) = SeesColumn round code column

-- ── of all seats of a round together ──

-- how often they hold the chunk, and how often they have offered it
abbrev pub held_in : ℕ → List Seat → ℕ
held_in x seats = sum_by (times x) (map held_of seats)

abbrev pub done_in : ℕ → List Seat → ℕ
done_in x seats = sum_by (times x) (map done_of seats)

-- how many of them have had none
abbrev pub nones_in : List Seat → ℕ
nones_in seats = count_by (λ over. over) (map had_none seats)

-- they have learned the state of the round: each has seen the least code, which is no higher than what the seats had seen before
pub record IsSurvey (round : Round) (old new : List Seat) : Type 0 where
  pub code : ℕ
  pub given : ℕ
  pub seen : All (λ seat. seen_of seat ≡ code) new
  pub lower : All (λ seat. code ≤ seen_of seat) old
  pub state : IsState (plan_of round) (λ x. held_in x new) (λ x. done_in x new) (nones_in new) given code

use Rattle.std.proofs.Common.{◌≡◌, ◌+◌, ◌<◌, vec_len, Some}
use Rattle.std.specs.Prelude.{[], All}
use Rattle.std.specs.List.{sum_by}
use Rattle.price_round.specs.declared.round.Seat.{Seat}
use Rattle.price_round.specs.Seats.{plan_of, seats_in, held_of, IsSeatOf}
use Rattle.price_round.proofs.calls.gather.Given as goal

-- the token and the seats that are left have all parts, nothing held, and a claim that had none
abbrev pub invariant-loop-seat : goal.invariant-loop-seat
invariant-loop-seat l =
    (l.token.table_id ≡ l.round.table.shared.table_id)
    × (l.token.me.0.plan ≡ Some (plan_of l.round))
    × (l.token.me.0.held ≡ [])
    × (l.token.me.0.parts + vec_len l.seats ≡ seats_in l.round)
    × (0 < l.token.me.0.parts)
    × (0 < l.token.me.0.nones + sum_by (λ (s : Seat). s.seat.me.0.nones) l.seats.items)
    × All (IsSeatOf l.round) l.seats.items
    × All (λ (s : Seat). held_of s ≡ []) l.seats.items

abbrev pub decreases-loop-seat : goal.decreases-loop-seat
decreases-loop-seat l = vec_len l.seats

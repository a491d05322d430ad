use Rattle.std.proofs.Common.{◌≡◌, ℕ, ◌+◌, vec_len}
use Rattle.std.specs.Prelude.{[], All}
use Rattle.price_round.specs.Seats.{IsNewSeat}
use Rattle.price_round.proofs.Views.{fresh_view}
use Rattle.price_round.proofs.calls.deal.Given as goal

-- the token has the parts that were not dealt
abbrev pub invariant-loop : goal.invariant-loop
invariant-loop l =
    (l.token.table_id ≡ l.words.table_id)
    × (vec_len l.seats + 1 ≡ l.counter)
    × All (IsNewSeat l.words.table_id l.words.key) l.seats.items
    × ((p : ℕ) × (p + vec_len l.seats ≡ l.fn.workers) × (l.token.me ≡ (fresh_view l.words.key p, [])))

use Rattle.std.proofs.Common.{◌≡◌, ◌+◌, ◌≤◌, vec_len}
use Rattle.std.specs.Prelude.{All}
use Rattle.price_round.specs.declared.round.Round.{Round}
use Rattle.crew.specs.Inner.Seating.{IsDone}
use Rattle.crew.proofs.pricing.gather.Given as goal

-- what holds of all hands holds of those that are left, and of the seats that were taken from the others
abbrev pub invariant-loop-seat : goal.invariant-loop-seat
invariant-loop-seat g l =
    (vec_len l.seats + vec_len l.hands ≡ vec_len l.fn.hands)
    × ((round : Round) → All (λ hand. IsDone round hand.seat) l.fn.hands.items → All (IsDone round) l.seats.items × All (λ hand. IsDone round hand.seat) l.hands.items)
    × (g.A.Arith.width l.arith ≡ g.A.Arith.width l.fn.arith)
    × (g.A.Arith.unfit_count l.fn.arith ≤ g.A.Arith.unfit_count l.arith)
    × (All (λ hand. g.A.Arith.unfit_count hand.arith ≡ 0) l.fn.hands.items
    → All (λ hand. g.A.Arith.unfit_count hand.arith ≡ 0) l.hands.items × (g.A.Arith.unfit_count l.arith ≡ g.A.Arith.unfit_count l.fn.arith))

abbrev pub decreases-loop-seat : goal.decreases-loop-seat
decreases-loop-seat g l = vec_len l.hands

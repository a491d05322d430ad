use Rattle.std.proofs.Common.{◌≡◌, ◌-◌, []}
use Rattle.price_round.specs.Rounds.{chunk_count}
use Rattle.price_round.specs.Seats.{inst_of, held_of, done_of, FitsAll, IsSeatOf}
use Rattle.price_round.proofs.Views.{next_of}
use Rattle.price_round.proofs.round.Round.work.Given as goal

abbrev pub invariant-loop-chunk : goal.invariant-loop-chunk
invariant-loop-chunk g l =
    IsSeatOf l.self l.seat
    × (held_of l.seat ≡ [])
    × (g.A.Arith.width l.arith ≡ g.A.Arith.width l.fn.arith)
    × (FitsAll l.self → g.A.Arith.unfit_count l.arith ≡ g.A.Arith.unfit_count l.fn.arith)

abbrev pub decreases-loop-chunk : goal.decreases-loop-chunk
decreases-loop-chunk g l = chunk_count (inst_of l.self) - next_of (done_of l.seat)

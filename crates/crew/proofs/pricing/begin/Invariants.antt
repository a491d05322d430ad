use Rattle.std.proofs.Common.{◌-◌}
use Rattle.price_round.specs.Rounds.{chunk_count}
use Rattle.price_round.specs.Seats.{done_of, inst_of}
use Rattle.price_round.proofs.Views.{next_of}
use Rattle.crew.proofs.Looping.{keeps_on}
use Rattle.crew.proofs.pricing.begin.Given as goal

abbrev pub invariant-loop-chunk : goal.invariant-loop-chunk
invariant-loop-chunk g l = keeps_on l.round l.seat (g.A.Arith.width l.fn.arith) (g.A.Arith.width l.arith) (g.A.Arith.unfit_count l.fn.arith) (g.A.Arith.unfit_count l.arith)

abbrev pub decreases-loop-chunk : goal.decreases-loop-chunk
decreases-loop-chunk g l = chunk_count (inst_of l.round) - next_of (done_of l.seat)

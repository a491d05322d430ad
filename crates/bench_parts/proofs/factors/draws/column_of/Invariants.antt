-- No item so far that was kept is 0.
use Rattle.std.proofs.Common.{◌≢◌}
use Rattle.std.specs.List.{All}
use Rattle.rational.specs.Rational.{zero_ℚ}
use Rattle.bench_parts.proofs.factors.draws.column_of.Given as goal

abbrev pub invariant-loop-i : goal.invariant-loop-i
invariant-loop-i l = All (λ pair. pair.1 ≢ zero_ℚ) l.pairs.items

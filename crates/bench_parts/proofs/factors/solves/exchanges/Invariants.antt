-- The factors keep their size.
use Rattle.std.proofs.Common.{◌≡◌}
use Rattle.ftran_btran.specs.Kept.{size}
use Rattle.bench_parts.proofs.factors.solves.exchanges.Given as goal

abbrev pub invariant-loop-each : goal.invariant-loop-each
invariant-loop-each l = record {
  size : size l.factors ≡ size l.fn.factors;
}

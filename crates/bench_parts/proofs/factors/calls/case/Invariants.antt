-- The factors keep the size of the matrix.
use Rattle.std.proofs.Common.{◌≡◌}
use Rattle.ftran_btran.specs.Kept.{size}
use Rattle.bench_parts.proofs.factors.calls.case.Given as goal

abbrev pub invariant-loop-k : goal.invariant-loop-k
invariant-loop-k l = size l.factors ≡ l.plan.rows

use Rattle.std.proofs.Common.{◌≡◌, ◌<◌, ℕ, length}
use Rattle.rational.specs.Sum.{at}
use Rattle.lp_run.specs.State.{rest}
use Rattle.run_outcome.proofs.points.rests.Given as goal

abbrev pub invariant-loop-j : goal.invariant-loop-j
invariant-loop-j l = record {
  count : length l.x.items ≡ l.j;
  each : (k : ℕ) → k < l.j → at l.x.items k ≡ rest l.inst l.state k;
}

use Rattle.std.proofs.Common.{◌≡◌, ◌<◌, ℕ, length}
use Rattle.rational.specs.Sum.{at}
use Rattle.lp_run.specs.Instance.{cost}
use Rattle.lp_run.specs.State.{basic}
use Rattle.plain_table.proofs.costs.basic_costs.Given as goal

abbrev pub invariant-loop-p : goal.invariant-loop-p
invariant-loop-p l = record {
  count : length l.out ≡ length l.state.basis;
  costs : (k : ℕ) → k < l.p → at l.out k ≡ cost l.inst l.phase (basic l.state k);
}

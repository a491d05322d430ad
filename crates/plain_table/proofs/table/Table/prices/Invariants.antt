use Rattle.std.proofs.Common.{◌≡◌, ◌+◌, ◌<◌, ℕ, length}
use Rattle.rational.specs.Rational.{neg_ℚ}
use Rattle.rational.specs.Sum.{at}
use Rattle.lp_run.specs.Instance.{structural_count}
use Rattle.plain_table.proofs.table.Table.prices.Given as goal

abbrev pub invariant-loop-row : goal.invariant-loop-row
invariant-loop-row l = record {
  count : length l.y.items ≡ l.row;
  each : (k : ℕ) → k < l.row → at l.y.items k ≡ neg_ℚ (at l.self.costs (structural_count l.inst + k));
}

use Rattle.std.proofs.Common.{◌≡◌, ◌<◌, ℕ, length}
use Rattle.rational.specs.Sum.{at}
use Rattle.plain_table.specs.Plain.{cell}
use Rattle.plain_table.proofs.table.Table.column.Given as goal

abbrev pub invariant-loop-p : goal.invariant-loop-p
invariant-loop-p l = record {
  count : length l.alpha.items ≡ l.p;
  each : (k : ℕ) → k < l.p → at l.alpha.items k ≡ cell l.self k l.column;
}

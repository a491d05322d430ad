use Rattle.std.proofs.Common.{◌≡◌, ◌+◌, ◌<◌, ℕ, length}
use Rattle.rational.specs.Sum.{at}
use Rattle.plain_table.specs.Plain.{cell}
use Rattle.ranging.proofs.table.read_entries.Given as goal

-- the entries below k are read
abbrev pub invariant-loop-k : goal.invariant-loop-k
invariant-loop-k l = record {
  length : length l.out ≡ length l.fn.out;
  entries : (k : ℕ) → k < l.k → at l.out k ≡ cell l.table l.p (l.from + k);
}

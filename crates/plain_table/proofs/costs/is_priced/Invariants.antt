use Rattle.std.proofs.Common.{◌<◌, ℕ, [], get_or, IsTrue}
use Rattle.rational.specs.Sum.{at}
use Rattle.rational.specs.Worked.{is_skipped}
use Rattle.plain_table.proofs.costs.is_priced.Given as goal

abbrev pub invariant-loop-p : goal.invariant-loop-p
invariant-loop-p l = (k : ℕ) → k < l.p → IsTrue (is_skipped (at l.basic_costs k) (at (get_or l.rows k []) l.j))

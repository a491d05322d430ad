use Rattle.std.proofs.Common.{◌≡◌, drop, length}
use Rattle.ftran_btran.specs.Spread.{spread}
use Rattle.factor_model.specs.Vectors.{entry, vector}
use Rattle.ftran_btran.proofs.spread.Given as goal

-- what is left of the column leads to the same vector
abbrev pub invariant-loop-k : goal.invariant-loop-k
invariant-loop-k l = record {
  len : length l.v ≡ length l.fn.v;
  left : spread l.v (drop l.k l.column.pairs) ≡ vector (length l.fn.v) (entry l.column.pairs);
}

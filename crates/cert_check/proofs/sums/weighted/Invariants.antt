use Rattle.std.proofs.Common.{◌≡◌, drop}
use Rattle.rational.specs.Worked.{settle}
use Rattle.cert_check.specs.Sums.{added, entry_terms, weighted_sum}
use Rattle.cert_check.proofs.sums.weighted.Given as goal

-- what is left of the column settles as all of it
abbrev pub invariant-loop-k : goal.invariant-loop-k
invariant-loop-k g l = record {
  width : g.A.Arith.width l.arith ≡ g.A.Arith.width l.fn.arith;
  left : settle (g.A.Arith.width l.fn.arith) (added l.sum (entry_terms l.y (drop l.k l.entries.pairs))) ≡ settle (g.A.Arith.width l.fn.arith) (weighted_sum l.deck l.y l.column);
  unfit : g.A.Arith.unfit_count l.arith ≡ g.A.Arith.unfit_count l.fn.arith;
}

use Rattle.std.proofs.Common.{◌≡◌, length}
use Rattle.cert_check.proofs.Scatter.{SumsUpTo}
use Rattle.cert_check.proofs.ahead.scatter.Given as goal

-- the sums so far
abbrev pub invariant-loop-j : goal.invariant-loop-j
invariant-loop-j g l = record {
  width : g.A.Arith.width l.arith ≡ g.A.Arith.width l.fn.arith;
  unfit : g.A.Arith.unfit_count l.arith ≡ g.A.Arith.unfit_count l.fn.arith;
  long : length l.sums ≡ length l.deck.rows;
  sums : SumsUpTo (g.A.Arith.width l.fn.arith) l.deck l.v l.j l.sums;
}

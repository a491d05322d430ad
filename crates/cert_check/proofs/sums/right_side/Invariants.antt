use Rattle.std.proofs.Common.{◌≡◌, length}
use Rattle.lp_model.specs.Deck.{row}
use Rattle.cert_check.specs.Sums.{added, right_sum}
use Rattle.rational.specs.Sum.{at}
use Rattle.rational.specs.Worked.{settle}
use Rattle.cert_check.proofs.Adding.{left_terms}
use Rattle.cert_check.proofs.sums.right_side.Given as goal

-- what is left settles as all of it
abbrev pub invariant-loop-i : goal.invariant-loop-i
invariant-loop-i g l = record {
  width : g.A.Arith.width l.arith ≡ g.A.Arith.width l.fn.arith;
  left : settle (g.A.Arith.width l.fn.arith) (added l.sum (left_terms (λ i. ((row l.deck i).right, at l.y i)) (length l.deck.rows) l.i)) ≡ settle (g.A.Arith.width l.fn.arith) (right_sum l.deck l.y);
  unfit : g.A.Arith.unfit_count l.arith ≡ g.A.Arith.unfit_count l.fn.arith;
}

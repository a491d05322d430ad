use Rattle.std.proofs.Common.{◌≡◌, length}
use Rattle.lp_model.specs.Deck.{entry}
use Rattle.cert_check.specs.Sums.{activity_sum, added}
use Rattle.rational.specs.Sum.{at}
use Rattle.rational.specs.Worked.{settle}
use Rattle.cert_check.proofs.Adding.{left_terms}
use Rattle.cert_check.proofs.sums.activity.Given as goal

-- what is left settles as all of it
abbrev pub invariant-loop-j : goal.invariant-loop-j
invariant-loop-j g l = record {
  width : g.A.Arith.width l.arith ≡ g.A.Arith.width l.fn.arith;
  left : settle (g.A.Arith.width l.fn.arith) (added l.sum (left_terms (λ j. (entry l.deck l.row j, at l.v j)) (length l.deck.columns) l.j)) ≡ settle
      (g.A.Arith.width l.fn.arith) (activity_sum l.deck l.v l.row);
  unfit : g.A.Arith.unfit_count l.arith ≡ g.A.Arith.unfit_count l.fn.arith;
}

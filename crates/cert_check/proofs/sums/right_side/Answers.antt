-- Each step works the product of the next item.
use Rattle.std.proofs.Common.{◌<◌, length, refl, ◌∙◌, ap, arith}
use Rattle.lp_model.specs.Deck.{row}
use Rattle.exact_frac.specs.Constants.{ratio-zero}
use Rattle.rational.specs.Rational.{ℚ, zero_ℚ}
use Rattle.rational.specs.Sum.{at}
use Rattle.rational.specs.Worked.{settle}
use Rattle.rational.proofs.Loops.{step_settles, step_stops, all_worked}
use Rattle.sparse_steps.proofs.Steps.{refused, item_read}
use Rattle.cert_check.specs.Sums.{added}
use Rattle.cert_check.proofs.Adding.{added-ends, added-next, all_terms, left_terms}
use Rattle.cert_check.proofs.sums.right_side.Goals as goal

pub loop-i-init : goal.loop-i-init
loop-i-init g c =
    let d = c.args.deck.now in
    record {
      width = refl;
      left = ap (λ (s : ℚ). settle (g.A.Arith.width c.args.arith.now) (added s (left_terms (λ i. ((row d i).right, at c.args.y.now i)) (length d.rows) 0)))
          ratio-zero ∙ ap (λ ts. settle (g.A.Arith.width c.args.arith.now) (added zero_ℚ ts))
          (all_terms (λ i. ((row d i).right, at c.args.y.now i)) (length d.rows));
      unfit = refl;
    }

pub returns-in_err-sum-clause-settled : goal.returns-in_err-sum-clause-settled
returns-in_err-sum-clause-settled g c =
    let d = c.args.deck.now in
    let k = c.loop-i.i in
    let lt : k < length d.rows = omega (arith, c.rows-i-end.ensures.count) in
    let item = item_read c.args.y.now k c.index-y-i.result (omega (arith, c.requires)) c.index-y-i.is in
    refused _ _ _ (λ x. x) (step_stops _ _ c.loop-i.invariant.width _ _ _ (added-next (λ i. ((row d i).right, at c.args.y.now i))
    (length d.rows) k lt c.loop-i.sum c.right.result c.index-y-i.result c.right.ensures item)
    _ c.loop-i.invariant.left c.in_err-sum.ensures.settled) c.from_residual.ensures.1

pub loop-i-preserved : goal.loop-i-preserved
loop-i-preserved g c =
    let d = c.args.deck.now in
    let k = c.loop-i.i in
    let lt : k < length d.rows = omega (arith, c.rows-i-end.ensures.count) in
    let item = item_read c.args.y.now k c.index-y-i.result (omega (arith, c.requires)) c.index-y-i.is in
    record {
      width = c.more_product.ensures.width ∙ c.loop-i.invariant.width;
      left = step_settles _ _ c.loop-i.invariant.width _ _ _ (added-next (λ i. ((row d i).right, at c.args.y.now i))
          (length d.rows) k lt c.loop-i.sum c.right.result c.index-y-i.result c.right.ensures item)
          _ c.loop-i.invariant.left _ c.in_ok-sum.ensures.settled;
      unfit = c.in_ok-sum.ensures.unfit ∙ c.loop-i.invariant.unfit;
    }

pub returns-clause-settled : goal.returns-clause-settled
returns-clause-settled g c =
    let d = c.args.deck.now in
    all_worked _ _ _ _ (added-ends (λ i. ((row d i).right, at c.args.y.now i)) (length d.rows) c.loop-i.i c.loop-i.sum (omega (arith, c.rows-i-end.ensures.count))) c.loop-i.invariant.left

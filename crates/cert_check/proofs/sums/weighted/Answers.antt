-- Each step works the product of the next entry.
use Rattle.std.proofs.Common.{◌≡◌, length, refl, ◌∙◌, ap, arith}
use Rattle.rational.specs.Rational.{ℚ, zero_ℚ}
use Rattle.rational.specs.Worked.{settle}
use Rattle.rational.proofs.Loops.{step_settles, step_stops, all_worked}
use Rattle.exact_frac.specs.Constants.{ratio-zero}
use Rattle.sparse_cols.specs.Sparse.{Sparse}
use Rattle.sparse_steps.proofs.Steps.{refused, item_read}
use Rattle.cert_check.specs.Sums.{added, entry_terms}
use Rattle.cert_check.proofs.Adding.{weighted-ends, weighted-next}
use Rattle.cert_check.proofs.sums.weighted.Goals as goal

pub loop-k-init : goal.loop-k-init
loop-k-init g c = record {
  width = refl;
  left = ap (λ (s : ℚ). settle (g.A.Arith.width c.args.arith.now) (added s (entry_terms c.args.y.now c.column-entries.result.now.pairs))) ratio-zero
      ∙ ap (λ (s : Sparse ℚ). settle (g.A.Arith.width c.args.arith.now) (added zero_ℚ (entry_terms c.args.y.now s.pairs))) c.column-entries.ensures;
  unfit = refl;
}

pub returns-in_err-sum-clause-settled : goal.returns-in_err-sum-clause-settled
returns-in_err-sum-clause-settled g c =
    let pairs = c.column-entries.result.now.pairs in
    let p = c.pair-i.result in
    let long : c.column-entries.result.now.length ≡ length c.args.deck.now.rows = ap (λ (s : Sparse ℚ). s.length) c.column-entries.ensures in
    let item = item_read c.args.y.now p.0 c.index-y-i.result (omega (arith, long, c.pair-i.ensures.row, c.requires.rows)) c.index-y-i.is in
    refused _ _ _ (λ x. x) (step_stops _ _ c.loop-k.invariant.width _ _ _ (weighted-next c.args.y.now pairs c.loop-k.k p (omega arith) c.pair-i.ensures.value c.loop-k.sum c.index-y-i.result item)
    _ c.loop-k.invariant.left c.in_err-sum.ensures.settled) c.from_residual.ensures.1

pub loop-k-preserved : goal.loop-k-preserved
loop-k-preserved g c =
    let pairs = c.column-entries.result.now.pairs in
    let p = c.pair-i.result in
    let long : c.column-entries.result.now.length ≡ length c.args.deck.now.rows = ap (λ (s : Sparse ℚ). s.length) c.column-entries.ensures in
    let item = item_read c.args.y.now p.0 c.index-y-i.result (omega (arith, long, c.pair-i.ensures.row, c.requires.rows)) c.index-y-i.is in
    record {
      width = c.more_product.ensures.width ∙ c.loop-k.invariant.width;
      left = step_settles _ _ c.loop-k.invariant.width _ _ _ (weighted-next c.args.y.now pairs c.loop-k.k p (omega arith) c.pair-i.ensures.value c.loop-k.sum c.index-y-i.result item)
          _ c.loop-k.invariant.left _ c.in_ok-sum.ensures.settled;
      unfit = c.in_ok-sum.ensures.unfit ∙ c.loop-k.invariant.unfit;
    }

pub returns-clause-settled : goal.returns-clause-settled
returns-clause-settled g c =
    all_worked _ _ _ _ (weighted-ends c.args.y.now c.column-entries.result.now.pairs c.loop-k.k c.loop-k.sum (omega arith)) c.loop-k.invariant.left

-- Each step works the product of the next item.
use Rattle.std.proofs.Common.{◌<◌, length, refl, ◌∙◌, ap, arith}
use Rattle.lp_model.specs.Deck.{entry}
use Rattle.exact_frac.specs.Constants.{ratio-zero}
use Rattle.rational.specs.Rational.{ℚ, zero_ℚ}
use Rattle.rational.specs.Sparse.{entry_at}
use Rattle.rational.specs.Sum.{at}
use Rattle.rational.specs.Worked.{settle}
use Rattle.rational.proofs.Loops.{step_settles, step_stops, all_worked}
use Rattle.sparse_cols.specs.Sparse.{Sparse}
use Rattle.sparse_steps.proofs.Steps.{refused, item_read}
use Rattle.cert_check.specs.Sums.{added}
use Rattle.cert_check.proofs.Adding.{added-ends, added-next, all_terms, left_terms}
use Rattle.cert_check.proofs.sums.activity.Goals as goal

pub loop-j-init : goal.loop-j-init
loop-j-init g c =
    let d = c.args.deck.now in
    record {
      width = refl;
      left = ap (λ (s : ℚ). settle (g.A.Arith.width c.args.arith.now) (added s (left_terms (λ j. (entry d c.args.row j, at c.args.v.now j))
          (length d.columns) 0))) ratio-zero ∙ ap (λ ts. settle (g.A.Arith.width c.args.arith.now) (added zero_ℚ ts))
          (all_terms (λ j. (entry d c.args.row j, at c.args.v.now j)) (length d.columns));
      unfit = refl;
    }

pub returns-in_err-sum-clause-settled : goal.returns-in_err-sum-clause-settled
returns-in_err-sum-clause-settled g c =
    let d = c.args.deck.now in
    let k = c.loop-j.j in
    let lt : k < length d.columns = omega (arith, c.columns-j-end.ensures.count) in
    let item = item_read c.args.v.now k c.index-v-j.result (omega (arith, c.requires)) c.index-v-j.is in
    refused _ _ _ (λ x. x) (step_stops _ _ c.loop-j.invariant.width _ _ _ (added-next (λ j. (entry d c.args.row j, at c.args.v.now j))
    (length d.columns) k lt c.loop-j.sum c.entry.result c.index-v-j.result (c.entry.ensures ∙ ap (λ (s : Sparse ℚ). entry_at s.pairs c.args.row) c.column.ensures) item)
    _ c.loop-j.invariant.left c.in_err-sum.ensures.settled) c.from_residual.ensures.1

pub loop-j-preserved : goal.loop-j-preserved
loop-j-preserved g c =
    let d = c.args.deck.now in
    let k = c.loop-j.j in
    let lt : k < length d.columns = omega (arith, c.columns-j-end.ensures.count) in
    let item = item_read c.args.v.now k c.index-v-j.result (omega (arith, c.requires)) c.index-v-j.is in
    record {
      width = c.more_product.ensures.width ∙ c.loop-j.invariant.width;
      left = step_settles _ _ c.loop-j.invariant.width _ _ _ (added-next (λ j. (entry d c.args.row j, at c.args.v.now j))
          (length d.columns) k lt c.loop-j.sum c.entry.result c.index-v-j.result (c.entry.ensures ∙ ap (λ (s : Sparse ℚ). entry_at s.pairs c.args.row) c.column.ensures) item)
          _ c.loop-j.invariant.left _ c.in_ok-sum.ensures.settled;
      unfit = c.in_ok-sum.ensures.unfit ∙ c.loop-j.invariant.unfit;
    }

pub returns-clause-settled : goal.returns-clause-settled
returns-clause-settled g c =
    let d = c.args.deck.now in
    all_worked _ _ _ _ (added-ends (λ j. (entry d c.args.row j, at c.args.v.now j)) (length d.columns) c.loop-j.j c.loop-j.sum (omega (arith, c.columns-j-end.ensures.count))) c.loop-j.invariant.left

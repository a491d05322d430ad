-- Each step takes the next product.
use Rattle.std.proofs.Common.{ℕ, ◌+◌, ◌<◌, length, length-drop, ◌∙◌, sym, subst, arith}
use Rattle.rational.specs.Rational.{ℚ}
use Rattle.rational.specs.Sum.{at}
use Rattle.rational.proofs.OrderLaws.{one_unless_zero-le}
use Rattle.rational.proofs.Loops.{step_settles, step_stops, all_worked}
use Rattle.sparse_steps.proofs.Steps.{refused, item_read}
use Rattle.ft_update.proofs.Steps.{less_parts, less_ends}
use Rattle.ft_update.proofs.multipliers.less_items.Goals as goal

pub returns-in_err-rest-clause-settled : goal.returns-in_err-rest-clause-settled
returns-in_err-rest-clause-settled g c =
    let ks = c.args.taken.now in
    let j = c.loop-row.row-index in
    let pair = c.loop-row-item.result in
    let lt : j < length ks = omega arith in
    let within : pair.0 < length c.args.v.now = subst (λ (q : ℕ × ℚ). q.0 < length c.args.v.now) (sym c.loop-row-item.is) (c.requires j pair lt) in
    let item = item_read c.args.v.now pair.0 c.index-v-row.result within c.index-v-row.is in
    refused _ _ _ (λ x. x) (step_stops _ _ c.loop-row.invariant.width _ _ _ (less_parts
    (at c.args.v.now) ks j pair c.loop-row.rest c.index-v-row.result lt c.loop-row-item.is item) _ c.loop-row.invariant.left c.in_err-rest.ensures.settled)
    c.from_residual.ensures.1

pub loop-row-preserved : goal.loop-row-preserved
loop-row-preserved g c =
    let ks = c.args.taken.now in
    let j = c.loop-row.row-index in
    let pair = c.loop-row-item.result in
    let lt : j < length ks = omega arith in
    let within : pair.0 < length c.args.v.now = subst (λ (q : ℕ × ℚ). q.0 < length c.args.v.now) (sym c.loop-row-item.is) (c.requires j pair lt) in
    let item = item_read c.args.v.now pair.0 c.index-v-row.result within c.index-v-row.is in
    record {
      width = c.in_ok-rest.ensures.width ∙ c.loop-row.invariant.width;
      left = step_settles _ _ c.loop-row.invariant.width _ _ _ (less_parts (at c.args.v.now) ks j pair c.loop-row.rest c.index-v-row.result lt
          c.loop-row-item.is item) _ c.loop-row.invariant.left _ c.in_ok-rest.ensures.settled;
      unfit = c.in_ok-rest.ensures.unfit ∙ c.loop-row.invariant.unfit;
      work = omega (arith, length-drop j ks, length-drop (j + 1) ks, one_unless_zero-le c.loop-row-item.result.1, c.in_ok-rest.ensures.work, c.loop-row.invariant.work);
    }

pub returns-in_err-rest-clause-work : goal.returns-in_err-rest-clause-work
returns-in_err-rest-clause-work g c =
    omega (arith, length-drop c.loop-row.row-index c.args.taken.now, one_unless_zero-le c.loop-row-item.result.1, c.in_err-rest.ensures.work, c.loop-row.invariant.work)

pub returns-clause-settled : goal.returns-clause-settled
returns-clause-settled g c =
    all_worked _ _ _ _ (less_ends (at c.args.v.now) c.args.taken.now c.loop-row.row-index c.loop-row.rest (omega arith)) c.loop-row.invariant.left

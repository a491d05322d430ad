-- Each step works the next pair of the column.
use Rattle.std.proofs.Common.{◌<◌, length, ◌∙◌, rules, arith}
use Rattle.rational.proofs.Loops.{step_settles, step_stops, all_worked}
use Rattle.sparse_steps.proofs.Steps.{refused, row_within, item_read, gather_parts, gather_ends}
use Rattle.sparse_steps.proofs.gather.Goals as goal

pub offset_bounds-v-i : goal.offset_bounds-v-i
offset_bounds-v-i g c =
    let column = c.args.column.now in
    let below : c.pair-i.result.0 < length c.args.v.now = omega (arith, row_within (length c.args.v.now) column.pairs c.loop-k.k c.pair-i.result c.requires (omega arith) c.pair-i.ensures.value) in
    search rules

pub bounds-v-i : goal.bounds-v-i
bounds-v-i g c =
    let column = c.args.column.now in
    omega (arith, row_within (length c.args.v.now) column.pairs c.loop-k.k c.pair-i.result c.requires (omega arith) c.pair-i.ensures.value)

pub returns-in_err-rest-clause-settled : goal.returns-in_err-rest-clause-settled
returns-in_err-rest-clause-settled g c =
    let column = c.args.column.now in
    let p = c.pair-i.result in
    let lt : c.loop-k.k < length column.pairs = omega arith in
    let below : p.0 < length c.args.v.now = omega (arith, row_within (length c.args.v.now) column.pairs c.loop-k.k p c.requires lt c.pair-i.ensures.value) in
    let item = item_read c.args.v.now p.0 c.index-v-i.result below c.index-v-i.is in
    refused _ _ _ (λ x. x) (step_stops _ _ c.loop-k.invariant.width _ _ _ (gather_parts column.pairs c.loop-k.k p lt c.pair-i.ensures.value c.args.skip
    c.args.v.now c.loop-k.rest c.index-v-i.result item)
    _ c.loop-k.invariant.left c.in_err-rest.ensures.settled) c.from_residual.ensures.1

pub loop-k-preserved : goal.loop-k-preserved
loop-k-preserved g c =
    let column = c.args.column.now in
    let p = c.pair-i.result in
    let lt : c.loop-k.k < length column.pairs = omega arith in
    let below : p.0 < length c.args.v.now = omega (arith, row_within (length c.args.v.now) column.pairs c.loop-k.k p c.requires lt c.pair-i.ensures.value) in
    let item = item_read c.args.v.now p.0 c.index-v-i.result below c.index-v-i.is in
    record {
      width = c.less_unless.ensures.width ∙ c.loop-k.invariant.width;
      left = step_settles _ _ c.loop-k.invariant.width _ _ _ (gather_parts column.pairs c.loop-k.k p lt c.pair-i.ensures.value c.args.skip c.args.v.now c.loop-k.rest c.index-v-i.result item)
          _ c.loop-k.invariant.left _ c.in_ok-rest.ensures.settled;
      unfit = c.in_ok-rest.ensures.unfit ∙ c.loop-k.invariant.unfit;
      work = omega arith;
    }

pub returns-clause-settled : goal.returns-clause-settled
returns-clause-settled g c =
    let column = c.args.column.now in
    all_worked _ _ _ _ (gather_ends column.pairs c.loop-k.k c.args.skip c.args.v.now c.loop-k.rest (omega arith)) c.loop-k.invariant.left

-- Each step takes the next column.
use Rattle.std.proofs.Common.{◌<◌, ◌≤◌, ◌∙◌, arith}
use Rattle.lp_run.specs.Instance.{column_count}
use Rattle.rational.proofs.Loops.{all_worked, step_settles, step_stops}
use Rattle.sparse_steps.proofs.Steps.{refused}
use Rattle.ranging.proofs.Rests.{rests_end, rests_more}
use Rattle.ranging.proofs.basic_values.put_left.Goals as goal

pub returns-in_err-take_rest-clause-settled : goal.returns-in_err-take_rest-clause-settled
returns-in_err-take_rest-clause-settled g c =
    let inst = c.args.inst.now in
    let below : c.loop-j.j < column_count inst = omega (arith, c.columns-j-end.ensures.count, c.loop-j-test.true) in
    refused _ _ _ (λ _. c.take_rest.new.out) (step_stops _ _ c.loop-j.invariant.width _ _ _ (rests_more inst c.args.state.now c.loop-j.j c.loop-j.out below) _ c.loop-j.invariant.left
    c.in_err-take_rest.ensures.settled) c.from_residual.ensures.1

pub loop-j-preserved : goal.loop-j-preserved
loop-j-preserved g c =
    let inst = c.args.inst.now in
    let known = c.loop-j.invariant in
    let below : c.loop-j.j < column_count inst = omega (arith, c.columns-j-end.ensures.count, c.loop-j-test.true) in
    record {
      width = c.take_rest.ensures.width ∙ known.width;
      unfit = c.in_ok-take_rest.ensures.unfit ∙ known.unfit;
      long = c.take_rest.auto.out ∙ known.long;
      left = step_settles _ _ known.width _ _ _ (rests_more inst c.args.state.now c.loop-j.j c.loop-j.out below) _ known.left _ c.in_ok-take_rest.ensures.settled;
    }

pub returns-clause-settled : goal.returns-clause-settled
returns-clause-settled g c =
    let inst = c.args.inst.now in
    let all : column_count inst ≤ c.loop-j.j = omega (arith, c.columns-j-end.ensures.count, c.loop-j-test.false) in
    all_worked _ _ _ _ (rests_end inst c.args.state.now c.loop-j.j c.loop-j.out all) c.loop-j.invariant.left

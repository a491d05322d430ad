-- Each step applies the next operation.
use Rattle.std.proofs.Common.{◌<◌, length, ◌∙◌, arith}
use Rattle.rational.proofs.Loops.{step_settles, step_stops, all_worked}
use Rattle.sparse_steps.proofs.Steps.{refused}
use Rattle.row_eta.proofs.Steps.{apply_parts, apply_ends, stored_parts}
use Rattle.row_eta.proofs.EtaFile.apply.Goals as goal

pub returns-in_err-operate-clause-settled : goal.returns-in_err-operate-clause-settled
returns-in_err-operate-clause-settled g c =
    let ops = c.deref-op-items.result.now in
    let lt : c.loop-op.op-index < length ops = omega arith in
    refused _ _ _ (λ _. c.operate.new.v) (step_stops _ _ c.loop-op.invariant.width _ _ _
    (apply_parts ops c.loop-op.op-index c.op-item.result lt c.op-item.is c.loop-op.v) _ c.loop-op.invariant.left c.in_err-operate.ensures.settled)
    c.from_residual.ensures.1

pub loop-op-preserved : goal.loop-op-preserved
loop-op-preserved g c =
    let ops = c.deref-op-items.result.now in
    let lt : c.loop-op.op-index < length ops = omega arith in
    record {
      width = c.operate.ensures.width ∙ c.loop-op.invariant.width;
      length = c.operate.auto.v ∙ c.loop-op.invariant.length;
      left = step_settles _ _ c.loop-op.invariant.width _ _ _ (apply_parts ops c.loop-op.op-index c.op-item.result lt c.op-item.is c.loop-op.v) _
          c.loop-op.invariant.left _ c.in_ok-operate.ensures.settled;
      unfit = c.in_ok-operate.ensures.unfit ∙ c.loop-op.invariant.unfit;
      work = omega (arith, stored_parts ops c.loop-op.op-index c.op-item.result lt c.op-item.is);
    }

pub returns-clause-settled : goal.returns-clause-settled
returns-clause-settled g c =
    all_worked _ _ _ _ (apply_ends c.deref-op-items.result.now c.loop-op.op-index c.loop-op.v (omega arith)) c.loop-op.invariant.left

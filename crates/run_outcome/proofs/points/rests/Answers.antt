use Rattle.std.proofs.Common.{◌∙◌, arith}
use Rattle.rational.proofs.VectorLaws.{list_of}
use Rattle.lp_run.specs.Instance.{structural_count}
use Rattle.lp_run.specs.State.{rest}
use Rattle.run_outcome.proofs.points.rests.Goals as goal

pub returns : goal.returns
returns c =
    let inst = c.args.inst.now in
    list_of (rest inst c.args.state.now) (structural_count inst) c.loop-j.x.items
    (c.loop-j.invariant.count ∙ omega arith) (λ k h. c.loop-j.invariant.each k (omega arith))

use Rattle.std.proofs.Common.{◌-◌, ◌∙◌, arith}
use Rattle.rational.specs.Sum.{at}
use Rattle.run_outcome.proofs.Shown.{passed_over}
use Rattle.run_outcome.proofs.points.place_basic.Goals as goal

-- the column of the position is not in the list
pub loop-p-preserved : goal.loop-p-preserved
loop-p-preserved c = record {
  count = c.loop-p.invariant.count;
  placed = λ j h. c.loop-p.invariant.placed j h
      ∙ passed_over c.args.state.now.basis c.args.numbers.now c.loop-p.p (c.loop-p.p - 1) j (at c.args.out.now j) (omega arith) (omega arith) (omega arith) (omega arith);
}

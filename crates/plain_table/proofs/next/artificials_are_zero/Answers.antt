use Rattle.std.proofs.Common.{◌≡◌}
use Rattle.rational.specs.Rational.{zero_ℚ}
use Rattle.rational.specs.Sum.{at}
use Rattle.lp_run.specs.State.{basic}
use Rattle.lp_run.specs.Step.{IsArtificial}
use Rattle.plain_table.proofs.Coming.{not_off}
use Rattle.plain_table.proofs.next.artificials_are_zero.Goals as goal
use borrow.Author.Count.{below_more}

pub loop-p-preserved : goal.loop-p-preserved
loop-p-preserved c =
    let inst = c.args.inst.now in
    below_more (λ p. IsArtificial inst (basic c.args.state.now p) → at c.args.values.now p ≡ zero_ℚ) c.loop-p.p c.loop-p.invariant
    (not_off inst c.args.state.now c.args.values.now c.loop-p.p c.is_needed.result c.is_needed.ensures c.if-is_needed.false)

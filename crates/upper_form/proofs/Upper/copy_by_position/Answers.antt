use Rattle.std.proofs.Common.{arith}
use Rattle.upper_form.proofs.Steps.{is_by_position}
use Rattle.upper_form.proofs.Upper.copy_by_position.Goals as goal

pub returns : goal.returns
returns c =
    is_by_position c.args.self.now c.args.rows.now c.loop-p.out (omega (arith, c.requires.length)) (λ k lt. c.loop-p.invariant k (omega (arith, c.requires.length)))

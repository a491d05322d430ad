use Rattle.std.proofs.Common.{arith}
use Rattle.rational.proofs.OrderLaws.{one_unless_zero-le}
use Rattle.sparse_steps.proofs.Steps.{left_out, not_left_out}
use Rattle.sparse_steps.proofs.less_unless.Goals as goal

pub returns-then-out-clause-settled : goal.returns-then-out-clause-settled
returns-then-out-clause-settled g c = left_out _ _ _ _ _ c.if-out.true

pub returns-clause-settled : goal.returns-clause-settled
returns-clause-settled g c = not_left_out _ _ _ _ _ _ c.if-out.false c.less_product.ensures.settled

pub returns-clause-work : goal.returns-clause-work
returns-clause-work g c = omega (arith, one_unless_zero-le c.args.a, c.less_product.ensures.work)

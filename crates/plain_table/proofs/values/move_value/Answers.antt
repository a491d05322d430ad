use Rattle.std.proofs.Common.{arith}
use Rattle.rational.proofs.OrderLaws.{one_unless_zero-le}
use Rattle.plain_table.proofs.Moves.{moved_down, moved_up, settles_as}
use Rattle.plain_table.proofs.values.move_value.Goals as goal

pub returns-then-down-clause-settled : goal.returns-then-down-clause-settled
returns-then-down-clause-settled g c = settles_as _ _ _ _ (moved_down _ _ _ _ c.if-down.true) c.more_product.ensures.settled

pub returns-else-down-clause-settled : goal.returns-else-down-clause-settled
returns-else-down-clause-settled g c = settles_as _ _ _ _ (moved_up _ _ _ _ c.if-down.false) c.less_product.ensures.settled

pub returns-then-down-clause-work : goal.returns-then-down-clause-work
returns-then-down-clause-work g c = omega (arith, one_unless_zero-le c.args.element, c.more_product.ensures.work)

pub returns-else-down-clause-work : goal.returns-else-down-clause-work
returns-else-down-clause-work g c = omega (arith, one_unless_zero-le c.args.element, c.less_product.ensures.work)

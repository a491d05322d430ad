use Rattle.plain_table.proofs.Moves.{settles_as, work_other, work_own}
use Rattle.plain_table.proofs.values.value_after.Goals as goal

pub returns-then-own-clause-settled : goal.returns-then-own-clause-settled
returns-then-own-clause-settled g c = settles_as _ _ _ _ (work_own _ _ _ _ _ _ c.if-own.true) c.enter.ensures.settled

pub returns-else-own-clause-settled : goal.returns-else-own-clause-settled
returns-else-own-clause-settled g c = settles_as _ _ _ _ (work_other _ _ _ _ _ _ c.if-own.false) c.move_value.ensures.settled

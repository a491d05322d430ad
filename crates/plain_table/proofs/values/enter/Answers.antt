use Rattle.plain_table.proofs.Moves.{entered_down, entered_up, exact_settles}
use Rattle.plain_table.proofs.values.enter.Goals as goal

pub returns-then-down-clause-settled : goal.returns-then-down-clause-settled
returns-then-down-clause-settled g c = exact_settles _ _ _ _ (entered_down _ _ _ c.if-down.true) c.sub.ensures.answer

pub returns-else-down-clause-settled : goal.returns-else-down-clause-settled
returns-else-down-clause-settled g c = exact_settles _ _ _ _ (entered_up _ _ _ c.if-down.false) c.add.ensures.answer

use Rattle.std.proofs.Common.{refl, subst, IfOk}
use Rattle.two_phase.specs.Inner.Plains.{TableReaches, TableStops}
use Rattle.two_phase.proofs.Plains.{overflow_first}
use Rattle.two_phase.proofs.plain.advance_on.Goals as goal

pub returns-in-Ok-Entry-clause-reached : goal.returns-in-Ok-Entry-clause-reached
returns-in-Ok-Entry-clause-reached g c =
    let a = c.args in
    subst (λ t. IfOk c.take_on.result (TableReaches (g.A.Arith.width a.arith.now) a.inst.now a.budget a.log.now t c.take_on.new.log c.take_on.new.table)) c.in-Ok-Entry.ensures.kept
    (subst (λ w. IfOk c.take_on.result (TableReaches w a.inst.now a.budget a.log.now c.next.new.self c.take_on.new.log c.take_on.new.table)) c.in-Ok-Entry.ensures.width c.take_on.ensures.reached)

pub returns-in-Ok-End-clause-reached : goal.returns-in-Ok-End-clause-reached
returns-in-Ok-End-clause-reached g c =
    (refl, c.in-Ok-End.ensures.kept, subst (λ t. TableStops c.args.inst.now t c.stop_of.result) c.in-Ok-End.ensures.kept c.stop_of.ensures)

pub returns-in-Err-clause-fault : goal.returns-in-Err-clause-fault
returns-in-Err-clause-fault g c = overflow_first _ c.args.inst.now c.args.log.now c.args.table.now c.requires.fitted c.in-Err.place c.in-Err.ensures.overflow

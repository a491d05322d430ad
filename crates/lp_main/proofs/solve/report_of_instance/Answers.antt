use Rattle.std.proofs.Common.{subst, sym, ◌∙◌}
use Rattle.bland_laws.proofs.OfDeck.{well_formed}
use Rattle.crew.specs.Answers.{HasClosed, IsCause}
use Rattle.lp_run.specs.Instance.{IsWellFormed}
use Rattle.crew.specs.Inner.Works.{IsCalmFault}
use Rattle.factor_run.specs.Calm.{IsCalm}
use Rattle.lp_main.specs.Inner.Solving.{IsReportCause}
use Rattle.lp_main.specs.declared.refusal.Refusal.TheVariants as refusal
use Rattle.lp_main.proofs.Reporting.{budget_cause, closed_run, overflow_cause, report_is, report_or_memory}
use Rattle.lp_main.proofs.Working.{bounded, for_all}
use Rattle.lp_main.proofs.solve.report_of_instance.Goals as goal

pub report_of_closed-requires-clause-formed : goal.report_of_closed-requires-clause-formed
report_of_closed-requires-clause-formed g c = subst IsWellFormed (sym c.requires.instance) (well_formed c.args.deck.now c.requires.deck)

pub report_of_closed-requires-clause-run : goal.report_of_closed-requires-clause-run
report_of_closed-requires-clause-run g c =
    closed_run c.args.inst.now c.in-Ok.closed _ (subst (λ i. HasClosed i c.args.asked.budget c.in-Ok.closed) (c.requires.shared ∙ sym c.requires.instance) c.in-Ok.ensures.solves)

pub returns-in-Ok-clause-report : goal.returns-in-Ok-clause-report
returns-in-Ok-clause-report g c =
    report_is c.args.deck.now c.requires.deck c.args.asked c.args.inst.now c.requires.instance c.in-Ok.closed
    (subst (λ i. HasClosed i c.args.asked.budget c.in-Ok.closed) (c.requires.shared ∙ sym c.requires.instance) c.in-Ok.ensures.solves) c.report_of_closed.result c.report_of_closed.ensures

pub returns-in-Ok-clause-cause : goal.returns-in-Ok-clause-cause
returns-in-Ok-clause-cause g c = report_or_memory c.args.asked c.args.inst.now c.in-Ok.closed (g.A.Arith.width c.args.arith.now) c.args.deck.now c.report_of_closed.result c.report_of_closed.ensures

pub returns-in-Err-Overflow-clause-cause : goal.returns-in-Err-Overflow-clause-cause
returns-in-Err-Overflow-clause-cause g c =
    let w = g.A.Arith.width c.args.arith.now in
    let d = c.args.deck.now in
    let asked = c.args.asked in
    let inst = c.args.shared.value in
    subst (λ here. IsReportCause asked w d (refusal.Overflow here)) (sym c.in-Err-Overflow.place-is)
    (overflow_cause d c.requires.deck asked w inst c.requires.shared c.in-Err-Overflow.place
    (subst (IsCause w inst asked.budget) c.in-Err-Overflow.field-0-is c.in-Err-Overflow.ensures.solves)
    (λ calm. subst IsCalmFault c.in-Err-Overflow.field-0-is (c.in-Err-Overflow.ensures.calm calm).1))

pub returns-in-Err-Budget-clause-cause : goal.returns-in-Err-Budget-clause-cause
returns-in-Err-Budget-clause-cause g c =
    let w = g.A.Arith.width c.args.arith.now in
    let d = c.args.deck.now in
    let asked = c.args.asked in
    let inst = c.args.shared.value in
    subst (λ n. IsReportCause asked w d (refusal.Budget n)) (sym c.in-Err-Budget.moves-is)
    (budget_cause d c.requires.deck asked w inst c.requires.shared c.in-Err-Budget.moves
    (subst (IsCause w inst asked.budget) c.in-Err-Budget.field-0-is c.in-Err-Budget.ensures.solves))

pub returns-in-Ok-clause-calm : goal.returns-in-Ok-clause-calm
returns-in-Ok-clause-calm g c calm = (c.run.ensures.calm (subst (IsCalm (g.A.Arith.width c.args.arith.now)) (sym c.requires.shared) calm)).0

pub returns-in-Err-Overflow-clause-calm : goal.returns-in-Err-Overflow-clause-calm
returns-in-Err-Overflow-clause-calm g c calm = (c.run.ensures.calm (subst (IsCalm (g.A.Arith.width c.args.arith.now)) (sym c.requires.shared) calm)).0

pub returns-in-Err-Budget-clause-calm : goal.returns-in-Err-Budget-clause-calm
returns-in-Err-Budget-clause-calm g c calm = (c.run.ensures.calm (subst (IsCalm (g.A.Arith.width c.args.arith.now)) (sym c.requires.shared) calm)).0

pub returns-in-Err-Memory-clause-calm : goal.returns-in-Err-Memory-clause-calm
returns-in-Err-Memory-clause-calm g c calm = (c.run.ensures.calm (subst (IsCalm (g.A.Arith.width c.args.arith.now)) (sym c.requires.shared) calm)).0

pub returns-in-Ok-clause-work : goal.returns-in-Ok-clause-work
returns-in-Ok-clause-work g c alone calm =
    for_all c.report_of_closed.result
    (bounded (g.A.Arith.width c.args.arith.now) c.args.deck.now c.args.shared.value c.requires.shared c.in-Ok.closed c.args.asked.budget c.in-Ok.ensures.solves
    (g.A.Arith.work_count c.args.arith.now) (g.A.Arith.work_count c.run.new.arith) (c.in-Ok.ensures.work alone) calm)

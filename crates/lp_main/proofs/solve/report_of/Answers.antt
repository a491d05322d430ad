-- The start sums and the solve, counted together.
use Rattle.std.proofs.Common.{sym, ◌∙◌, subst}
use Rattle.lp_run.specs.Instance.{instance_of}
use Rattle.factor_run.specs.Calm.{IsCalm}
use Rattle.instance_model.specs.Making.{Refuses}
use Rattle.two_phase.proofs.Grounds.{if_ok}
use Rattle.lp_main.specs.declared.refusal.Refusal.TheVariants as refusal
use Rattle.lp_main.specs.Inner.Solving.{IsReportCause}
use Rattle.lp_main.proofs.Reporting.{start_cause}
use Rattle.lp_main.proofs.Working.{start_not_calm, with_start}
use Rattle.lp_main.proofs.solve.report_of.Goals as goal

pub returns-in-Ok-clause-calm : goal.returns-in-Ok-clause-calm
returns-in-Ok-clause-calm g c calm =
    c.report_of_shared.ensures.calm (subst (λ w. IsCalm w (instance_of c.args.deck.now)) (sym c.of.ensures.width) calm) ∙ c.in-Ok.ensures.unfit

pub returns-in-Ok-clause-work : goal.returns-in-Ok-clause-work
returns-in-Ok-clause-work g c alone calm =
    if_ok c.report_of_shared.result
    (λ report bound. with_start c.args.deck.now (g.A.Arith.work_count c.args.arith.now) (g.A.Arith.work_count c.of.new.arith) (g.A.Arith.work_count c.report_of_shared.new.arith)
    c.of.ensures.work bound)
    (c.report_of_shared.ensures.work alone (subst (λ w. IsCalm w (instance_of c.args.deck.now)) (sym c.of.ensures.width) calm))

pub returns-in-Err-Overflow-clause-calm : goal.returns-in-Err-Overflow-clause-calm
returns-in-Err-Overflow-clause-calm g c calm =
    let w = g.A.Arith.width c.args.arith.now in
    let d = c.args.deck.now in
    absurd (start_not_calm w d c.in-Err-Overflow.place (subst (Refuses w d) c.in-Err-Overflow.field-0-is c.in-Err-Overflow.ensures.made) calm)

pub returns-in-Err-Overflow-clause-cause : goal.returns-in-Err-Overflow-clause-cause
returns-in-Err-Overflow-clause-cause g c =
    let w = g.A.Arith.width c.args.arith.now in
    let d = c.args.deck.now in
    let asked = c.args.asked in
    subst (λ here. IsReportCause asked w d (refusal.Overflow here)) (sym c.in-Err-Overflow.place-is)
    (start_cause d c.rows-rows.ensures.deck asked w c.in-Err-Overflow.place (subst (Refuses w d) c.in-Err-Overflow.field-0-is c.in-Err-Overflow.ensures.made))

-- The instance is that of the deck.
use Rattle.std.proofs.Common.{IfErr, IfOk, Some, sym, ◌∙◌, ap, subst}
use Rattle.lp_run.specs.Instance.{instance_of}
use Rattle.plain_table.proofs.Coming.{handed_on}
use Rattle.run_audit.specs.Answers.{IsAuditCause}
use Rattle.run_audit.specs.Judged.{Judged}
use Rattle.run_audit.proofs.Answering.{cause_on, instance_cause, proved_on}
use Rattle.run_audit.proofs.judging.audit.Goals as goal

pub returns-in_err-inst-clause-fault : goal.returns-in_err-inst-clause-fault
returns-in_err-inst-clause-fault g c =
    let w = g.A.Arith.width c.args.arith.now in
    let d = c.args.deck.now in
    let r = c.args.report.now in
    handed_on _ (IsAuditCause w (instance_of d) r) c.from_residual.ensures.1
    (instance_cause w d c.rows-rows.ensures.deck r c.in-Some.log (sym (ap (λ r. r.log) c.report.view_is) ∙ c.in-Some.is) c.in_err-inst.field-0.0 c.in_err-inst.ensures.made)

pub returns-clause-judged : goal.returns-clause-judged
returns-clause-judged g c =
    subst (λ inst. IfOk c.audit_log.result (Judged inst c.args.report.now)) c.in_ok-inst.ensures.made.0 c.audit_log.ensures.judged

pub returns-clause-fault : goal.returns-clause-fault
returns-clause-fault g c =
    let r = c.args.report.now in
    subst (λ inst. IfErr c.audit_log.result (IsAuditCause (g.A.Arith.width c.args.arith.now) inst r)) c.in_ok-inst.ensures.made.0
    (subst (λ w. IfErr c.audit_log.result (IsAuditCause w c.in_ok-inst.inst r)) c.in_ok-inst.ensures.width
    (cause_on (g.A.Arith.width c.of.new.arith) c.in_ok-inst.inst r c.entries.result.now c.audit_log.result
    (sym (ap (λ r. r.log) c.report.view_is) ∙ c.in-Some.is ∙ ap Some (sym c.entries.ensures)) c.audit_log.ensures.fault))

pub returns-clause-proved : goal.returns-clause-proved
returns-clause-proved g c =
    proved_on c.args.deck.now c.rows-rows.ensures.deck c.args.report.now c.audit_log.result
    (subst (λ inst. IfOk c.audit_log.result (Judged inst c.args.report.now)) c.in_ok-inst.ensures.made.0 c.audit_log.ensures.judged)

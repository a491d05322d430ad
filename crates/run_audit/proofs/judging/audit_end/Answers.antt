-- The end of the log is that of the run.
use Rattle.std.proofs.Common.{List, sym, ap, subst}
use Rattle.lp_run.specs.Ends.{Yields}
use Rattle.lp_run.specs.Listing.{AllFit, Listed}
use Rattle.run_audit.specs.Inner.Parts.{IsAlongCause, TotalOverflows}
use Rattle.run_audit.specs.Works.{TotalLists}
use Rattle.plain_table.proofs.Coming.{handed_on}
use Rattle.run_audit.proofs.Along.{end_is_final, fails}
use Rattle.run_audit.proofs.Answering.{report_fits, report_overflows}
use Rattle.run_audit.proofs.judging.audit_end.Goals as goal

pub returns-in_err-is_outcome-clause-fault : goal.returns-in_err-is_outcome-clause-fault
returns-in_err-is_outcome-clause-fault g c =
    let w = g.A.Arith.width c.args.arith.now in
    let inst = c.args.inst.now in
    let log = c.args.entries.now in
    let o = c.args.report.now.outcome in
    handed_on _ (IsAlongCause w inst log o) c.from_residual.ensures.1
    (report_overflows w inst log c.args.table.now c.args.end c.requires.follows c.requires.ends c.requires.tested o c.in_err-is_outcome.field-0.0
    (subst (λ o. TotalOverflows w inst c.args.table.now.number c.args.table.now.state o c.in_err-is_outcome.field-0.0) (ap (λ r. r.outcome) c.report.view_is) c.in_err-is_outcome.ensures.fault))

pub returns-then-not-branch-clause-judged : goal.returns-then-not-branch-clause-judged
returns-then-not-branch-clause-judged g c =
    let t = c.args.table.now in (
      c.args.entries.now,
      t.state,
      c.requires.log,
      (c.requires.follows.0.table.reached, end_is_final c.args.inst.now t c.args.end c.requires.ends),
      λ h. fails c.in_ok-is_outcome.field-0 c.if-not-branch.true (c.in_ok-is_outcome.ensures.outcome.1 (subst (Yields c.args.inst.now t.state) (sym (ap (λ r. r.outcome) c.report.view_is)) h)),
    )

pub returns-then-not-branch-clause-fits : goal.returns-then-not-branch-clause-fits
returns-then-not-branch-clause-fits g c =
    let (vs, lists, fits) = report_fits (g.A.Arith.width c.args.arith.now) c.args.inst.now c.args.entries.now c.args.table.now c.args.end c.requires.follows c.requires.ends c.requires.tested
    c.args.report.now.outcome
    (subst (λ o. (vs : List Listed) × TotalLists c.args.inst.now c.args.table.now.number c.args.table.now.state o vs × AllFit (g.A.Arith.width c.args.arith.now) vs)
    (ap (λ r. r.outcome) c.report.view_is) c.in_ok-is_outcome.ensures.totals) in
    (vs, (c.args.entries.now, c.requires.log, lists), fits)

pub returns-then-not-branch-2-clause-fits : goal.returns-then-not-branch-2-clause-fits
returns-then-not-branch-2-clause-fits g c =
    let (vs, lists, fits) = report_fits (g.A.Arith.width c.args.arith.now) c.args.inst.now c.args.entries.now c.args.table.now c.args.end c.requires.follows c.requires.ends c.requires.tested
    c.args.report.now.outcome
    (subst (λ o. (vs : List Listed) × TotalLists c.args.inst.now c.args.table.now.number c.args.table.now.state o vs × AllFit (g.A.Arith.width c.args.arith.now) vs)
    (ap (λ r. r.outcome) c.report.view_is) c.in_ok-is_outcome.ensures.totals) in
    (vs, (c.args.entries.now, c.requires.log, lists), fits)

pub returns-clause-fits : goal.returns-clause-fits
returns-clause-fits g c =
    let (vs, lists, fits) = report_fits (g.A.Arith.width c.args.arith.now) c.args.inst.now c.args.entries.now c.args.table.now c.args.end c.requires.follows c.requires.ends c.requires.tested
    c.args.report.now.outcome
    (subst (λ o. (vs : List Listed) × TotalLists c.args.inst.now c.args.table.now.number c.args.table.now.state o vs × AllFit (g.A.Arith.width c.args.arith.now) vs)
    (ap (λ r. r.outcome) c.report.view_is) c.in_ok-is_outcome.ensures.totals) in
    (vs, (c.args.entries.now, c.requires.log, lists), fits)

use Rattle.run_audit.specs.Inner.Parts.{IsAlongCause}
use Rattle.plain_table.proofs.Coming.{handed_on}
use Rattle.run_audit.proofs.Answering.{start_overflows}
use Rattle.run_audit.proofs.judging.audit_log.Goals as goal

pub returns-in_err-table-clause-fault : goal.returns-in_err-table-clause-fault
returns-in_err-table-clause-fault g c =
    let w = g.A.Arith.width c.args.arith.now in
    let inst = c.args.inst.now in
    let log = c.args.entries.now in
    let o = c.args.report.now.outcome in
    handed_on _ (IsAlongCause w inst log o) c.from_residual.ensures.1 (start_overflows w inst c.requires.well_formed log o c.in_err-table.field-0.0 c.requires.fits c.in_err-table.ensures.made)

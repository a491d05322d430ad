use Rattle.std.proofs.Common.{subst, sym}
use Rattle.ranging.specs.Inner.Found.{AreWorked, IsTableFault}
use Rattle.ranging.proofs.Tables.{refused_told}
use Rattle.ranging.proofs.table.over_table.Goals as goal

pub returns-in_ok-by_rows-in-Ok-clause-worked : goal.returns-in_ok-by_rows-in-Ok-clause-worked
returns-in_ok-by_rows-in-Ok-clause-worked g c =
    let inst = c.args.inst.now in
    let stands = c.in-Ok.ensures.made.0 in (
      c.in-Ok.table.state,
      stands.table.reached,
      subst (λ v. AreWorked v inst c.in-Ok.table.state c.in_ok-by_rows-in-Ok.field-0) c.in-Ok.ensures.width c.in_ok-by_rows-in-Ok.ensures.worked,
    )

pub returns-in-Err-clause-fault : goal.returns-in-Err-clause-fault
returns-in-Err-clause-fault g c =
    let inst = c.args.inst.now in
    let log = c.args.log.now in
    let before = g.A.Arith.unfit_count c.args.arith.now in
    let after = g.A.Arith.unfit_count c.replay.new.arith in
    subst (IsTableFault (g.A.Arith.width c.args.arith.now) inst log before after) (sym c.range_fault.ensures)
    (refused_told (g.A.Arith.width c.args.arith.now) inst c.rows.ensures.well_formed c.requires.fits log c.requires.run.0 c.requires.run.1 before after c.in-Err.fault c.in-Err.ensures.made c.in-Err.ensures.unfit)

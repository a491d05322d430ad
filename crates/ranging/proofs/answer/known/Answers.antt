use Rattle.std.proofs.Common.{subst}
use Rattle.std.specs.Prelude.{IfErr}
use Rattle.basis_solves.specs.Refusals.{Explains}
use Rattle.ranging.specs.Causes.{IsRangeCause}
use Rattle.ranging.specs.Inner.Found.{GivesUpAt, IsTableFault}
use Rattle.ranging.proofs.Answering.{on_err, table_caused}
use Rattle.ranging.proofs.answer.known.Goals as goal

pub returns-in-Err-Unfit-clause-cause : goal.returns-in-Err-Unfit-clause-cause
returns-in-Err-Unfit-clause-cause g c =
    let inst = c.args.inst.now in
    let log = c.args.log.now in
    let w = g.A.Arith.width c.args.arith.now in
    let before = g.A.Arith.unfit_count c.args.arith.now in
    let mid = g.A.Arith.unfit_count c.over_factors.new.arith in
    let after = g.A.Arith.unfit_count c.over_table.new.arith in
    let gives = subst (Explains (GivesUpAt w inst log)) c.in-Err-Unfit.field-0-is c.in-Err-Unfit.ensures.refusal in
    on_err c.over_table.result (IsTableFault w inst log mid after) (IsRangeCause w inst log before after) (table_caused w inst log before mid after c.over_factors.ensures.unfit gives)
    (subst (λ v. IfErr c.over_table.result (IsTableFault v inst log mid after)) c.over_factors.ensures.width c.over_table.ensures.fault)

use Rattle.std.proofs.Common.{subst}
use Rattle.crew.proofs.Calms.{absorbed_rose, start_rose}
use Rattle.two_phase.specs.Board.{IsStartCause}
use Rattle.crew.proofs.Rounds.{start_fault}
use Rattle.crew.proofs.driving.solve.Goals as goal

pub returns-in-Err-clause-solves : goal.returns-in-Err-clause-solves
returns-in-Err-clause-solves g c =
    let inst = c.args.inst.value in
    let used = g.A.Arith.unfit_count c.in-Err.field-0.arith in
    let before = g.A.Arith.unfit_count c.fresh.result in
    start_fault (g.A.Arith.width c.args.arith.now) inst before used c.args.budget c.in-Err.field-0.fault c.fault_of.result
    (subst (λ w. IsStartCause w inst before used c.in-Err.field-0.fault) c.fresh.ensures.same_width c.in-Err.ensures.fault) c.fault_of.ensures

pub returns-in-Err-clause-rose : goal.returns-in-Err-clause-rose
returns-in-Err-clause-rose g c =
    let inst = c.args.inst.value in
    let used = g.A.Arith.unfit_count c.in-Err.field-0.arith in
    let before = g.A.Arith.unfit_count c.fresh.result in
    absorbed_rose before used (g.A.Arith.unfit_count c.args.arith.now) _ c.fault_of.result
    (start_rose (g.A.Arith.width c.fresh.result) inst before used c.in-Err.field-0.fault c.fault_of.result c.in-Err.ensures.fault c.fault_of.ensures) c.absorb.ensures.unfit

use Rattle.plain_table.proofs.Coming.{handed_on}
use Rattle.ranging.specs.Causes.{IsMemory, IsRangeCause}
use Rattle.ranging.proofs.Answering.{cause_told, on_err, only_memory, ranges_told}
use Rattle.ranging.proofs.answer.ranges.Goals as goal

pub returns-in_err-limits-clause-complete : goal.returns-in_err-limits-clause-complete
returns-in_err-limits-clause-complete g c fits ranges =
    handed_on c.from_residual.result IsMemory c.from_residual.ensures.1
    (only_memory (g.A.Arith.width c.args.arith.now) c.args.inst.now fits c.args.log.now _ _ ranges c.in_err-limits.field-0.0 c.in_err-limits.ensures.cause)

pub returns-clause-ranges : goal.returns-clause-ranges
returns-clause-ranges g c =
    ranges_told (g.A.Arith.width c.args.arith.now) c.args.inst.now c.rows.ensures.well_formed c.args.log.now c.requires.optimum c.in_ok-limits.limits c.in_ok-limits.ensures.worked
    c.complete.result c.complete.ensures

pub returns-clause-cause : goal.returns-clause-cause
returns-clause-cause g c =
    cause_told (g.A.Arith.width c.args.arith.now) c.args.inst.now c.rows.ensures.well_formed c.args.log.now c.requires.optimum c.in_ok-limits.limits c.in_ok-limits.ensures.worked
    (g.A.Arith.unfit_count c.args.arith.now) (g.A.Arith.unfit_count c.known.new.arith) c.in_ok-limits.ensures.rose c.complete.result c.complete.ensures

pub returns-clause-complete : goal.returns-clause-complete
returns-clause-complete g c fits ranges =
    let w = g.A.Arith.width c.args.arith.now in
    let before = g.A.Arith.unfit_count c.args.arith.now in
    let after = g.A.Arith.unfit_count c.known.new.arith in
    on_err c.complete.result (IsRangeCause w c.args.inst.now c.args.log.now before after) IsMemory (only_memory w c.args.inst.now fits c.args.log.now before after ranges)
    (cause_told w c.args.inst.now c.rows.ensures.well_formed c.args.log.now c.requires.optimum c.in_ok-limits.limits c.in_ok-limits.ensures.worked before after
    c.in_ok-limits.ensures.rose c.complete.result c.complete.ensures)

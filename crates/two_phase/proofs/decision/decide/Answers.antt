use Rattle.std.proofs.Common.{◌≤◌, arith}
use Rattle.lp_run.specs.Instance.{row_count}
use Rattle.bland_ratio.specs.Entries.{column_entries}
use Rattle.bland_ratio.proofs.Counting.{column-few}
use Rattle.two_phase.proofs.Deciding.{decided, undecided}
use Rattle.two_phase.proofs.decision.decide.Goals as goal

pub returns-in-Ok-clause-decided : goal.returns-in-Ok-clause-decided
returns-in-Ok-clause-decided g c =
    let a = c.args in
    decided a.inst.now c.requires.well_formed a.state.now a.values.now a.prices.now a.alpha.now a.q c.requires.column _ c.phase.result c.phase.ensures c.in_ok-cost.cost
    c.in_ok-cost.ensures.settled c.falls-down.result c.falls-down.ensures c.in-Ok.leave c.in-Ok.ensures.decides

pub returns-in-Err-clause-undecided : goal.returns-in-Err-clause-undecided
returns-in-Err-clause-undecided g c =
    let a = c.args in
    undecided a.inst.now c.requires.well_formed a.state.now a.values.now a.prices.now a.alpha.now a.q c.requires.column _ c.phase.result c.phase.ensures c.in_ok-cost.cost
    c.in_ok-cost.ensures.settled c.falls-down.result c.falls-down.ensures _ c.price.ensures.width c.in-Err.field-0 c.in-Err.ensures.unfit

pub returns-in_err-cost-clause-work : goal.returns-in_err-cost-clause-work
returns-in_err-cost-clause-work g c =
    let few : column_entries c.args.inst.now c.args.q ≤ row_count c.args.inst.now = column-few c.args.inst.now c.requires.well_formed c.args.q c.requires.column in
    omega (arith, few, c.in_err-cost.ensures.work)

pub returns-in-Ok-clause-work : goal.returns-in-Ok-clause-work
returns-in-Ok-clause-work g c =
    let few : column_entries c.args.inst.now c.args.q ≤ row_count c.args.inst.now = column-few c.args.inst.now c.requires.well_formed c.args.q c.requires.column in
    omega (arith, few, c.in_ok-cost.ensures.work, c.in-Ok.ensures.work)

pub returns-in-Err-clause-work : goal.returns-in-Err-clause-work
returns-in-Err-clause-work g c =
    let few : column_entries c.args.inst.now c.args.q ≤ row_count c.args.inst.now = column-few c.args.inst.now c.requires.well_formed c.args.q c.requires.column in
    omega (arith, few, c.in_ok-cost.ensures.work, c.in-Err.ensures.work)

-- The value takes the sign of the artificial where it is needed.
use Rattle.std.proofs.Common.{◌≡◌, Some, None}
use Rattle.lp_model.specs.declared.Side.TheVariants as side
use Rattle.lp_run.specs.Instance.{passed_side}
use Rattle.plain_table.proofs.StartValues.{value_lower, value_stays, value_upper}
use Rattle.plain_table.proofs.start_values.basic_start.Goals as goal

pub returns-in-Some-Lower-clause-value : goal.returns-in-Some-Lower-clause-value
returns-in-Some-Lower-clause-value g c =
    let passes : passed_side c.args.inst.now c.args.row ≡ Some side.Lower = cc (c.passed.ensures, c.in-Some-Lower.is, c.in-Some-Lower.field-0-is) in
    value_lower c.args.inst.now c.requires.well_formed c.args.row c.requires.row c.left_beside.result c.negated.result passes c.negated.ensures c.left_beside.ensures.difference

pub returns-in-Some-Upper-clause-value : goal.returns-in-Some-Upper-clause-value
returns-in-Some-Upper-clause-value g c =
    let passes : passed_side c.args.inst.now c.args.row ≡ Some side.Upper = cc (c.passed.ensures, c.in-Some-Upper.is, c.in-Some-Upper.field-0-is) in
    value_upper c.args.inst.now c.requires.well_formed c.args.row c.requires.row c.left_beside-in-Some-Upper.result passes c.left_beside-in-Some-Upper.ensures.difference

pub returns-in-None-clause-value : goal.returns-in-None-clause-value
returns-in-None-clause-value g c =
    let passes : passed_side c.args.inst.now c.args.row ≡ None = cc (c.passed.ensures, c.in-None.is) in
    value_stays c.args.inst.now c.requires.well_formed c.args.row c.requires.row c.fitting_residual-residual.result passes c.fitting_residual-residual.ensures.residual

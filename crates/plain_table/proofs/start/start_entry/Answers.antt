-- The sign of an artificial that is needed.
use Rattle.std.proofs.Common.{◌≡◌, Some, ◌∙◌, ap}
use Rattle.lp_model.specs.declared.Side.TheVariants as side
use Rattle.rational.specs.Rational.{neg_ℚ}
use Rattle.lp_run.specs.Instance.{passed_side}
use Rattle.plain_table.proofs.Residuals.{start_lower, start_upper}
use Rattle.plain_table.proofs.start.start_entry.Goals as goal

pub returns-in-Some-Lower : goal.returns-in-Some-Lower
returns-in-Some-Lower c =
    let passes : passed_side c.args.inst.now c.args.row ≡ Some side.Lower = cc (c.passed.ensures, c.in-Some-Lower.is, c.in-Some-Lower.field-0-is) in
    c.negated.ensures ∙ ap (λ a. neg_ℚ a) c.coefficient-entry.ensures ∙ start_lower c.args.inst.now c.args.row c.args.column passes

pub returns-in-Some-Upper : goal.returns-in-Some-Upper
returns-in-Some-Upper c =
    let passes : passed_side c.args.inst.now c.args.row ≡ Some side.Upper = cc (c.passed.ensures, c.in-Some-Upper.is, c.in-Some-Upper.field-0-is) in
    c.coefficient-entry.ensures ∙ start_upper c.args.inst.now c.args.row c.args.column passes

-- How far the residual passes an end is the one value.
use Rattle.std.proofs.Common.{Some, sym, ◌∙◌, ap}
use Rattle.std.specs.Option.{option_map}
use Rattle.lp_model.specs.declared.Side.{Side}
use Rattle.rational.specs.Rational.{ℚ, ◌-ℚ◌}
use Rattle.instance_model.proofs.Sums.{value_fits, value_unfit}
use Rattle.instance_model.proofs.start_sums.passed_side.Goals as goal

pub returns-in-Ok-clause-answer : goal.returns-in-Ok-clause-answer
returns-in-Ok-clause-answer g c =
    value_fits _ _ _ _ (ap (option_map (λ (passed : Side × ℚ). c.args.rest -ℚ passed.1)) (sym c.in-Some.ensures)) c.in-Ok.ensures.answer.1

pub returns-in-Err-clause-answer : goal.returns-in-Err-clause-answer
returns-in-Err-clause-answer g c =
    value_unfit _ _ _ _ (ap (option_map (λ (passed : Side × ℚ). c.args.rest -ℚ passed.1)) (sym c.in-Some.ensures)) c.in-Err.ensures.answer
    ∙ ap Some (sym c.row_place.ensures)

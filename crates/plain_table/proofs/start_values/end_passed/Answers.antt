-- The logical rests at the end that is passed.
use Rattle.std.proofs.Common.{◌≡◌, ◌+◌, Option, Some, ◌∙◌, ap, ap₂}
use Rattle.lp_model.specs.Deck.{Interval}
use Rattle.lp_model.specs.declared.Phase.TheVariants.{One}
use Rattle.lp_model.specs.declared.Side.TheVariants as side
use Rattle.rational.specs.Rational.{ℚ}
use Rattle.std.specs.Option.{unwrap_or}
use Rattle.exact_frac.specs.Constants.{ratio-zero}
use Rattle.lp_run.specs.Instance.{bounds, passed_side}
use Rattle.plain_table.proofs.StartValues.{rest_lower, rest_upper}
use Rattle.plain_table.proofs.start_values.end_passed.Goals as goal

pub returns-in-Lower : goal.returns-in-Lower
returns-in-Lower c =
    let there = c.bounds-bounds.ensures ∙ ap (λ n. bounds c.args.inst.now One (n + c.args.row)) c.structurals.ensures.count in
    let passes : passed_side c.args.inst.now c.args.row ≡ Some side.Lower = cc (c.requires.side, c.in-Lower.is) in
    rest_lower c.args.inst.now c.requires.well_formed c.args.row c.requires.row c.unwrap_or.result passes
    (c.unwrap_or.ensures
    ∙ ap₂ (λ (o : Option ℚ) (z : ℚ). unwrap_or o z) (c.lower.ensures ∙ ap (λ (ends : Interval). ends.lower) there) ratio-zero)

pub returns-in-Upper : goal.returns-in-Upper
returns-in-Upper c =
    let there = c.bounds-bounds.ensures ∙ ap (λ n. bounds c.args.inst.now One (n + c.args.row)) c.structurals.ensures.count in
    let passes : passed_side c.args.inst.now c.args.row ≡ Some side.Upper = cc (c.requires.side, c.in-Upper.is) in
    rest_upper c.args.inst.now c.requires.well_formed c.args.row c.requires.row c.unwrap_or-in-Upper.result passes
    (c.unwrap_or-in-Upper.ensures
    ∙ ap₂ (λ (o : Option ℚ) (z : ℚ). unwrap_or o z) (c.upper.ensures ∙ ap (λ (ends : Interval). ends.upper) there) ratio-zero)

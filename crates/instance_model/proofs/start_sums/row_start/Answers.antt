-- The row's start sums are its products, then how far the residual passes an end, then the range sum.
use Rattle.std.proofs.Common.{◌≡◌, Option, Some, ap₂, subst, ◌∙◌}
use Rattle.lp_model.specs.declared.Side.{Side}
use Rattle.lp_model.specs.Deck.{row}
use Rattle.rational.specs.Rational.{ℚ}
use Rattle.lp_run.specs.Instance.{range_sum}
use Rattle.lp_run.specs.Listing.{AllFit, first_unfit, listed_at}
use Rattle.instance_model.specs.Inner.Starts.{excess_listing, row_place}
use Rattle.instance_model.specs.declared.start_sums.RowStart.{RowStart}
use Rattle.instance_model.proofs.Sums.{refused, row_fits, side_is, stops_at_excess, stops_at_product, stops_at_range}
use Rattle.instance_model.proofs.start_sums.row_start.Goals as goal

pub returns-clause-answer : goal.returns-clause-answer
returns-clause-answer g c =
    let d = c.args.deck.now in
    let i = c.args.row in
    let second = subst (λ w. AllFit w (excess_listing i c.logical_bounds.result c.in_ok-rest.rest)) c.in_ok-rest.ensures.width c.in_ok-passed.ensures.answer in
    let third = subst (λ w. AllFit w (listed_at (row_place i) (range_sum (row d i)))) (c.in_ok-passed.ensures.width ∙ c.in_ok-rest.ensures.width) c.in_ok-range_sum.ensures.answer in
    row_fits d i c.requires.row (g.A.Arith.width c.args.arith.now) c.logical_bounds.result c.in_ok-rest.rest c.logical_bounds.ensures c.in_ok-rest.ensures.value c.in_ok-rest.ensures.answer
    second third

pub returns-clause-value : goal.returns-clause-value
returns-clause-value g c =
    let d = c.args.deck.now in
    let i = c.args.row in
    let start : Option Side → Option ℚ → RowStart = λ p s. record { passed = p; range_sum = s } in
    ap₂ start
    (c.in_ok-passed.ensures.value
    ∙ side_is d i c.requires.row (g.A.Arith.width c.args.arith.now) c.logical_bounds.result c.in_ok-rest.rest c.logical_bounds.ensures c.in_ok-rest.ensures.value)
    c.in_ok-range_sum.ensures.value

pub returns-in_err-rest-clause-answer : goal.returns-in_err-rest-clause-answer
returns-in_err-rest-clause-answer g c =
    refused _ _ _ (stops_at_product c.args.deck.now c.args.row c.requires.row (g.A.Arith.width c.args.arith.now) _ c.in_err-rest.ensures.answer) c.from_residual.ensures.1

pub returns-in_err-passed-clause-answer : goal.returns-in_err-passed-clause-answer
returns-in_err-passed-clause-answer g c =
    let d = c.args.deck.now in
    let i = c.args.row in
    let second = subst (λ w. first_unfit w (excess_listing i c.logical_bounds.result c.in_ok-rest.rest) ≡ Some c.in_err-passed.field-0.0) c.in_ok-rest.ensures.width c.in_err-passed.ensures.answer in
    refused _ _ _
    (stops_at_excess d i c.requires.row (g.A.Arith.width c.args.arith.now) c.logical_bounds.result c.in_ok-rest.rest c.logical_bounds.ensures c.in_ok-rest.ensures.value _
    c.in_ok-rest.ensures.answer second)
    c.from_residual-in_err-passed.ensures.1

pub returns-in_err-range_sum-clause-answer : goal.returns-in_err-range_sum-clause-answer
returns-in_err-range_sum-clause-answer g c =
    let d = c.args.deck.now in
    let i = c.args.row in
    let second = subst (λ w. AllFit w (excess_listing i c.logical_bounds.result c.in_ok-rest.rest)) c.in_ok-rest.ensures.width c.in_ok-passed.ensures.answer in
    let third = subst (λ w. first_unfit w (listed_at (row_place i) (range_sum (row d i))) ≡ Some c.in_err-range_sum.field-0.0) (c.in_ok-passed.ensures.width ∙ c.in_ok-rest.ensures.width)
    c.in_err-range_sum.ensures.answer in
    refused _ _ _
    (stops_at_range d i c.requires.row (g.A.Arith.width c.args.arith.now) c.logical_bounds.result c.in_ok-rest.rest c.logical_bounds.ensures c.in_ok-rest.ensures.value _
    c.in_ok-rest.ensures.answer second third)
    c.from_residual-in_err-range_sum.ensures.1

use Rattle.std.proofs.Common.{◌*◌, ◌^◌, ◌<◌, ◌∙◌, refl, ap, subst, sym, arith, rules}
use Rattle.std.specs.Int.{w128}
use mir.Val.{SFits}
use Rattle.exact_frac.proofs.Floors.{joined_seen}
use Rattle.exact_frac.proofs.Sums.{over_parts_common, sum_terms, common_below, left_is, right_is, shared_divides, left_fits, right_fits, part_below, unfit_denom, unfit_top, sum_splits}
use Rattle.exact_frac.proofs.fraction.sum.by_floors.Goals as goal

pub shared_divisor-shared-requires-clause-below : goal.shared_divisor-shared-requires-clause-below
shared_divisor-shared-requires-clause-below c =
    let over = over_parts_common _ _ _ _ _ _ _ _ _ _ _ c.parts-a.ensures.splits c.parts-b.ensures.splits c.requires.divisor c.requires.left c.requires.right in
    common_below _ _ _ _ _ over c.parts-b.ensures.splits.lowest.denom_below

pub shared_divisor-shared-requires-clause-left_fits : goal.shared_divisor-shared-requires-clause-left_fits
shared_divisor-shared-requires-clause-left_fits c =
    let over = over_parts_common _ _ _ _ _ _ _ _ _ _ _ c.parts-a.ensures.splits c.parts-b.ensures.splits c.requires.divisor c.requires.left c.requires.right in
    omega (arith, right_is _ _ _ _ _ over, c.parts-b.ensures.splits.lowest.denom_below)

pub shared_divisor-shared-requires-clause-right_fits : goal.shared_divisor-shared-requires-clause-right_fits
shared_divisor-shared-requires-clause-right_fits c =
    let over = over_parts_common _ _ _ _ _ _ _ _ _ _ _ c.parts-a.ensures.splits c.parts-b.ensures.splits c.requires.divisor c.requires.left c.requires.right in
    omega (arith, left_is _ _ _ _ _ over, c.parts-a.ensures.splits.lowest.denom_below)

pub returns-in_err-denom : goal.returns-in_err-denom
returns-in_err-denom c =
    let over = over_parts_common _ _ _ _ _ _ _ _ _ _ _ c.parts-a.ensures.splits c.parts-b.ensures.splits c.requires.divisor c.requires.left c.requires.right in
    let terms = sum_terms _ _ _ _ _ _ _ _ over c.shared_divisor-shared.ensures in
    rw c.from_residual.ensures (unfit_denom _ _ _ _ _ _ _ _ terms _ refl c.args.a c.args.b c.parts-a.result.negative c.parts-b.result.negative
    c.parts-a.result.size c.parts-b.result.size c.floor_and_part-floor_a.result.0 c.floor_and_part-floor_b.result.0 c.parts-a.ensures.splits
    c.parts-b.ensures.splits c.floor_and_part-floor_a.ensures.whole c.floor_and_part-floor_b.ensures.whole _ refl
    (λ h. c.in_err-denom.ensures (subst (λ n. n * c.args.common.right < 2 ^ 127) (sym c.div_rem.ensures.quotient) h)))

pub part_over-part-requires-clause-divides : goal.part_over-part-requires-clause-divides
part_over-part-requires-clause-divides c =
    let over = over_parts_common _ _ _ _ _ _ _ _ _ _ _ c.parts-a.ensures.splits c.parts-b.ensures.splits c.requires.divisor c.requires.left c.requires.right in
    let terms = sum_terms _ _ _ _ _ _ _ _ over c.shared_divisor-shared.ensures in
    shared_divides _ _ _ _ _ _ _ _ terms

pub part_over-part-requires-clause-left_fits : goal.part_over-part-requires-clause-left_fits
part_over-part-requires-clause-left_fits c =
    let over = over_parts_common _ _ _ _ _ _ _ _ _ _ _ c.parts-a.ensures.splits c.parts-b.ensures.splits c.requires.divisor c.requires.left c.requires.right in
    let terms = sum_terms _ _ _ _ _ _ _ _ over c.shared_divisor-shared.ensures in
    right_fits _ _ _ _ _ _ _ _ terms c.parts-b.ensures.splits.lowest.denom_below

pub part_over-part-requires-clause-right_fits : goal.part_over-part-requires-clause-right_fits
part_over-part-requires-clause-right_fits c =
    let over = over_parts_common _ _ _ _ _ _ _ _ _ _ _ c.parts-a.ensures.splits c.parts-b.ensures.splits c.requires.divisor c.requires.left c.requires.right in
    let terms = sum_terms _ _ _ _ _ _ _ _ over c.shared_divisor-shared.ensures in
    left_fits _ _ _ _ _ _ _ _ terms c.parts-a.ensures.splits.lowest.denom_below

pub part_over-part-requires-clause-fits : goal.part_over-part-requires-clause-fits
part_over-part-requires-clause-fits c =
    let over = over_parts_common _ _ _ _ _ _ _ _ _ _ _ c.parts-a.ensures.splits c.parts-b.ensures.splits c.requires.divisor c.requires.left c.requires.right in
    let terms = sum_terms _ _ _ _ _ _ _ _ over c.shared_divisor-shared.ensures in
    omega (
      arith,
      c.in_ok-denom.ensures.0,
      c.in_ok-denom.ensures.1,
      part_below _ _ _ _ _ _ _ _ terms c.in_ok-denom.denom
          (c.in_ok-denom.ensures.1 ∙ ap (λ n. n * c.args.common.right) c.div_rem.ensures.quotient) c.floor_and_part-floor_a.ensures.part_below
          c.floor_and_part-floor_b.ensures.part_below,
    )

pub joined-requires-clause-part_below : goal.joined-requires-clause-part_below
joined-requires-clause-part_below c =
    let over = over_parts_common _ _ _ _ _ _ _ _ _ _ _ c.parts-a.ensures.splits c.parts-b.ensures.splits c.requires.divisor c.requires.left c.requires.right in
    let terms = sum_terms _ _ _ _ _ _ _ _ over c.shared_divisor-shared.ensures in
    omega (
      arith,
      c.part_over-part.ensures,
      part_below _ _ _ _ _ _ _ _ terms c.in_ok-denom.denom
          (c.in_ok-denom.ensures.1 ∙ ap (λ n. n * c.args.common.right) c.div_rem.ensures.quotient) c.floor_and_part-floor_a.ensures.part_below
          c.floor_and_part-floor_b.ensures.part_below,
    )

pub returns-in_err-negative : goal.returns-in_err-negative
returns-in_err-negative c =
    let over = over_parts_common _ _ _ _ _ _ _ _ _ _ _ c.parts-a.ensures.splits c.parts-b.ensures.splits c.requires.divisor c.requires.left c.requires.right in
    let terms = sum_terms _ _ _ _ _ _ _ _ over c.shared_divisor-shared.ensures in
    let fits_a : SFits w128 c.floor_and_part-floor_a.result.0 = search rules in
    let fits_b : SFits w128 c.floor_and_part-floor_b.result.0 = search rules in
    let seen = joined_seen c.floor_and_part-floor_a.result.0 c.floor_and_part-floor_b.result.0 c.in_ok-denom.denom c.part_over-part.result fits_a fits_b in
    rw c.from_residual-in_err-negative.ensures (unfit_top _ _ _ _ _ _ _ _ terms c.in_ok-denom.denom
    (c.in_ok-denom.ensures.1 ∙ ap (λ n. n * c.args.common.right) c.div_rem.ensures.quotient) c.args.a c.args.b c.parts-a.result.negative
    c.parts-b.result.negative c.parts-a.result.size c.parts-b.result.size c.floor_and_part-floor_a.result.0 c.floor_and_part-floor_b.result.0
    c.parts-a.ensures.splits c.parts-b.ensures.splits c.floor_and_part-floor_a.ensures.whole c.floor_and_part-floor_b.ensures.whole _
    c.part_over-part.ensures _ seen c.in_err-negative.ensures)

pub returns : goal.returns
returns c =
    let over = over_parts_common _ _ _ _ _ _ _ _ _ _ _ c.parts-a.ensures.splits c.parts-b.ensures.splits c.requires.divisor c.requires.left c.requires.right in
    let terms = sum_terms _ _ _ _ _ _ _ _ over c.shared_divisor-shared.ensures in
    let fits_a : SFits w128 c.floor_and_part-floor_a.result.0 = search rules in
    let fits_b : SFits w128 c.floor_and_part-floor_b.result.0 = search rules in
    let seen = joined_seen c.floor_and_part-floor_a.result.0 c.floor_and_part-floor_b.result.0 c.in_ok-denom.denom c.part_over-part.result fits_a fits_b in
    sum_splits _ _ _ _ _ _ _ _ terms c.in_ok-denom.denom (c.in_ok-denom.ensures.1 ∙ ap (λ n. n * c.args.common.right) c.div_rem.ensures.quotient) c.args.a
    c.args.b c.parts-a.result.negative c.parts-b.result.negative c.parts-a.result.size c.parts-b.result.size c.floor_and_part-floor_a.result.0
    c.floor_and_part-floor_b.result.0 c.parts-a.ensures.splits c.parts-b.ensures.splits c.floor_and_part-floor_a.ensures.whole
    c.floor_and_part-floor_b.ensures.whole _ c.part_over-part.ensures _ seen _ _ c.in_ok-negative.ensures.0 c.in_ok-negative.ensures.1
    (subst (λ n. n < 2 ^ 127) (sym c.in_ok-denom.ensures.1) c.in_ok-denom.ensures.0)

use Rattle.std.proofs.Common.{refl}
use Rattle.exact_frac.proofs.Sums.{over_common}
use Rattle.exact_frac.proofs.Crosswise.{wide_factor, seen_wide_denom, seen_wide_size, seen_splits}
use Rattle.exact_frac.proofs.fraction.sum.added.Goals as goal

pub returns-in_err-apart : goal.returns-in_err-apart
returns-in_err-apart c =
    let over = over_common _ _ _ _ _ c.parts-left.ensures.splits.lowest.some c.parts-right.ensures.splits.lowest.some c.over_common-common.ensures.divisor
    c.over_common-common.ensures.left c.over_common-common.ensures.right in
    rw c.from_residual.ensures (wide_factor _ _ _ _ _ _ _ _ _ _ _ c.parts-left.ensures.splits c.parts-right.ensures.splits over c.in_err-apart.ensures)

pub returns-in_err-denom : goal.returns-in_err-denom
returns-in_err-denom c =
    let over = over_common _ _ _ _ _ c.parts-left.ensures.splits.lowest.some c.parts-right.ensures.splits.lowest.some c.over_common-common.ensures.divisor
    c.over_common-common.ensures.left c.over_common-common.ensures.right in
    rw c.from_residual-in_err-denom.ensures (seen_wide_denom _ _ _ _ _ _ _ _ _ _ _ c.parts-left.ensures.splits c.parts-right.ensures.splits over
    c.in-Some.negative c.in-Some.total c.in-Some.ensures _ _ _ _ c.gcd-shared.ensures c.in_ok-apart.ensures.1 c.div_rem.ensures.quotient refl
    c.in_err-denom.ensures)

pub returns-in_err-size : goal.returns-in_err-size
returns-in_err-size c =
    let over = over_common _ _ _ _ _ c.parts-left.ensures.splits.lowest.some c.parts-right.ensures.splits.lowest.some c.over_common-common.ensures.divisor
    c.over_common-common.ensures.left c.over_common-common.ensures.right in
    rw c.from_residual-in_err-size.ensures (seen_wide_size _ _ _ _ _ _ _ _ _ _ _ c.parts-left.ensures.splits c.parts-right.ensures.splits over
    c.in-Some.negative c.in-Some.total c.in-Some.ensures _ _ _ _ c.gcd-shared.ensures c.in_ok-apart.ensures.1 c.div_rem.ensures.quotient
    c.div_rem-2.ensures.quotient c.in_err-size.ensures)

pub returns : goal.returns
returns c =
    let over = over_common _ _ _ _ _ c.parts-left.ensures.splits.lowest.some c.parts-right.ensures.splits.lowest.some c.over_common-common.ensures.divisor
    c.over_common-common.ensures.left c.over_common-common.ensures.right in
    seen_splits _ _ _ _ _ _ _ _ _ _ _ c.parts-left.ensures.splits c.parts-right.ensures.splits over c.in-Some.negative c.in-Some.total c.in-Some.ensures _ _ _ _
    c.gcd-shared.ensures c.in_ok-apart.ensures.1 c.div_rem.ensures.quotient c.div_rem-2.ensures.quotient _ _ c.in_ok-size.ensures c.in_ok-denom.ensures

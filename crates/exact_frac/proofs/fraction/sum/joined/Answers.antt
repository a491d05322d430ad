use Rattle.std.proofs.Common.{subst}
use Rattle.exact_frac.specs.Parts.{SplitsBelow}
use Rattle.exact_frac.proofs.Floors.{wide_sum, carried}
use Rattle.exact_frac.proofs.fraction.sum.joined.Goals as goal

pub returns-in_err-floor : goal.returns-in_err-floor
returns-in_err-floor c =
    rw c.from_residual.ensures (wide_sum c.args.left c.args.right c.args.denom c.args.part c.ranges.left c.ranges.right c.requires.part_below c.in_err-floor.ensures)

pub returns-in_ok-checked_add : goal.returns-in_ok-checked_add
returns-in_ok-checked_add c =
    subst (λ z. SplitsBelow z c.settled-else-part-denom.result)
    (carried c.args.left c.args.right c.args.denom c.args.part c.ranges.left c.ranges.right _ c.in_ok-floor.ensures _ c.in_ok-checked_add.ensures c.if-part-denom.false)
    c.settled-else-part-denom.ensures

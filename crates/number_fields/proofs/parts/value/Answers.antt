use Rattle.std.proofs.Common.{◌++◌, length}
use Rattle.lp_text.specs.Digits.{digits_value}
use Rattle.number_fields.proofs.PartLemmas.{fits_down, fits_within, fits_past}
use Rattle.number_fields.proofs.parts.value.Goals as goal

pub returns-then-down : goal.returns-then-down
returns-then-down c =
    fits_down c.args.negative c.args.down (digits_value (c.args.whole.now ++ c.args.decimals.now)) (length c.args.decimals.now) c.args.size c.shifted.result
    c.if-down.true c.shifted.ensures

pub returns-then-up-count : goal.returns-then-up-count
returns-then-up-count c =
    fits_within c.args.negative c.args.down (digits_value (c.args.whole.now ++ c.args.decimals.now)) (length c.args.decimals.now) c.args.size c.shifted-then-up-count.result
    c.if-down.false c.if-up-count.true c.shifted-then-up-count.ensures

pub returns-else-up-count : goal.returns-else-up-count
returns-else-up-count c =
    fits_past c.args.negative c.args.down (digits_value (c.args.whole.now ++ c.args.decimals.now)) (length c.args.decimals.now) c.args.size c.shifted-else-up-count.result
    c.if-down.false c.if-up-count.false c.shifted-else-up-count.ensures

use Rattle.exact_frac.proofs.Lowest.{common_pos, reduced_lowest, reduced_is}
use Rattle.exact_frac.proofs.fraction.Frac.of.Goals as goal

pub div_rem-requires : goal.div_rem-requires
div_rem-requires c =
    common_pos c.args.numer c.args.denom c.requires.in_range c.requires.positive c.ranges.denom _ _ _ c.unsigned_abs-size.ensures.value c.unsigned_abs-denom.ensures.value c.gcd-common.ensures

pub div_rem-requires-2 : goal.div_rem-requires-2
div_rem-requires-2 c =
    common_pos c.args.numer c.args.denom c.requires.in_range c.requires.positive c.ranges.denom _ _ _ c.unsigned_abs-size.ensures.value c.unsigned_abs-denom.ensures.value c.gcd-common.ensures

pub from_parts-requires : goal.from_parts-requires
from_parts-requires c =
    reduced_lowest c.args.numer c.args.denom c.requires.in_range c.requires.positive c.ranges.denom _ _ _ c.unsigned_abs-size.ensures.value
    c.unsigned_abs-denom.ensures.value c.gcd-common.ensures _ _ c.div_rem.ensures.quotient c.div_rem-2.ensures.quotient

pub returns : goal.returns
returns c =
    reduced_is c.args.numer c.args.denom c.requires.in_range c.requires.positive c.ranges.denom _ _ _ c.unsigned_abs-size.ensures.value
    c.unsigned_abs-denom.ensures.value c.gcd-common.ensures _ _ c.div_rem.ensures.quotient c.div_rem-2.ensures.quotient _ c.from_parts.ensures

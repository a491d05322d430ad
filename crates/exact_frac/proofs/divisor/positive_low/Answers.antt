use Rattle.exact_frac.proofs.Binary.{odd_after, gcd_by_odd_parts}
use Rattle.exact_frac.proofs.divisor.positive_low.Goals as goal

pub odd_low-requires-clause-left : goal.odd_low-requires-clause-left
odd_low-requires-clause-left c = odd_after 64 c.args.a c.requires.left c.ranges.a.fits

pub odd_low-requires-clause-right : goal.odd_low-requires-clause-right
odd_low-requires-clause-right c = odd_after 64 c.args.b c.requires.right c.ranges.b.fits

pub returns : goal.returns
returns c =
    gcd_by_odd_parts 64 c.args.a c.args.b _ _ c.requires.left c.requires.right c.ranges.a.fits c.ranges.b.fits c.odd_low.ensures c.min.ensures

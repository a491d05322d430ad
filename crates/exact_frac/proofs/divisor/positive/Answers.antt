use Rattle.exact_frac.proofs.Binary.{odd_after, gcd_by_odd_parts}
use Rattle.exact_frac.proofs.divisor.positive.Goals as goal

pub odd-requires-clause-left : goal.odd-requires-clause-left
odd-requires-clause-left c = odd_after 128 c.args.a c.requires.left c.ranges.a.fits

pub odd-requires-clause-right : goal.odd-requires-clause-right
odd-requires-clause-right c = odd_after 128 c.args.b c.requires.right c.ranges.b.fits

pub returns : goal.returns
returns c =
    gcd_by_odd_parts 128 c.args.a c.args.b _ _ c.requires.left c.requires.right c.ranges.a.fits c.ranges.b.fits c.odd.ensures c.min.ensures

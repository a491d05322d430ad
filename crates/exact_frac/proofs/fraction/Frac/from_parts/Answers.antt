use Rattle.exact_frac.proofs.Split.{fits_joined, splits_joined}
use Rattle.exact_frac.proofs.fraction.Frac.from_parts.Goals as goal

pub invariant_of-result : goal.invariant_of-result
invariant_of-result c = fits_joined _ _ _ _ c.requires c.signed.ensures

pub returns : goal.returns
returns c = splits_joined _ _ _ _ c.requires c.signed.ensures

use Rattle.exact_frac.proofs.Split.{fits_negated, negated_is}
use Rattle.exact_frac.proofs.fraction.Frac.negated.Goals as goal

pub invariant_of-result : goal.invariant_of-result
invariant_of-result c = fits_negated _ _ c.self.invariant

pub returns : goal.returns
returns c = negated_is _ _ _ c.self.invariant c.self.view_is

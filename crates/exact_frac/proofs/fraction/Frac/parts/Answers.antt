use Rattle.exact_frac.proofs.Split.{splits_seen, bits_back}
use Rattle.exact_frac.proofs.fraction.Frac.parts.Goals as goal

pub returns-clause-splits : goal.returns-clause-splits
returns-clause-splits c =
    splits_seen _ _ _ _ _ c.self.invariant c.self.view_is (bits_back _ c.self.invariant.numerator_below) c.unsigned_abs.ensures.value

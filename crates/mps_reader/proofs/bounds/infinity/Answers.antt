use Rattle.rational.specs.Rational.{whole}
use Rattle.mps_reader.proofs.bounds.infinity.Goals as goal

pub returns : goal.returns
unfolding whole
returns c = c.of.ensures

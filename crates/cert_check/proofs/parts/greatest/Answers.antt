use Rattle.exact_frac.specs.Constants.{ratio-zero}
use Rattle.cert_check.proofs.Contributions.{greatest-none}
use Rattle.cert_check.proofs.parts.greatest.Goals as goal

pub returns-in-Equal-clause-settled : goal.returns-in-Equal-clause-settled
returns-in-Equal-clause-settled g c = greatest-none _ c.args.c _ c.args.ends ratio-zero c.in-Equal.ensures

use Rattle.bland_laws.proofs.Alternatives.{bounded_has_optimum}
use Rattle.bland_laws.proofs.bounded_has_optimum.Goals as goal

-- src/lib.rt:74:1
pub returns : goal.returns
returns c = bounded_has_optimum

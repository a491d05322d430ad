use Rattle.bland_laws.proofs.OutcomeProves.{outcome_proves}
use Rattle.bland_laws.proofs.outcome_proves.Goals as goal

-- src/lib.rt:43:1
pub returns : goal.returns
returns c = outcome_proves

use Rattle.lp_laws.proofs.OtherRights.{bounded}
use Rattle.lp_laws.proofs.bounded.Goals as goal

pub returns : goal.returns
returns c = bounded

use Rattle.lp_laws.proofs.AlongRays.{endless}
use Rattle.lp_laws.proofs.endless.Goals as goal

-- src/lib.rt:35:1
pub returns : goal.returns
returns c = endless

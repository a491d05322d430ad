use Rattle.std.proofs.Common.{inr, refl}
use Rattle.lp_main.specs.declared.refusal.Refusal.TheVariants.{Memory}
use Rattle.lp_main.proofs.refusal.refuse.Goals as goal

pub returns-in-Err-clause-said : goal.returns-in-Err-clause-said
returns-in-Err-clause-said g c = (Memory, inr refl, refl, c.say-in-Err.ensures.says)

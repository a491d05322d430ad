use Rattle.std.proofs.Common.{sym, subst}
use Rattle.bland_ratio.specs.Pricing.{IsExactTicket}
use Rattle.two_phase.specs.Inner.Fallbacks.{fallback_state}
use Rattle.two_phase.proofs.fallback.Fallback.ask_factors.Goals as goal

pub returns-in-Ok-clause-exact : goal.returns-in-Ok-clause-exact
returns-in-Ok-clause-exact g c = subst (λ x. IsExactTicket c.args.inst.now (fallback_state x) c.in-Ok.ticket) (sym c.in-Anew.is) c.in-Ok.ensures.exact

use Rattle.std.proofs.Common.{sym, subst}
use Rattle.bland_ratio.specs.Pricing.{IsExactTicket}
use Rattle.two_phase.specs.declared.fallback.Fallback.TheVariants as fallback
use Rattle.two_phase.specs.Inner.Fallbacks.{fallback_state}
use Rattle.two_phase.proofs.Fallbacks.{one_fallback_state, stays}
use Rattle.two_phase.proofs.fallback.Fallback.ask_table.Goals as goal

pub returns-in_ok-costs_ticket-in-Table-clause-exact : goal.returns-in_ok-costs_ticket-in-Table-clause-exact
returns-in_ok-costs_ticket-in-Table-clause-exact g c = subst (λ x. IsExactTicket c.args.inst.now (fallback_state x) c.in_ok-costs_ticket-in-Table.field-0) (sym c.in-Table.is) c.in_ok-costs_ticket-in-Table.ensures.exact

pub returns-in_ok-ticket-in-Anew-clause-exact : goal.returns-in_ok-ticket-in-Anew-clause-exact
returns-in_ok-ticket-in-Anew-clause-exact g c =
    let w = g.A.Arith.width c.args.arith.now in
    let a = c.args in
    subst (λ s. IsExactTicket a.inst.now s c.in_ok-ticket-in-Anew.ticket) (one_fallback_state w w a.inst.now a.log.now (fallback.Table c.in_ok-table-in-Anew.table) a.self.now c.in_ok-table-in-Anew.ensures.fitted c.requires.stands)
    c.in_ok-ticket-in-Anew.ensures.exact

pub returns-in_ok-ticket-in-Anew-clause-stays : goal.returns-in_ok-ticket-in-Anew-clause-stays
returns-in_ok-ticket-in-Anew-clause-stays g c =
    let a = c.args in
    stays (g.A.Arith.width a.arith.now) a.inst.now a.log.now a.self.now (fallback.Table c.in_ok-table-in-Anew.table) c.requires.stands c.in_ok-table-in-Anew.ensures.fitted

use Rattle.std.proofs.Common.{IfOk, sym, subst}
use Rattle.two_phase.specs.declared.fallback.Fallback.TheVariants as fallback
use Rattle.two_phase.specs.Inner.Fallbacks.{FallbackReaches, FallbackStands, fallback_state}
use Rattle.two_phase.specs.Inner.Plains.{TableReaches}
use Rattle.two_phase.proofs.Fallbacks.{one_fallback_state, table_reaches}
use Rattle.two_phase.proofs.Grounds.{if_ok}
use Rattle.two_phase.proofs.fallback.Fallback.over_table.Goals as goal

pub returns-in-Table-clause-reached : goal.returns-in-Table-clause-reached
returns-in-Table-clause-reached g c =
    let w = g.A.Arith.width c.args.arith.now in
    let a = c.args in
    let t = c.in-Table.table in
    subst (λ x. IfOk c.advance_on.result (FallbackReaches w a.inst.now a.budget a.log.now (fallback_state x) c.advance_on.new.log (fallback.Table c.advance_on.new.table))) (sym c.in-Table.is)
    (if_ok c.advance_on.result
    (table_reaches w a.inst.now a.budget a.log.now t c.advance_on.new.log c.advance_on.new.table (subst (FallbackStands w a.inst.now a.log.now) c.in-Table.is c.requires.stands))
    c.advance_on.ensures.reached)

pub returns-in_ok-reached-in-Anew-clause-reached : goal.returns-in_ok-reached-in-Anew-clause-reached
returns-in_ok-reached-in-Anew-clause-reached g c =
    let w = g.A.Arith.width c.args.arith.now in
    let a = c.args in
    let t = c.in_ok-table-in-Anew.table in
    let fitted = c.in_ok-table-in-Anew.ensures.fitted in
    let log' = c.advance_on-in-Anew.new.log in
    let t' = c.advance_on-in-Anew.new.table in
    let r = c.in_ok-reached-in-Anew.reached in
    subst (λ s. FallbackReaches w a.inst.now a.budget a.log.now s log' (fallback.Table t') r) (one_fallback_state w w a.inst.now a.log.now (fallback.Table t) a.self.now fitted c.requires.stands)
    (table_reaches w a.inst.now a.budget a.log.now t log' t' fitted r
    (subst (λ w. TableReaches w a.inst.now a.budget a.log.now t log' t' r) c.in_ok-table-in-Anew.ensures.width c.in_ok-reached-in-Anew.ensures.reached))

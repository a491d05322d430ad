use Rattle.std.proofs.Common.{refl, sym, ◌∙◌}
use Rattle.lp_model.specs.declared.Entry.TheVariants.{Swap}
use Rattle.two_phase.proofs.Taking.{swap_comes, reaches_entry, reaches_spent}
use Rattle.two_phase.proofs.iterate.Iterate.exchange_on.Goals as goal

pub returns-then-moves-budget-clause-reached : goal.returns-then-moves-budget-clause-reached
returns-then-moves-budget-clause-reached g c =
    let w = g.A.Arith.width c.args.arith.now in
    let a = c.args in
    let r = c.requires in
    reaches_spent w a.inst.now a.budget a.log.now a.self.now.state (Swap a.q a.p a.end) a.self.now a.self.now r.stands.reached
    (swap_comes w a.inst.now r.well_formed a.log.now a.self.now r.stands r.priced a.q r.enters a.down a.p a.end a.ratio r.entered) refl (sym c.moves.ensures ∙ c.if-moves-budget.true) r.stands

pub returns-clause-reached : goal.returns-clause-reached
returns-clause-reached g c =
    let w = g.A.Arith.width c.args.arith.now in
    let a = c.args in
    let r = c.requires in
    reaches_entry w a.inst.now a.budget a.log.now a.self.now.state (Swap a.q a.p a.end) c.exchange.new.log c.exchange.new.self
    (swap_comes w a.inst.now r.well_formed a.log.now a.self.now r.stands r.priced a.q r.enters a.down a.p a.end a.ratio r.entered) c.in_ok-exchange.ensures.log c.in_ok-exchange.ensures.stands r.within
    (λ is same. c.if-moves-budget.false (c.moves.ensures ∙ same))

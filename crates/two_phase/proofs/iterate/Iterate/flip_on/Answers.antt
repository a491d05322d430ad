use Rattle.std.proofs.Common.{refl, sym, ◌∙◌}
use Rattle.lp_model.specs.declared.Entry.TheVariants.{Flip}
use Rattle.two_phase.proofs.Taking.{flip_comes, reaches_entry, reaches_spent, stay_followed}
use Rattle.two_phase.proofs.iterate.Iterate.flip_on.Goals as goal

pub returns-then-moves-budget-clause-reached : goal.returns-then-moves-budget-clause-reached
returns-then-moves-budget-clause-reached g c =
    let w = g.A.Arith.width c.args.arith.now in
    let a = c.args in
    let r = c.requires in
    reaches_spent w a.inst.now a.budget a.log.now a.self.now.state (Flip a.q) a.self.now a.self.now r.stands.reached
    (flip_comes w a.inst.now r.well_formed a.log.now a.self.now r.stands r.priced a.q r.enters a.down a.ratio r.entered) refl (sym c.moves.ensures ∙ c.if-moves-budget.true) r.stands

pub returns-clause-reached : goal.returns-clause-reached
returns-clause-reached g c =
    let w = g.A.Arith.width c.args.arith.now in
    let a = c.args in
    let r = c.requires in
    reaches_entry w a.inst.now a.budget a.log.now a.self.now.state (Flip a.q) c.flip.new.log c.flip.new.self
    (flip_comes w a.inst.now r.well_formed a.log.now a.self.now r.stands r.priced a.q r.enters a.down a.ratio r.entered) c.in_ok-flip.ensures.log c.in_ok-flip.ensures.stands r.within
    (λ is same. c.if-moves-budget.false (c.moves.ensures ∙ same))

pub returns-clause-goes : goal.returns-clause-goes
returns-clause-goes g c = stay_followed (g.A.Arith.width c.args.arith.now) c.args.self.now.factors c.flip.new.self.factors c.in_ok-flip.ensures.same

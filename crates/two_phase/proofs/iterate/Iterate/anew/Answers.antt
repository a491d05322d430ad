use Rattle.std.proofs.Common.{◌≡◌, true, false, sym, ◌∙◌, ap, subst}
use Rattle.basis_solves.specs.Bases.{FactorsFrom}
use Rattle.two_phase.proofs.Refactoring.{made_iterate, reached_basis}
use Rattle.two_phase.proofs.iterate.Iterate.anew.Goals as goal

apart : true ≡ false → ⊥
apart e = cc e

pub factors_of-requires-after_bounds : goal.factors_of-requires-after_bounds
factors_of-requires-after_bounds g c = λ κs bounds.
    let it = c.args.self.now in
    (it.state, reached_basis c.args.inst.now c.requires.0 it.state c.basis.result.now c.requires.1.reached (c.basis.ensures ∙ ap (λ s. s.basis) c.in_ok-state.ensures))

pub returns-clause-stands : goal.returns-clause-stands
returns-clause-stands g c log stands =
    let w = g.A.Arith.width c.args.arith.now in
    let inst = c.args.inst.now in
    let it = c.args.self.now in
    let of = c.in_ok-of.ensures in
    let count = c.rows.ensures.count in
    let basis = reached_basis inst c.requires.0 it.state c.basis.result.now c.requires.1.reached (c.basis.ensures ∙ ap (λ s. s.basis) c.in_ok-state.ensures) in
    made_iterate w inst log it c.in_ok-of.field-0 c.args.number stands (of.state ∙ c.in_ok-state.ensures)
    (subst (λ f. FactorsFrom w inst it.state c.args.number f) (sym of.factors) (c.in_ok-factors.ensures.made it.state basis))
    (of.values ∙ (c.in_ok-values.ensures.items ∙ c.deref.ensures.value)) (λ is. absurd (apart (sym is ∙ of.unpriced)))
    (record { prices = of.prices ∙ count; alpha = of.alpha ∙ count; spike = of.spike ∙ count; spare = of.spare ∙ count; few = stands.sized.few })

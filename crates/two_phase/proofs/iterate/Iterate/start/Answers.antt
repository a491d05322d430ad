use Rattle.std.proofs.Common.{◌≡◌, None, Some, sym, ◌∙◌, ap, subst, arith}
use Rattle.rational.specs.Worked.{settle}
use Rattle.lp_run.specs.Solution.{Values}
use Rattle.lp_run.specs.State.{start_of}
use Rattle.factor_run.specs.Built.{made_anew}
use Rattle.factor_run.proofs.Starting.{start-settles}
use Rattle.plain_table.proofs.Coming.{handed_on}
use Rattle.two_phase.specs.Board.{StartsUnfit}
use Rattle.basis_solves.specs.Bases.{FactorsFrom}
use Rattle.basis_solves.specs.Refusals.{Explains}
use Rattle.basis_solves.proofs.Following.{explained}
use Rattle.two_phase.proofs.Starting.{start_basis, started_iterate}
use Rattle.two_phase.proofs.iterate.Iterate.start.Goals as goal

pub factors_of-requires-after_bounds : goal.factors_of-requires-after_bounds
factors_of-requires-after_bounds g c = λ κs bounds.
    (start_of c.args.inst.now, start_basis c.args.inst.now c.basis.result.now (c.basis.ensures ∙ ap (λ s. s.basis) c.in_ok-state.ensures))

pub returns-in_err-factors-clause-refusal : goal.returns-in_err-factors-clause-refusal
returns-in_err-factors-clause-refusal g c =
    let w = g.A.Arith.width c.args.arith.now in
    let inst = c.args.inst.now in
    let basis = start_basis inst c.basis.result.now (c.basis.ensures ∙ ap (λ s. s.basis) c.in_ok-state.ensures) in
    handed_on _ (Explains (StartsUnfit w inst)) c.from_residual-in_err-factors.ensures.1
    (explained c.in_err-factors.field-0.0 (λ none. absurd (start-settles w inst (subst (λ w. settle w (made_anew inst (start_of inst) 0) ≡ None) c.in_ok-values.ensures.width none)))
    (c.in_err-factors.ensures.refusal (start_of inst) basis))

pub returns-clause-stands : goal.returns-clause-stands
returns-clause-stands g c =
    let w = g.A.Arith.width c.args.arith.now in
    let inst = c.args.inst.now in
    let basis = start_basis inst c.basis.result.now (c.basis.ensures ∙ ap (λ s. s.basis) c.in_ok-state.ensures) in
    let of = c.in_ok-of.ensures in
    let count = c.rows.ensures.count in
    started_iterate w inst c.in_ok-of.field-0 (of.state ∙ c.in_ok-state.ensures)
    (subst (λ f. FactorsFrom w inst (start_of inst) 0 f) (sym of.factors)
    (subst (λ w. FactorsFrom w inst (start_of inst) 0 c.in_ok-factors.factors) c.in_ok-values.ensures.width (c.in_ok-factors.ensures.made (start_of inst) basis)))
    (subst (Values inst (start_of inst)) (sym of.values) c.in_ok-values.ensures.values) of.unpriced
    (record { prices = of.prices ∙ count; alpha = of.alpha ∙ count; spike = of.spike ∙ count; spare = of.spare ∙ count; few = omega (arith, c.rows.ensures.few, count) })

pub returns-clause-made : goal.returns-clause-made
returns-clause-made g c =
    let w = g.A.Arith.width c.args.arith.now in
    let inst = c.args.inst.now in
    let basis = start_basis inst c.basis.result.now (c.basis.ensures ∙ ap (λ s. s.basis) c.in_ok-state.ensures) in
    let from = subst (λ w. FactorsFrom w inst (start_of inst) 0 c.in_ok-factors.factors) c.in_ok-values.ensures.width (c.in_ok-factors.ensures.made (start_of inst) basis) in
    subst (λ f. settle w (made_anew inst (start_of inst) 0) ≡ Some (Some f)) (sym c.in_ok-of.ensures.factors) from.made

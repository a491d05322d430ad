use Rattle.std.proofs.Common.{◌≡◌, None, Some, refl, sym, subst}
use Rattle.rational.specs.Worked.{settle}
use Rattle.factor_run.specs.Built.{made_anew}
use Rattle.plain_table.proofs.Coming.{handed_on}
use Rattle.basis_solves.proofs.Following.{explained}
use Rattle.basis_solves.specs.Bases.{FactorsFrom}
use Rattle.basis_solves.specs.Refusals.{Explains}
use Rattle.two_phase.specs.Drafts.{DraftStands, IsOfRun}
use Rattle.two_phase.specs.declared.draft.Draft.{Draft}
use Rattle.reinverter.proofs.Begun.{begun_stands, run_basis}
use Rattle.reinverter.proofs.beginning.begin.Goals as goal

pub factors_of-requires-after_bounds : goal.factors_of-requires-after_bounds
factors_of-requires-after_bounds g c κs within =
    let at = c.args.snapshot in
    (at.state, run_basis c.args.inst.value c.deref.result.now c.deref.ensures at.number at.state c.requires c.basis.result.now c.basis.ensures)

pub returns-in_err-factors-clause-refusal : goal.returns-in_err-factors-clause-refusal
returns-in_err-factors-clause-refusal g c =
    let at = c.args.snapshot in
    let w = g.A.Arith.width c.args.arith.now in
    let basis = run_basis c.args.inst.value c.deref.result.now c.deref.ensures at.number at.state c.requires c.basis.result.now c.basis.ensures in
    handed_on _ (Explains (settle w (made_anew c.args.inst.value at.state at.number) ≡ None)) c.from_residual.ensures.1
    (explained c.in_err-factors.field-0.0 (subst (λ i. settle w (made_anew i at.state at.number) ≡ None) c.deref.ensures) (c.in_err-factors.ensures.refusal at.state basis))

pub of_parts-requires : goal.of_parts-requires
of_parts-requires g c =
    let at = c.args.snapshot in
    let w = g.A.Arith.width c.args.arith.now in
    let basis = run_basis c.args.inst.value c.deref.result.now c.deref.ensures at.number at.state c.requires c.basis.result.now c.basis.ensures in
    begun_stands w _ refl (subst (λ i. FactorsFrom w i at.state at.number c.in_ok-factors.factors) c.deref.ensures (c.in_ok-factors.ensures.made at.state basis))

pub returns-clause-made : goal.returns-clause-made
returns-clause-made g c =
    let at = c.args.snapshot in
    let w = g.A.Arith.width c.args.arith.now in
    let basis = run_basis c.args.inst.value c.deref.result.now c.deref.ensures at.number at.state c.requires c.basis.result.now c.basis.ensures in
    subst (λ (d : Draft). settle w (made_anew c.args.inst.value at.state at.number) ≡ Some (Some d.factors)) (sym c.of_parts.ensures)
    (subst (λ i. settle w (made_anew i at.state at.number) ≡ Some (Some c.in_ok-factors.factors)) c.deref.ensures (c.in_ok-factors.ensures.made at.state basis).made)

pub returns-clause-stands : goal.returns-clause-stands
returns-clause-stands g c =
    let at = c.args.snapshot in
    let w = g.A.Arith.width c.args.arith.now in
    let basis = run_basis c.args.inst.value c.deref.result.now c.deref.ensures at.number at.state c.requires c.basis.result.now c.basis.ensures in
    subst (λ d. DraftStands d × IsOfRun d) (sym c.of_parts.ensures)
    (begun_stands w _ refl (subst (λ i. FactorsFrom w i at.state at.number c.in_ok-factors.factors) c.deref.ensures (c.in_ok-factors.ensures.made at.state basis)), c.requires)

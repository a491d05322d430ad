-- The limit that decides says how far the column goes.
use Rattle.std.proofs.Common.{◌<◌, length, refl, sym, ◌∙◌, ap, subst}
use Rattle.lp_run.specs.Step.{direction}
use Rattle.plain_table.specs.Inner.Steps.{test_listing}
use Rattle.plain_table.proofs.Motions.{motion_is, not_free}
use Rattle.plain_table.proofs.Parts.{judged_on}
use Rattle.plain_table.proofs.motion.find_motion.Goals as goal

pub returns-in_err-leave-clause-answer : goal.returns-in_err-leave-clause-answer
returns-in_err-leave-clause-answer g c =
    let parts = c.args.parts.now in
    judged_on _ _ (test_listing c.args.inst.now parts.number parts.state.now parts.rows.now parts.values.now parts.costs.now c.args.q) _ c.from_residual.result refl
    c.in_err-leave.ensures.answer c.from_residual.ensures.1

pub ratio_of-requires : goal.ratio_of-requires
ratio_of-requires g c =
    let parts = c.args.parts.now in
    not_free c.args.inst.now parts.state.now parts.rows.now parts.values.now parts.costs.now c.args.q c.requires.limited.0 c.requires.limited.1 c.in_ok-leave.leave c.in_ok-leave.ensures.decides

pub returns-clause-motion : goal.returns-clause-motion
returns-clause-motion g c =
    let parts = c.args.parts.now in
    let within : c.args.q < length parts.costs.now = subst (λ n. c.args.q < n) (sym c.requires.costs) c.requires.column in
    motion_is c.args.inst.now parts.state.now parts.rows.now parts.values.now parts.costs.now c.args.q c.requires.limited.0 c.requires.limited.1 c.in_ok-leave.leave
    c.in_ok-leave.ensures.decides c.index-parts-q.result c.falls.result within c.index-parts-q.is (ap direction c.index-parts-q.is ∙ c.falls.ensures) c.ratio_of.result c.ratio_of.ensures

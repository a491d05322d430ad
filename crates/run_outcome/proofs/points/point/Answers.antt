use Rattle.std.proofs.Common.{◌∙◌, refl, arith}
use Rattle.lp_run.specs.Instance.{structural_count}
use Rattle.lp_run.specs.State.{rest}
use Rattle.run_outcome.proofs.Shown.{filled_of, written_over}
use Rattle.run_outcome.proofs.points.point.Goals as goal

pub returns : goal.returns
returns c =
    let inst = c.args.inst.now in
    let s = c.args.state.now in
    let new = c.place_basic.new.out in
    written_over _ new c.in_ok-x.x.items (omega arith)
    ∙ filled_of s.basis s.basis c.args.values.now c.args.values.now (rest inst s) (structural_count inst) c.as_mut_slice.result.now new refl refl
    (c.as_mut_slice.ensures.value ∙ c.in_ok-x.ensures) c.place_basic.auto.out c.place_basic.ensures

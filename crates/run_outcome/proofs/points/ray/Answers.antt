use Rattle.std.proofs.Common.{map, cond, eqb, ◌∙◌, ap, refl, arith}
use Rattle.rational.specs.Rational.{zero_ℚ, neg_ℚ, ◌*ℚ◌}
use Rattle.rational.specs.Sparse.{upto}
use Rattle.lp_run.specs.Instance.{structural_count}
use Rattle.bland_ratio.specs.Leave.{direction_where}
use Rattle.run_outcome.proofs.Shown.{filled_of, written_over}
use Rattle.run_outcome.proofs.points.ray.Goals as goal

pub returns : goal.returns
returns c =
    let inst = c.args.inst.now in
    let s = c.args.state.now in
    let q = c.args.q in
    let new = c.place_basic.new.out in
    let step = direction_where c.args.down in
    written_over _ new c.in_ok-r.r.items (omega arith)
    ∙ filled_of s.basis s.basis (map (λ a. neg_ℚ step *ℚ a) c.args.alpha.now) c.deref.result.now (λ j. cond (eqb j q) step zero_ℚ) (structural_count inst)
    c.as_mut_slice.result.now new refl (c.deref.ensures.value ∙ c.in_ok-rates.ensures)
    (c.as_mut_slice.ensures.value ∙ c.in_ok-r.ensures ∙ ap (λ n. map (λ j. cond (eqb j q) step zero_ℚ) (upto n)) c.structurals.ensures.count)
    c.place_basic.auto.out c.place_basic.ensures

-- The operations are those of vectors of as many items.
use Rattle.std.proofs.Common.{ℕ, ◌≡◌, length, sym, ap, subst, ◌∙◌}
use Rattle.rational.specs.Rational.{one_ℚ}
use Rattle.rational.specs.Sparse.{at_index}
use Rattle.rational.proofs.VectorLaws.{length-map-upto}
use Rattle.factor_model.specs.Eta.{AreOps}
use Rattle.markowitz_lu.proofs.stage.combination.Goals as goal

pub apply_back-requires-after_bounds : goal.apply_back-requires-after_bounds
apply_back-requires-after_bounds g c _ _ =
    let len : length c.deref_mut.result.now ≡ c.args.m = ap length c.deref_mut.ensures.value ∙ ap length c.in_ok-y.ensures ∙ length-map-upto (λ i. at_index i c.args.r one_ℚ) c.args.m in
    subst (λ (n : ℕ). AreOps n c.args.etas.now) (sym len) c.requires.operations

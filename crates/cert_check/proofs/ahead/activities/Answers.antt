use Rattle.std.proofs.Common.{replicate, ◌∙◌, ap₂}
use Rattle.exact_frac.specs.Constants.{ratio-zero}
use Rattle.cert_check.proofs.ahead.activities.Goals as goal

pub scatter-requires-clause-zeros : goal.scatter-requires-clause-zeros
scatter-requires-clause-zeros g c κs within =
    c.deref_mut.ensures.value ∙ (c.in_ok-sums.ensures.items_if_clones_equal (λ y same. same) ∙ ap₂ replicate c.rows.ensures.count ratio-zero)

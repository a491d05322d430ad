use Rattle.std.proofs.Common.{sym, ◌∙◌, ap, subst}
use Rattle.lp_model.specs.Deck.{Within, in_sense}
use Rattle.ranging.specs.Inner.Limits.{counted}
use Rattle.ranging.proofs.Changes.{within_counted}
use Rattle.ranging.proofs.position.basic_limit.Goals as goal

pub returns-in-Ok-clause-limit : goal.returns-in-Ok-clause-limit
returns-in-Ok-clause-limit g c =
    let limits = c.in-Ok.ensures.limits in
    let sense = c.args.inst.now.sense in
    let is = c.counted.ensures ∙ ap (λ s. counted s c.in-Ok.limits) c.sense.ensures in (
      limits.0,
      λ t. let counts = within_counted sense c.in-Ok.limits t in (
        λ h. (limits.1 (in_sense sense t)).0 (counts.0 (subst (λ i. Within i t) is h)),
        λ h. subst (λ i. Within i t) (sym is) (counts.1 ((limits.1 (in_sense sense t)).1 h)),
      ),
    )

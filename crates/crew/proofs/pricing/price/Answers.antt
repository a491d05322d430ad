use Rattle.std.proofs.Common.{◌∙◌}
use Rattle.crew.proofs.CalmRounds.{none_there_unfit}
use Rattle.crew.proofs.pricing.price.Goals as goal

pub returns-in_err-seats-clause-fit : goal.returns-in_err-seats-clause-fit
returns-in_err-seats-clause-fit g c none =
    let about = c.in-Ok.ensures.about in
    c.priced.ensures.fit (none_there_unfit _ _ (about.2 ∙ c.width.ensures) _ _ (about.0 ∙ c.in_ok-clone.ensures.cases) _ _ about.1 none)

pub returns-clause-fit : goal.returns-clause-fit
returns-clause-fit g c none =
    let about = c.in-Ok.ensures.about in
    c.priced.ensures.fit (none_there_unfit _ _ (about.2 ∙ c.width.ensures) _ _ (about.0 ∙ c.in_ok-clone.ensures.cases) _ _ about.1 none)

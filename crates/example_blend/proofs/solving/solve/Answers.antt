-- The outcome of the run is that of the deck, of which it proves what it says.
use Rattle.std.proofs.Common.{◌∙◌, subst}
use Rattle.lp_run.specs.Ends.{HasOutcome}
use Rattle.deck_model.specs.Outcome.{outcome_of}
use Rattle.example_blend.proofs.solving.solve.Goals as goal

pub returns : goal.returns
returns g c =
    let closed = c.in_ok-closed.closed in
    c.outcome_proves.ensures c.args.deck.now c.rows-rows.ensures.deck closed.log (outcome_of closed.outcome)
    (subst (λ i. HasOutcome i closed.log (outcome_of closed.outcome)) (c.in_ok-new.ensures.ok ∙ c.in_ok-inst.ensures.made.0) c.in_ok-closed.ensures.solves.outcome)

use Rattle.std.proofs.Common.{◌∙◌, ap, refl}
use Rattle.price_round.specs.Seats.{IsSeatOf}
use Rattle.price_round.proofs.Seated.{all_last}
use Rattle.price_round.proofs.Surveys.{surveyed_more, whole_survey}
use Rattle.price_round.proofs.round.Round.survey.Goals as goal

pub returns-clause-state : goal.returns-clause-state
returns-clause-state c =
    let round = c.args.self.now in
    let last = c.in-Some.field-0 in
    let items = c.in-Some.ensures.items in
    let seats = all_last _ _ last items (IsSeatOf round) c.requires.seats in
    let inner = c.survey_with-seats.ensures in
    let made =
    surveyed_more round _ _ _ _ _ _ last _ items c.push_reserved.ensures.items refl
    (inner.table ∙ seats.1.0, ap (λ m. m.0.plan) inner.token.0 ∙ seats.1.1)
    (ap (λ m. m.0.held) inner.token.0) (ap (λ m. m.0.done) inner.token.0) refl refl inner.token.1 inner.seats
    in
    whole_survey round _ _ _ _ _ last items inner.state.1 made

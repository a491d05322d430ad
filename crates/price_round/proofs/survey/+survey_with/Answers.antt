use Rattle.std.proofs.Common.{◌≡◌, ◌∙◌, min, ap, arith, sym, refl}
use Rattle.std.proofs.lemmas.List.{nil_from_length}
use Rattle.price_round.specs.Seats.{IsSeatOf}
use Rattle.price_round.proofs.Allowed.{glances, joins}
use Rattle.price_round.proofs.Seated.{all_last}
use Rattle.price_round.proofs.Surveys.{alone_state, taken_state, surveyed_more}
use Rattle.price_round.proofs.survey.+survey_with.Goals as goal

pub load-requires : goal.load-requires
load-requires t c = (c.requires.table.0, omega arith, glances _ _ _ _ c.requires.parts.0 c.requires.table.1)

pub returns-in_default-clause-state : goal.returns-in_default-clause-state
returns-in_default-clause-state t c =
    let tells = c.load.ensures.2 in
    let cases = c.in_default.ensures.cases in
    let count = c.requires.count in
    let ok = c.args.seats.ok in
    let known = tells.whole _ c.requires.table.1 (omega arith) in
    (known.0, alone_state _ c.args.token.now.me.0 c.args.seats.items known.0 _ _ (nil_from_length _ (omega arith)) (sym (ap (λ m. m.0.seen) tells.view)) known.1)

pub join_seat-requires : goal.join_seat-requires
join_seat-requires t c =
    let last = c.in-Some.field-0 in
    let seats = all_last _ _ last c.in-Some.ensures.items (IsSeatOf c.args.round.now) c.requires.seats in
    (c.requires.table.0, seats.1.0, last.empty, omega arith, joins _ _ _ _ _ c.requires.parts.0)

pub returns-clause-seats : goal.returns-clause-seats
returns-clause-seats t c =
    let last = c.in-Some.field-0 in
    let items = c.in-Some.ensures.items in
    let seats = all_last _ _ last items (IsSeatOf c.args.round.now) c.requires.seats in
    let inner = c.survey_with-seats.ensures in
    let cut = c.cut_back-seat.ensures in
    let took = c.join_seat.ensures.2 in
    let code : c.survey_with-seats.new.token.me.0.seen ≡ c.cut_back-seat.new.token.me.0.seen = sym (ap (λ m. m.0.seen) cut.rest) in
    let low : c.join_seat.new.seat.me.0.seen ≡ min c.args.token.now.me.0.seen last.seat.me.0.seen = ap (λ m. m.0.seen) took in
    let lower = inner.token.1 in
    let piece = c.of-piece.ensures in
    surveyed_more c.args.round.now _ _ _ _ _ _ last _ items c.push_reserved.ensures.items code
    (cut.table.1 ∙ (inner.table ∙ (c.join_seat.ensures.0 ∙ c.requires.table.0)), ap (λ m. m.0.plan) cut.piece ∙ (ap (λ s. s.me.0.plan) piece ∙ seats.1.1))
    (ap (λ m. m.0.held) cut.piece ∙ ap (λ s. s.me.0.held) piece) (ap (λ m. m.0.done) cut.piece ∙ ap (λ s. s.me.0.done) piece) refl
    (ap (λ m. m.0.seen) cut.piece) (omega arith) inner.seats

pub returns-clause-state : goal.returns-clause-state
returns-clause-state t c =
    let last = c.in-Some.field-0 in
    let items = c.in-Some.ensures.items in
    let inner = c.survey_with-seats.ensures in
    let cut = c.cut_back-seat.ensures in
    (inner.state.0, taken_state _ _ _ c.args.token.now.me.0 _ _ _ last _ items (ap (λ m. m.0) c.join_seat.ensures.2) (sym (ap (λ m. m.0.seen) cut.rest)) inner.state.1)

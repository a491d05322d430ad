-- The second pair is judged by the deck so far after the first.
use Rattle.std.proofs.Common.{sym, ◌∙◌, subst}
use Rattle.mps_reader.specs.Inner.Uses.{use_is}
use Rattle.mps_reader.specs.Inner.Standing.{Judged}
use Rattle.mps_reader.proofs.CardSteps.{pairs-one, pairs-refused, pairs-two}
use Rattle.mps_reader.proofs.PairSteps.{refused}
use Rattle.mps_reader.proofs.draft.Draft.take_pairs.Goals as goal

pub returns-in_err-take_pair : goal.returns-in_err-take_pair
returns-in_err-take_pair c = λ s h.
    refused _ _ _ _ c.from_residual.ensures.1
    (pairs-refused (use_is c.args.how) s c.args.fields.now c.get.result.now c.get-2.result.now c.get.ensures c.get-2.ensures _ (c.in_err-take_pair.ensures.judged s h))

pub returns-then-not-has_second_pair : goal.returns-then-not-has_second_pair
returns-then-not-has_second_pair c = λ s h.
    let first = c.in_ok-take_pair.ensures.judged s h in (
      first.0,
      pairs-one (use_is c.args.how) s c.args.fields.now c.get.result.now c.get-2.result.now c.get.ensures c.get-2.ensures first.0 first.1
          (sym c.has_second_pair.ensures ∙ c.if-not-has_second_pair.true),
      first.2,
    )

pub take_pair-requires-2-clause-stands : goal.take_pair-requires-2-clause-stands
take_pair-requires-2-clause-stands c =
    let first = c.in_ok-take_pair.ensures.judged c.requires.stands.0 c.requires.stands.1 in
    (first.0, first.2)

pub returns : goal.returns
returns c = λ s h.
    let first = c.in_ok-take_pair.ensures.judged s h in
    subst (λ r. Judged r c.take_pair-2.new.self c.take_pair-2.result)
    (sym (pairs-two (use_is c.args.how) s c.args.fields.now c.get.result.now c.get-2.result.now c.get.ensures c.get-2.ensures first.0 first.1 c.get-3.result.now
    c.get-4.result.now c.get-3.ensures c.get-4.ensures
    (sym c.has_second_pair.ensures ∙ c.if-not-has_second_pair.false)))
    (c.take_pair-2.ensures.judged first.0 first.2)

use Rattle.std.proofs.Common.{Ok, ap, subst}
use Rattle.lp_text.specs.Cards.{card_of, counted}
use Rattle.lp_text.specs.declared.Form.TheVariants.{Fixed}
use Rattle.mps_cards.specs.Splitting.{Says, is_section, text_card}
use Rattle.mps_model.specs.Judgement.{judge_card, judged_by}
use Rattle.mps_reader.proofs.DataCards.{judged_as}
use Rattle.mps_reader.proofs.LineLemmas.{long_enough, second_spelled}
use Rattle.mps_reader.proofs.draft.Draft.take_fixed_line.Goals as goal

pub split-requires : goal.split-requires
split-requires c = let whole = c.requires.bytes in long_enough Fixed c.args.line.now whole.0 whole.1

pub take-requires-clause-spelled : goal.take-requires-clause-spelled
take-requires-clause-spelled c = λ is_data.
    let whole = c.requires.bytes in
    let says = subst (λ o. Says c.args.line.now.number (card_of whole.0.bytes) (Ok o)) c.in-Some.is (c.in_ok-card.ensures 61 whole.0 whole.1) in
    second_spelled (counted whole.0.bytes) (text_card c.in-Some.card) says.0 (ap is_section is_data)

pub returns-in-Some : goal.returns-in-Some
returns-in-Some c = λ s whole h is.
    let says = subst (λ o. Says c.args.line.now.number (card_of whole.bytes) (Ok o)) c.in-Some.is (c.in_ok-card.ensures 61 whole is) in
    judged_as _ (judge_card s (text_card c.in-Some.card)) c.take.new.self c.take.result (ap (judged_by judge_card s) says.0) (c.take.ensures s h)

pub returns-in-None : goal.returns-in-None
returns-in-None c = λ s whole h is.
    let says = subst (λ o. Says c.args.line.now.number (card_of whole.bytes) (Ok o)) c.in-None.is (c.in_ok-card.ensures 61 whole is) in
    (s, ap (judged_by judge_card s) says, h)

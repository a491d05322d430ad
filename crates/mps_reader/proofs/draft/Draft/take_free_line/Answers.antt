use Rattle.std.proofs.Common.{Ok, ap, subst}
use Rattle.lp_text.specs.Cards.{without_return}
use Rattle.lp_text.specs.FreeCards as cards
use Rattle.lp_text.specs.declared.Form.TheVariants.{Free}
use Rattle.mps_free.specs.Cutting.{Says, text_card}
use Rattle.mps_model.specs.Judgement.{judge_free_card, judged_by}
use Rattle.mps_reader.proofs.DataCards.{judged_as}
use Rattle.mps_reader.proofs.LineLemmas.{long_enough, tokens_spelled}
use Rattle.mps_reader.proofs.draft.Draft.take_free_line.Goals as goal

pub free_card-requires : goal.free_card-requires
free_card-requires c = let whole = c.requires.bytes in long_enough Free c.args.line.now whole.0 whole.1

pub take_free-requires-clause-spelled : goal.take_free-requires-clause-spelled
take_free-requires-clause-spelled c =
    let whole = c.requires.bytes in
    let says = subst (λ o. Says c.args.line.now.number (cards.free_card whole.0.bytes) (Ok o)) c.in-Some.is (c.in_ok-card.ensures 256 whole.0 whole.1) in
    tokens_spelled (without_return whole.0.bytes) (text_card c.in-Some.card) says

pub returns-in-Some : goal.returns-in-Some
returns-in-Some c = λ s whole h is.
    let says = subst (λ o. Says c.args.line.now.number (cards.free_card whole.bytes) (Ok o)) c.in-Some.is (c.in_ok-card.ensures 256 whole is) in
    judged_as _ (judge_free_card s (text_card c.in-Some.card)) c.take_free.new.self c.take_free.result (ap (judged_by judge_free_card s) says) (c.take_free.ensures s h)

pub returns-in-None : goal.returns-in-None
returns-in-None c = λ s whole h is.
    let says = subst (λ o. Says c.args.line.now.number (cards.free_card whole.bytes) (Ok o)) c.in-None.is (c.in_ok-card.ensures 256 whole is) in
    (s, ap (judged_by judge_free_card s) says, h)

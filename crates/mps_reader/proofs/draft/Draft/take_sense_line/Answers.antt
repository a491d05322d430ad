use Rattle.std.proofs.Common.{Ok, ap, subst}
use Rattle.lp_text.specs.FreeCards.{free_card_in}
use Rattle.mps_free.specs.Cutting.{Says, text_card}
use Rattle.mps_model.specs.Judgement.{bytes_counted, judge_sense, judged_by}
use Rattle.mps_reader.proofs.DataCards.{judged_as}
use Rattle.mps_reader.proofs.draft.Draft.take_sense_line.Goals as goal

pub returns-in-Some : goal.returns-in-Some
returns-in-Some c = λ s whole h is.
    let what = free_card_in (bytes_counted c.args.form whole.bytes) in
    let says = subst (λ o. Says c.args.line.now.number what (Ok o)) c.in-Some.is (c.in_ok-card.ensures whole is) in
    judged_as _ (judge_sense s (text_card c.in-Some.card)) c.take_sense.new.self c.take_sense.result (ap (judged_by judge_sense s) says) (c.take_sense.ensures s h)

pub returns-in-None : goal.returns-in-None
returns-in-None c = λ s whole h is.
    let what = free_card_in (bytes_counted c.args.form whole.bytes) in
    let says = subst (λ o. Says c.args.line.now.number what (Ok o)) c.in-None.is (c.in_ok-card.ensures whole is) in
    (s, ap (judged_by judge_sense s) says, h)

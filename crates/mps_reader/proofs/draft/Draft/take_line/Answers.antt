use Rattle.std.proofs.Common.{cond, ap, ◌∙◌, sym, subst}
use Rattle.lp_text.specs.FreeCards.{free_card_in}
use Rattle.lp_text.specs.declared.Form.TheVariants.{Fixed, Free}
use Rattle.mps_model.specs.Judgement.{bytes_counted, judge_by_form, judge_sense, judge_text, judged_by}
use Rattle.mps_reader.specs.Inner.Reached.{HasBytesOf}
use Rattle.mps_reader.proofs.DataCards.{judged_as}
use Rattle.mps_reader.proofs.draft.Draft.take_line.Goals as goal

pub returns-then-awaits_sense : goal.returns-then-awaits_sense
returns-then-awaits_sense c = λ s whole h is.
    let text = bytes_counted c.args.form whole.bytes in
    judged_as _ (judged_by judge_sense s (free_card_in text)) c.take_sense_line.new.self c.take_sense_line.result
    (ap (λ b. cond b (judged_by judge_sense s (free_card_in text)) (judge_by_form c.args.form s text)) (sym (c.awaits_sense.ensures s h) ∙ c.if-awaits_sense.true))
    (c.take_sense_line.ensures s whole h is)

pub returns-in-Fixed : goal.returns-in-Fixed
returns-in-Fixed c = λ s whole h is.
    let text = bytes_counted Fixed whole.bytes in
    judged_as _ (judge_by_form Fixed s text) c.take_fixed_line.new.self c.take_fixed_line.result
    (ap (λ form. judge_text form s (bytes_counted form whole.bytes)) c.in-Fixed.is
    ∙ ap (λ b. cond b (judged_by judge_sense s (free_card_in text)) (judge_by_form Fixed s text)) (sym (c.awaits_sense.ensures s h) ∙ c.if-awaits_sense.false))
    (c.take_fixed_line.ensures s whole h (subst (λ form. HasBytesOf form c.args.line.now whole) c.in-Fixed.is is))

pub returns-in-Free : goal.returns-in-Free
returns-in-Free c = λ s whole h is.
    let text = bytes_counted Free whole.bytes in
    judged_as _ (judge_by_form Free s text) c.take_free_line.new.self c.take_free_line.result
    (ap (λ form. judge_text form s (bytes_counted form whole.bytes)) c.in-Free.is
    ∙ ap (λ b. cond b (judged_by judge_sense s (free_card_in text)) (judge_by_form Free s text)) (sym (c.awaits_sense.ensures s h) ∙ c.if-awaits_sense.false))
    (c.take_free_line.ensures s whole h (subst (λ form. HasBytesOf form c.args.line.now whole) c.in-Free.is is))

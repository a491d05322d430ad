use Rattle.std.proofs.Common.{◌∙◌}
use Rattle.mps_model.specs.Judgement.{judge_data, judge_section}
use Rattle.mps_reader.proofs.CardsTaken.{fields_judged, fields_refused, section_card}
use Rattle.mps_reader.proofs.DataCards.{judged_as}
use Rattle.mps_reader.proofs.PairSteps.{refused}
use Rattle.mps_reader.proofs.draft.Draft.take.Goals as goal

pub returns-in_err-fields-in-Data : goal.returns-in_err-fields-in-Data
returns-in_err-fields-in-Data c = λ s h.
    let last = c.in_ok-section-in-Data.ensures in
    refused _ _ _ _ c.from_residual-in_err-fields-in-Data.ensures.1
    (fields_refused s c.args.card c.in-Data.is _ (h.begun ∙ last.1) _ (c.in_err-fields-in-Data.ensures.judged last.0))

pub returns-in-Section : goal.returns-in-Section
returns-in-Section c = λ s h.
    judged_as _ (judge_section s c.get.result.now c.get-in-Section.result.now c.get-in-Section-2.result.now) c.begin.new.self c.begin.result
    (section_card s c.args.card _ _ _ c.in-Section.is c.get.ensures c.get-in-Section.ensures c.get-in-Section-2.ensures)
    (c.begin.ensures s h)

pub returns-in_ok-fields-in-Data : goal.returns-in_ok-fields-in-Data
returns-in_ok-fields-in-Data c = λ s h.
    let last = c.in_ok-section-in-Data.ensures in
    let fields = c.in_ok-fields-in-Data.fields in
    judged_as _ (judge_data s.begun s fields) c.take_data.new.self c.take_data.result
    (fields_judged s c.args.card c.in-Data.is _ (h.begun ∙ last.1) fields (c.in_ok-fields-in-Data.ensures.judged last.0)) (c.take_data.ensures s h)

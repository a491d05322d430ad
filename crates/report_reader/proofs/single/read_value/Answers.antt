use Rattle.std.proofs.Common.{◌≡◌, [], ◌∷◌, refl, ap}
use Rattle.rational.specs.Width.{FitsWidth}
use Rattle.lp_text.specs.Report.{value_line}
use Rattle.report_lines.specs.FirstFlaw as expected
use Rattle.report_lines.specs.FirstFlaw.{Expected, column_total, repeated}
use Rattle.report_reader.proofs.OneLine.{line_judged, line_refused, match_as}
use Rattle.report_reader.proofs.single.read_value.Goals as goal

pub returns-in_err-line : goal.returns-in_err-line
returns-in_err-line g c = λ d.
    line_refused d g.S.Source.remaining g.S.Source.fault_count _ _ _ _ (expected.value c.args.word.now c.args.name.now) (λ _. [])
    (λ v lines. (lines ≡ value_line c.args.word.now v c.args.name.now ∷ []) × FitsWidth 127 v)
    c.requires _ _ c.in_err-line.ensures.cause c.in_err-line.ensures.after c.in_err-line.ensures.stays c.in_err-line.ensures.never_falls c.from_residual.ensures.1

pub returns : goal.returns
returns g c = λ d.
    line_judged d g.S.Source.remaining g.S.Source.fault_count _ _ _ _ (expected.value c.args.word.now c.args.name.now) (λ _. [])
    (λ v lines. (lines ≡ value_line c.args.word.now v c.args.name.now ∷ []) × FitsWidth 127 v)
    c.requires c.in_ok-line.line c.bytes.result.now c.value.result _ c.in_ok-line.ensures.line c.in_ok-line.ensures.whole
    (c.in_ok-line.ensures.stays (λ is. cc)) c.bytes.ensures
    (match_as c.value.result (λ v h. ((v, h.1, h.0, refl), (ap (λ l. l ∷ []) h.0, h.1))) (λ f h. h) c.value.ensures) c.judged.ensures

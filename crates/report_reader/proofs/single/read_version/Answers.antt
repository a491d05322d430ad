use Rattle.std.proofs.Common.{◌≡◌, [], ◌∷◌, ap}
use Rattle.report_lines.specs.FirstFlaw as expected
use Rattle.report_lines.specs.FirstFlaw.{Expected, column_total, repeated}
use Rattle.report_reader.specs.Inner.Lines.{after_version, version_of}
use Rattle.report_reader.proofs.OneLine.{line_judged, line_refused, match_as}
use Rattle.report_reader.proofs.single.read_version.Goals as goal

pub returns-in_err-line : goal.returns-in_err-line
returns-in_err-line g c = λ d.
    line_refused d g.S.Source.remaining g.S.Source.fault_count _ _ _ _ (expected.version) (after_version) (λ tells lines. lines ≡ version_of tells ∷ [])
    c.requires _ _ c.in_err-line.ensures.cause c.in_err-line.ensures.after c.in_err-line.ensures.stays c.in_err-line.ensures.never_falls c.from_residual.ensures.1

pub returns : goal.returns
returns g c = λ d.
    line_judged d g.S.Source.remaining g.S.Source.fault_count _ _ _ _ (expected.version) (after_version) (λ tells lines. lines ≡ version_of tells ∷ [])
    c.requires c.in_ok-line.line c.bytes.result.now c.version.result _ c.in_ok-line.ensures.line c.in_ok-line.ensures.whole
    (c.in_ok-line.ensures.stays (λ is. cc)) c.bytes.ensures
    (match_as c.version.result (λ v h. (h.1, ap (λ l. l ∷ []) h.0)) (λ f h. h) (c.version.ensures d)) c.judged.ensures

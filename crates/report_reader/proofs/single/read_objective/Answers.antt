use Rattle.std.proofs.Common.{◌≡◌, [], ◌∷◌, ◌++◌, refl, ap}
use Rattle.std.specs.Prelude.{codes}
use Rattle.rational.specs.Width.{FitsWidth}
use Rattle.lp_text.specs.Fraction.{fraction_text}
use Rattle.report_lines.specs.FirstFlaw as expected
use Rattle.report_lines.specs.FirstFlaw.{Expected, column_total, repeated}
use Rattle.report_reader.proofs.OneLine.{line_judged, line_refused, match_as}
use Rattle.report_reader.proofs.single.read_objective.Goals as goal

pub returns-in_err-line : goal.returns-in_err-line
returns-in_err-line g c = λ d.
    line_refused d g.S.Source.remaining g.S.Source.fault_count _ _ _ _ (expected.objective) (λ _. []) (λ v lines. (lines ≡ (codes "OBJECTIVE " ++ fraction_text v) ∷ []) × FitsWidth 127 v)
    c.requires _ _ c.in_err-line.ensures.cause c.in_err-line.ensures.after c.in_err-line.ensures.stays c.in_err-line.ensures.never_falls c.from_residual.ensures.1

pub returns : goal.returns
returns g c = λ d.
    line_judged d g.S.Source.remaining g.S.Source.fault_count _ _ _ _ (expected.objective) (λ _. []) (λ v lines. (lines ≡ (codes "OBJECTIVE " ++ fraction_text v) ∷ []) × FitsWidth 127 v)
    c.requires c.in_ok-line.line c.bytes.result.now c.objective.result _ c.in_ok-line.ensures.line c.in_ok-line.ensures.whole
    (c.in_ok-line.ensures.stays (λ is. cc)) c.bytes.ensures
    (match_as c.objective.result (λ v h. ((v, h.1, h.0, refl), (ap (λ l. l ∷ []) h.0, h.1))) (λ f h. h) c.objective.ensures) c.judged.ensures

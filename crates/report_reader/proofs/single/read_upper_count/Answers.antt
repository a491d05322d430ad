use Rattle.std.proofs.Common.{◌≡◌, [], ◌∷◌, refl, ap, arith}
use Rattle.std.specs.Prelude.{codes}
use Rattle.lp_text.specs.Report.{number_line}
use Rattle.report_lines.specs.FirstFlaw as expected
use Rattle.report_lines.specs.FirstFlaw.{Expected, column_total, repeated}
use Rattle.report_reader.proofs.OneLine.{count_line, line_judged, line_refused, match_as, match_both}
use Rattle.report_reader.proofs.single.read_upper_count.Goals as goal

pub returns-in_err-line : goal.returns-in_err-line
returns-in_err-line g c =
    line_refused c.args.deck.now g.S.Source.remaining g.S.Source.fault_count _ _ _ _ (expected.upper) (λ count. repeated (expected.at 0) count)
    (λ count lines. lines ≡ number_line (codes "UPPER") count ∷ [])
    c.requires _ _ c.in_err-line.ensures.cause c.in_err-line.ensures.after c.in_err-line.ensures.stays c.in_err-line.ensures.never_falls c.from_residual.ensures.1

pub returns : goal.returns
returns g c =
    line_judged c.args.deck.now g.S.Source.remaining g.S.Source.fault_count _ _ _ _ (expected.upper) (λ count. repeated (expected.at 0) count)
    (λ count lines. lines ≡ number_line (codes "UPPER") count ∷ [])
    c.requires c.in_ok-line.line c.bytes.result.now c.upper_count.result _ c.in_ok-line.ensures.line c.in_ok-line.ensures.whole
    (c.in_ok-line.ensures.stays (λ is. cc)) c.bytes.ensures
    (match_as c.upper_count.result (λ count
    h. ((count, h.0.0, h.0.1, refl), ap (λ l. l ∷ []) (count_line (codes "UPPER") c.bytes.result.now count h.0.1 (omega (arith, h.1)))))
    (λ f h. h) (match_both _ _ _ c.upper_count.result c.upper_count.ensures.upper c.upper_count.ensures.few)) c.judged.ensures

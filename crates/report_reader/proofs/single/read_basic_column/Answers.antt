use Rattle.std.proofs.Common.{◌≡◌, ◌<◌, [], ◌∷◌, refl, ap, subst}
use Rattle.std.specs.Prelude.{codes}
use Rattle.lp_text.specs.Report.{number_line}
use Rattle.report_lines.specs.Judged.{IsIndexFlaw}
use Rattle.report_lines.specs.FirstFlaw as expected
use Rattle.report_lines.specs.FirstFlaw.{Expected, column_total, repeated}
use Rattle.report_reader.proofs.OneLine.{line_judged, line_refused, match_as}
use Rattle.report_reader.proofs.single.read_basic_column.Goals as goal

pub returns-in_err-line : goal.returns-in_err-line
returns-in_err-line g c = λ more.
    line_refused c.args.deck.now g.S.Source.remaining g.S.Source.fault_count _ _ _ _ (expected.basic more) (λ _. repeated expected.basic more)
    (λ q lines. (q < column_total c.args.deck.now) × (lines ≡ number_line (codes "BASIC") q ∷ []))
    c.requires _ _ c.in_err-line.ensures.cause c.in_err-line.ensures.after c.in_err-line.ensures.stays c.in_err-line.ensures.never_falls c.from_residual.ensures.1

pub returns : goal.returns
returns g c = λ more.
    line_judged c.args.deck.now g.S.Source.remaining g.S.Source.fault_count _ _ _ _ (expected.basic more) (λ _. repeated expected.basic more)
    (λ q lines. (q < column_total c.args.deck.now) × (lines ≡ number_line (codes "BASIC") q ∷ []))
    c.requires c.in_ok-line.line c.bytes.result.now c.index.result _ c.in_ok-line.ensures.line c.in_ok-line.ensures.whole
    (c.in_ok-line.ensures.stays (λ is. cc)) c.bytes.ensures
    (match_as c.index.result (λ q
    h. ((q, subst (λ n. q < n) c.column_total.ensures h.2, h.0, refl), (subst (λ n. q < n) c.column_total.ensures h.2, ap (λ l. l ∷ []) h.0)))
    (λ f h. subst (λ n. IsIndexFlaw (codes "BASIC") 0 n c.bytes.result.now f) c.column_total.ensures h) c.index.ensures) c.judged.ensures

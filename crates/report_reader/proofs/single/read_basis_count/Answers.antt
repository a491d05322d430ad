use Rattle.std.proofs.Common.{◌≡◌, [], ◌∷◌, length, refl, ap, arith}
use Rattle.std.specs.Prelude.{codes}
use Rattle.lp_text.specs.Report.{number_line}
use Rattle.report_lines.specs.FirstFlaw as expected
use Rattle.report_lines.specs.FirstFlaw.{Expected, column_total, repeated}
use Rattle.report_reader.proofs.OneLine.{count_line, line_judged, line_refused, match_as, match_both}
use Rattle.report_reader.proofs.single.read_basis_count.Goals as goal

pub returns-in_err-line : goal.returns-in_err-line
returns-in_err-line g c =
    line_refused c.args.deck.now g.S.Source.remaining g.S.Source.fault_count _ _ _ _ (expected.basis)
    (λ _. repeated expected.basic (length c.args.deck.now.rows)) (λ _ lines. lines ≡ number_line (codes "BASIS") (length c.args.deck.now.rows) ∷ [])
    c.requires _ _ c.in_err-line.ensures.cause c.in_err-line.ensures.after c.in_err-line.ensures.stays c.in_err-line.ensures.never_falls c.from_residual.ensures.1

pub returns : goal.returns
returns g c =
    line_judged c.args.deck.now g.S.Source.remaining g.S.Source.fault_count _ _ _ _ (expected.basis)
    (λ _. repeated expected.basic (length c.args.deck.now.rows)) (λ _ lines. lines ≡ number_line (codes "BASIS") (length c.args.deck.now.rows) ∷ [])
    c.requires c.in_ok-line.line c.bytes.result.now c.basis_count.result _ c.in_ok-line.ensures.line c.in_ok-line.ensures.whole
    (c.in_ok-line.ensures.stays (λ is. cc)) c.bytes.ensures
    (match_as c.basis_count.result (λ v
    h. ((h.0, refl), ap (λ l. l ∷ []) (count_line (codes "BASIS") c.bytes.result.now (length c.args.deck.now.rows) h.0 (omega (arith, h.1)))))
    (λ f h. h) (match_both _ _ _ c.basis_count.result c.basis_count.ensures.basis c.basis_count.ensures.few)) c.judged.ensures

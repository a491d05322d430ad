use Rattle.std.proofs.Common.{◌≡◌, [], ◌∷◌, length, refl, ap}
use Rattle.lp_text.specs.Report.{entry_line}
use Rattle.report_lines.specs.Judged.{IsWithin}
use Rattle.report_lines.specs.FirstFlaw as expected
use Rattle.report_lines.specs.FirstFlaw.{Expected, column_total, repeated}
use Rattle.report_reader.proofs.OneLine.{line_judged, line_refused, match_as}
use Rattle.report_reader.proofs.single.read_entry.Goals as goal

pub returns-in_err-line : goal.returns-in_err-line
returns-in_err-line g c = λ more.
    line_refused c.args.deck.now g.S.Source.remaining g.S.Source.fault_count _ _ _ _ (expected.entry more) (λ _. repeated expected.entry more)
    (λ e lines. IsWithin (column_total c.args.deck.now) (length c.args.deck.now.rows) e × (lines ≡ entry_line e ∷ []))
    c.requires _ _ c.in_err-line.ensures.cause c.in_err-line.ensures.after c.in_err-line.ensures.stays c.in_err-line.ensures.never_falls c.from_residual.ensures.1

pub returns : goal.returns
returns g c = λ more.
    line_judged c.args.deck.now g.S.Source.remaining g.S.Source.fault_count _ _ _ _ (expected.entry more) (λ _. repeated expected.entry more)
    (λ e lines. IsWithin (column_total c.args.deck.now) (length c.args.deck.now.rows) e × (lines ≡ entry_line e ∷ []))
    c.requires c.in_ok-line.line c.bytes.result.now c.entry.result _ c.in_ok-line.ensures.line c.in_ok-line.ensures.whole
    (c.in_ok-line.ensures.stays (λ is. cc)) c.bytes.ensures
    (match_as c.entry.result (λ e h. ((e, h.1, h.0, refl), (h.1, ap (λ l. l ∷ []) h.0))) (λ f h. h)
    (rw (c.column_total.ensures, c.rows.ensures.count) at c.entry.ensures)) c.judged.ensures

use Rattle.std.proofs.Common.{◌≡◌, [], ◌∷◌, ◌++◌, refl, ap}
use Rattle.std.specs.Prelude.{codes}
use Rattle.report_lines.specs.FirstFlaw as expected
use Rattle.report_lines.specs.FirstFlaw.{Expected, column_total, repeated}
use Rattle.report_reader.proofs.OneLine.{line_judged, line_refused, match_as}
use Rattle.report_reader.proofs.single.read_title.Goals as goal

pub returns-in_err-line : goal.returns-in_err-line
returns-in_err-line g c =
    line_refused c.args.deck.now g.S.Source.remaining g.S.Source.fault_count _ _ _ _ (expected.title) (λ _. [])
    (λ _ lines. lines ≡ (codes "DECK " ++ c.args.deck.now.name) ∷ [])
    c.requires _ _ c.in_err-line.ensures.cause c.in_err-line.ensures.after c.in_err-line.ensures.stays c.in_err-line.ensures.never_falls c.from_residual.ensures.1

pub returns : goal.returns
returns g c =
    line_judged c.args.deck.now g.S.Source.remaining g.S.Source.fault_count _ _ _ _ (expected.title) (λ _. [])
    (λ _ lines. lines ≡ (codes "DECK " ++ c.args.deck.now.name) ∷ [])
    c.requires c.in_ok-line.line c.bytes.result.now c.title.result _ c.in_ok-line.ensures.line c.in_ok-line.ensures.whole
    (c.in_ok-line.ensures.stays (λ is. cc)) c.bytes.ensures
    (match_as c.title.result (λ v h. ((h, refl), ap (λ l. l ∷ []) h)) (λ f h. h) (rw (c.bytes-2.ensures, c.name.ensures) at c.title.ensures)) c.judged.ensures

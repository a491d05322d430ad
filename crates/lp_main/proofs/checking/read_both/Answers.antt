-- The text of both tells the report behind the deck.
use Rattle.std.proofs.Common.{◌≡◌, [], drop, ap, subst, sym}
use Rattle.std.specs.Prelude.{option_map}
use Rattle.std.specs.Io.KnownBytes.{prepend_known}
use Rattle.mps_cards.specs.NextLine.{lines_left}
use Rattle.report_reader.specs.Reading.{IsReportCause}
use Rattle.lp_main.specs.Inner.Checking.{IsBothCause}
use Rattle.lp_main.proofs.Behind.{report_refused, told_from}
use Rattle.lp_main.proofs.checking.read_both.Goals as goal

pub returns-in-Ok-read_report-clause-told : goal.returns-in-Ok-read_report-clause-told
returns-in-Ok-read_report-clause-told g c =
    let text = g.S.Source.remaining c.args.source.now in
    let mid = g.S.Source.remaining c.load.new.source in
    let count = c.load.new.lines.count in
    told_from c.args.form c.in_ok-deck.deck count text (prepend_known c.mark.new.self.kept mid) c.in-Ok-read_report.report c.in_ok-deck.ensures.read
    (subst (λ k. lines_left k mid ≡ option_map (drop count) (lines_left [] text)) (sym (ap (λ r. r.kept) c.mark.ensures)) c.in_ok-deck.ensures.rest)
    c.in-Ok-read_report.ensures.text c.in-Ok-read_report.ensures.report

pub returns-clause-cause : goal.returns-clause-cause
returns-clause-cause g c =
    let text = g.S.Source.remaining c.args.source.now in
    let mid = g.S.Source.remaining c.load.new.source in
    let left = g.S.Source.remaining c.read_report.new.source in
    let n = g.S.Source.fault_count c.args.source.now in
    let n' = g.S.Source.fault_count c.read_report.new.source in
    let d = c.in_ok-deck.deck in
    let count = c.load.new.lines.count in
    let before = c.mark.new.self in
    subst (IsBothCause c.args.form text left n n') (sym c.refusal_of_report.ensures)
    (report_refused c.args.form d count text before mid left n n' c.in-Err.fault (ap (λ r. r.count) c.mark.ensures) c.in_ok-deck.ensures.read
    (subst (λ k. lines_left k mid ≡ option_map (drop count) (lines_left [] text)) (sym (ap (λ r. r.kept) c.mark.ensures)) c.in_ok-deck.ensures.rest)
    (subst (λ m. IsReportCause d before mid left m n' c.in-Err.fault) (c.in_ok-deck.ensures.stays (λ is. cc)) c.in-Err.ensures.cause))

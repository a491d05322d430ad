use Rattle.std.proofs.Common.{◌≡◌, Err, IfErr, sym, ◌∙◌, ap, subst}
use Rattle.std.proofs.lemmas.Result.{err_from_is_err_and}
use Rattle.io_ends.specs.Count.{Rose}
use Rattle.lp_text.specs.Report.{report_lines}
use Rattle.report_reader.specs.declared.fault.ReportFault.TheVariants as fault
use Rattle.report_reader.specs.Reading.{IsReportCause, IsReportOf}
use Rattle.report_reader.specs.Inner.Reads.{IsRestCause}
use Rattle.report_reader.proofs.WholeReport.{rest_cause, stop_cause, text_is}
use Rattle.report_reader.proofs.report.read_report.Goals as goal

pub returns-in_err-report-clause-cause : goal.returns-in_err-report-clause-cause
returns-in_err-report-clause-cause g c =
    let at = err_from_is_err_and _ c.from_residual.ensures.1 in
    subst (λ r. IfErr r (IsReportCause c.args.deck.now c.args.lines.now (g.S.Source.remaining c.args.source.now)
    (g.S.Source.remaining c.read_lines.new.source) (g.S.Source.fault_count c.args.source.now) (g.S.Source.fault_count c.read_lines.new.source)))
    (sym (at.1 ∙ ap Err at.2))
    (stop_cause c.args.deck.now c.args.lines.now (g.S.Source.remaining c.args.source.now) _ _ _ _ c.requires.since c.in_err-report.ensures.stop)

pub returns-in_err-read_rest-clause-cause : goal.returns-in_err-read_rest-clause-cause
returns-in_err-read_rest-clause-cause g c =
    let at = err_from_is_err_and _ c.from_residual-in_err-read_rest.ensures.1 in
    let reads = c.in_ok-report.ensures in
    subst (λ r. IfErr r (IsReportCause c.args.deck.now c.args.lines.now (g.S.Source.remaining c.args.source.now)
    (g.S.Source.remaining c.read_rest.new.source) (g.S.Source.fault_count c.args.source.now) (g.S.Source.fault_count c.read_rest.new.source)))
    (sym (at.1 ∙ ap Err at.2))
    (rest_cause c.args.deck.now c.args.lines.now c.read_lines.new.lines (g.S.Source.remaining c.args.source.now) (g.S.Source.remaining c.read_lines.new.source)
    (λ ls. IsReportOf c.args.deck.now c.in_ok-report.report × (ls ≡ report_lines c.args.deck.now c.in_ok-report.report)) c.requires.since reads.found
    (g.S.Source.remaining c.read_rest.new.source) (g.S.Source.fault_count c.args.source.now) (g.S.Source.fault_count c.read_rest.new.source) _
    (subst (λ n. IsRestCause c.args.deck.now c.read_lines.new.lines (g.S.Source.remaining c.read_lines.new.source)
    (g.S.Source.remaining c.read_rest.new.source) n (g.S.Source.fault_count c.read_rest.new.source) c.in_err-read_rest.field-0.0)
    (reads.stays (λ e. cc)) (c.in_err-read_rest.ensures.cause c.args.deck.now)))

pub returns-in_err-read_rest-clause-rose : goal.returns-in_err-read_rest-clause-rose
returns-in_err-read_rest-clause-rose g c = λ is.
    let at = err_from_is_err_and _ c.from_residual-in_err-read_rest.ensures.1 in
    let same = sym (at.1 ∙ ap Err at.2) ∙ is in
    let read : c.in_err-read_rest.field-0.0 ≡ fault.Read = cc in
    subst (λ n. Rose n (g.S.Source.fault_count c.read_rest.new.source)) (c.in_ok-report.ensures.stays (λ e. cc)) (c.in_err-read_rest.ensures.rose (ap Err read))

pub returns-clause-text : goal.returns-clause-text
returns-clause-text g c =
    let reads = c.in_ok-report.ensures in
    text_is c.args.deck.now c.args.lines.now c.read_lines.new.lines (g.S.Source.remaining c.args.source.now) (g.S.Source.remaining c.read_lines.new.source)
    (λ ls. IsReportOf c.args.deck.now c.in_ok-report.report × (ls ≡ report_lines c.args.deck.now c.in_ok-report.report)) c.requires.since reads.found
    c.in_ok-report.report reads.found.holds.1 c.in_ok-read_rest.ensures.end

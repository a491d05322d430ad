use Rattle.std.proofs.Common.{[], Some}
use Rattle.mps_reader.proofs.NeededLemmas.{unread}
use Rattle.lp_main.specs.declared.refusal.Refusal.TheVariants.{Memory, Write}
use Rattle.lp_main.specs.declared.status.Status.TheVariants as status
use Rattle.lp_main.specs.declared.words.Task.TheVariants.{Solve}
use Rattle.lp_main.specs.Ends.{status_of_end}
use Rattle.lp_main.specs.Works.{counts}
use Rattle.lp_main.specs.World.{stream}
use Rattle.lp_main.proofs.Working.{calmly_done, calmly_handed_on, nothing_handed_on, nothing_worked, of_text, reading_fits, report_fits, write_fits}
use Rattle.lp_main.proofs.Solving.{is_read, refused_cause, reports, still_other, unwritten_cause}
use Rattle.lp_main.proofs.solve.solve.Goals as goal

pub returns-in_default-clause-needed : goal.returns-in_default-clause-needed
returns-in_default-clause-needed g c = unread c.args.asked.form [] (g.S.Source.remaining c.args.source.now)

pub returns-in_err-report-clause-cause : goal.returns-in_err-report-clause-cause
returns-in_err-report-clause-cause g c =
    let text = g.S.Source.remaining c.args.source.now in
    refused_cause c.args.asked (g.A.Arith.width c.args.arith.now) c.from_residual-in_err-report.result c.in_err-report.field-0.0
    (stream (g.S.Source.remaining c.args.source.now) (g.S.Source.fault_count c.args.source.now))
    (stream (g.S.Source.remaining c.load.new.source) (g.S.Source.fault_count c.load.new.source)) (g.K.Sink.contents c.args.out.now)
    c.in_ok-deck.deck (is_read c.args.asked.form text c.in_ok-deck.deck c.load.new.lines.count c.in_ok-deck.ensures.read) c.in_err-report.ensures.cause
    c.from_residual-in_err-report.ensures.1

pub returns-in_err-write-clause-cause : goal.returns-in_err-write-clause-cause
returns-in_err-write-clause-cause g c =
    let text = g.S.Source.remaining c.args.source.now in
    unwritten_cause c.args.asked (g.K.Sink.contents c.args.out.now) (g.K.Sink.contents c.write.new.out) c.in_ok-deck.deck c.in_ok-report.report
    c.in_ok-report.ensures.report (g.A.Arith.width c.args.arith.now) c.from_residual-in_err-write.result c.in_err-write.field-0.0
    (stream (g.S.Source.remaining c.args.source.now) (g.S.Source.fault_count c.args.source.now))
    (stream (g.S.Source.remaining c.load.new.source) (g.S.Source.fault_count c.load.new.source)) (is_read c.args.asked.form text c.in_ok-deck.deck c.load.new.lines.count c.in_ok-deck.ensures.read)
    c.in_err-write.ensures.cause c.write.ensures.begun c.from_residual-in_err-write.ensures.1

pub returns-in_err-write-clause-sink_stays : goal.returns-in_err-write-clause-sink_stays
returns-in_err-write-clause-sink_stays g c = λ other.
    c.in_err-write.ensures.stays (still_other c.from_residual-in_err-write.result c.in_err-write.field-0.0 Write c.from_residual-in_err-write.ensures.1 other)

pub returns-clause-done : goal.returns-clause-done
returns-clause-done g c =
    let text = g.S.Source.remaining c.args.source.now in
    reports c.args.asked (g.K.Sink.contents c.args.out.now) (g.K.Sink.contents c.write.new.out) c.in_ok-deck.deck c.in_ok-report.report
    c.in_ok-report.ensures.report (g.A.Arith.width c.args.arith.now) text (is_read c.args.asked.form text c.in_ok-deck.deck c.load.new.lines.count c.in_ok-deck.ensures.read)
    c.in_ok-write.ensures.written

pub returns-in_default-clause-works : goal.returns-in_default-clause-works
returns-in_default-clause-works g c =
    let w = g.A.Arith.width c.args.arith.now in
    let text = g.S.Source.remaining c.args.source.now in
    let old = counts (g.A.Arith.unfit_count c.args.arith.now) (g.A.Arith.work_count c.args.arith.now) in
    nothing_worked (Some (Solve c.args.asked)) w text old Memory (λ e. cc)

pub returns-in_err-deck-clause-works : goal.returns-in_err-deck-clause-works
returns-in_err-deck-clause-works g c =
    let w = g.A.Arith.width c.args.arith.now in
    let text = g.S.Source.remaining c.args.source.now in
    let old = counts (g.A.Arith.unfit_count c.args.arith.now) (g.A.Arith.work_count c.args.arith.now) in
    nothing_handed_on (Some (Solve c.args.asked)) w text old c.from_residual.result c.in_err-deck.field-0.0
    (reading_fits c.args.asked.form text (g.S.Source.remaining c.load.new.source) c.in_err-deck.field-0.0 c.in_err-deck.ensures.cause) c.from_residual.ensures.1

pub returns-in_err-report-clause-works : goal.returns-in_err-report-clause-works
returns-in_err-report-clause-works g c =
    let w = g.A.Arith.width c.args.arith.now in
    let text = g.S.Source.remaining c.args.source.now in
    let old = counts (g.A.Arith.unfit_count c.args.arith.now) (g.A.Arith.work_count c.args.arith.now) in
    let new = counts (g.A.Arith.unfit_count c.report_of.new.arith) (g.A.Arith.work_count c.report_of.new.arith) in
    let d = c.in_ok-deck.deck in
    let read = is_read c.args.asked.form text d c.load.new.lines.count c.in_ok-deck.ensures.read in
    let result = c.from_residual-in_err-report.result in
    of_text c.args.asked w text d old new (status_of_end result) read
    (calmly_handed_on c.args.asked.workers w d old new c.report_of.ensures.calm result c.in_err-report.field-0.0 c.from_residual-in_err-report.ensures.1
    (report_fits c.args.asked w d c.in_err-report.field-0.0 c.in_err-report.ensures.cause))

pub returns-in_err-write-clause-works : goal.returns-in_err-write-clause-works
returns-in_err-write-clause-works g c =
    let w = g.A.Arith.width c.args.arith.now in
    let text = g.S.Source.remaining c.args.source.now in
    let old = counts (g.A.Arith.unfit_count c.args.arith.now) (g.A.Arith.work_count c.args.arith.now) in
    let new = counts (g.A.Arith.unfit_count c.report_of.new.arith) (g.A.Arith.work_count c.report_of.new.arith) in
    let d = c.in_ok-deck.deck in
    let read = is_read c.args.asked.form text d c.load.new.lines.count c.in_ok-deck.ensures.read in
    let result = c.from_residual-in_err-write.result in
    of_text c.args.asked w text d old new (status_of_end result) read
    (calmly_handed_on c.args.asked.workers w d old new c.report_of.ensures.calm result c.in_err-write.field-0.0 c.from_residual-in_err-write.ensures.1
    (λ calm. write_fits c.in_err-write.field-0.0 c.in_err-write.ensures.cause))

pub returns-clause-works : goal.returns-clause-works
returns-clause-works g c =
    let w = g.A.Arith.width c.args.arith.now in
    let text = g.S.Source.remaining c.args.source.now in
    let old = counts (g.A.Arith.unfit_count c.args.arith.now) (g.A.Arith.work_count c.args.arith.now) in
    let new = counts (g.A.Arith.unfit_count c.report_of.new.arith) (g.A.Arith.work_count c.report_of.new.arith) in
    let d = c.in_ok-deck.deck in
    let read = is_read c.args.asked.form text d c.load.new.lines.count c.in_ok-deck.ensures.read in
    of_text c.args.asked w text d old new status.Done read (calmly_done c.args.asked.workers w d old new c.report_of.ensures.calm c.in_ok-report.ensures.work)

use Rattle.std.proofs.Common.{refl, subst}
use Rattle.io_ends.specs.Bytes.{Appends, AppendsPrefix}
use Rattle.deck_tools.specs.Transport.{transport}
use Rattle.lp_main.specs.declared.refusal.Refusal.TheVariants.{Memory, Write}
use Rattle.lp_main.specs.declared.status.Answer.TheVariants.{Done}
use Rattle.lp_main.specs.declared.status.Status.TheVariants as status
use Rattle.lp_main.specs.Ends.{status_of_end}
use Rattle.lp_main.specs.Works.{WorksCalmly, counts}
use Rattle.lp_main.proofs.Working.{calmly_done, calmly_handed_on, calmly_refused, report_fits}
use Rattle.lp_main.proofs.Summing.{all_moves, has_optimum, not_solved, summed_up}
use Rattle.lp_main.proofs.making.make_and_solve.Goals as goal

pub summary-requires-clause-optimum : goal.summary-requires-clause-optimum
summary-requires-clause-optimum g c =
    has_optimum c.args.size c.in-Ok.deck c.in-Ok.ensures.deck c.in-Ok.ensures.feasible c.in-Ok.ensures.not_below c.in_ok-report.report c.in_ok-report.ensures.report

pub returns-in-Ok-write_all-clause-done : goal.returns-in-Ok-write_all-clause-done
returns-in-Ok-write_all-clause-done g c =
    let optimum = has_optimum c.args.size c.in-Ok.deck c.in-Ok.ensures.deck c.in-Ok.ensures.feasible c.in-Ok.ensures.not_below c.in_ok-report.report
    c.in_ok-report.ensures.report in λ text. (
      c.in-Ok-summary.text.items,
      summed_up c.args.size c.in-Ok.deck c.in-Ok.ensures.deck c.in_ok-report.report c.in_ok-report.ensures.report c.in-Ok-summary.text.items c.in-Ok-summary.ensures optimum,
      subst (λ text. Appends (g.K.Sink.contents c.args.out.now) (g.K.Sink.contents c.write_all.new.sink) text) c.as_slice.ensures.value c.in-Ok-write_all.ensures.appended,
    )

pub returns-clause-cause : goal.returns-clause-cause
returns-clause-cause g c =
    let optimum = has_optimum c.args.size c.in-Ok.deck c.in-Ok.ensures.deck c.in-Ok.ensures.feasible c.in-Ok.ensures.not_below c.in_ok-report.report
    c.in_ok-report.ensures.report in λ input. (
      Done,
      c.in-Ok-summary.text.items,
      summed_up c.args.size c.in-Ok.deck c.in-Ok.ensures.deck c.in_ok-report.report c.in_ok-report.ensures.report c.in-Ok-summary.text.items c.in-Ok-summary.ensures optimum,
      subst (λ text. AppendsPrefix (g.K.Sink.contents c.args.out.now) (g.K.Sink.contents c.write_all.new.sink) text) c.as_slice.ensures.value c.in-Err.ensures.part,
    )

pub returns-in_err-report-clause-cause : goal.returns-in_err-report-clause-cause
returns-in_err-report-clause-cause g c = λ input.
    not_solved c.args.size c.in-Ok.deck c.in-Ok.ensures.deck (g.A.Arith.width c.args.arith.now) input (g.K.Sink.contents c.args.out.now) c.from_residual.result
    c.in_err-report.field-0.0 c.in_err-report.ensures.cause c.from_residual.ensures.1

pub returns-in_default-clause-works : goal.returns-in_default-clause-works
returns-in_default-clause-works g c =
    let w = g.A.Arith.width c.args.arith.now in
    let old = counts (g.A.Arith.unfit_count c.args.arith.now) (g.A.Arith.work_count c.args.arith.now) in
    calmly_refused 0 w (transport c.args.size) old old (λ calm. refl) Memory (λ calm. λ e. cc)

pub returns-in_err-report-clause-works : goal.returns-in_err-report-clause-works
returns-in_err-report-clause-works g c =
    let w = g.A.Arith.width c.args.arith.now in
    let old = counts (g.A.Arith.unfit_count c.args.arith.now) (g.A.Arith.work_count c.args.arith.now) in
    let new = counts (g.A.Arith.unfit_count c.report_of.new.arith) (g.A.Arith.work_count c.report_of.new.arith) in
    let d = c.in-Ok.deck in
    subst (λ d. WorksCalmly 0 w d old new (status_of_end c.from_residual.result)) c.in-Ok.ensures.deck
    (calmly_handed_on 0 w d old new c.report_of.ensures.calm c.from_residual.result c.in_err-report.field-0.0 c.from_residual.ensures.1
    (report_fits all_moves w d c.in_err-report.field-0.0 c.in_err-report.ensures.cause))

pub returns-in_default-summary-clause-works : goal.returns-in_default-summary-clause-works
returns-in_default-summary-clause-works g c =
    let w = g.A.Arith.width c.args.arith.now in
    let old = counts (g.A.Arith.unfit_count c.args.arith.now) (g.A.Arith.work_count c.args.arith.now) in
    let new = counts (g.A.Arith.unfit_count c.report_of.new.arith) (g.A.Arith.work_count c.report_of.new.arith) in
    let d = c.in-Ok.deck in
    subst (λ d. WorksCalmly 0 w d old new status.Memory) c.in-Ok.ensures.deck
    (calmly_refused 0 w d old new c.report_of.ensures.calm Memory (λ calm. λ e. cc))

pub returns-clause-works : goal.returns-clause-works
returns-clause-works g c =
    let w = g.A.Arith.width c.args.arith.now in
    let old = counts (g.A.Arith.unfit_count c.args.arith.now) (g.A.Arith.work_count c.args.arith.now) in
    let new = counts (g.A.Arith.unfit_count c.report_of.new.arith) (g.A.Arith.work_count c.report_of.new.arith) in
    let d = c.in-Ok.deck in
    subst (λ d. WorksCalmly 0 w d old new status.WriteFault) c.in-Ok.ensures.deck
    (calmly_refused 0 w d old new c.report_of.ensures.calm Write (λ calm. λ e. cc))

pub returns-in-Ok-write_all-clause-works : goal.returns-in-Ok-write_all-clause-works
returns-in-Ok-write_all-clause-works g c =
    let w = g.A.Arith.width c.args.arith.now in
    let old = counts (g.A.Arith.unfit_count c.args.arith.now) (g.A.Arith.work_count c.args.arith.now) in
    let new = counts (g.A.Arith.unfit_count c.report_of.new.arith) (g.A.Arith.work_count c.report_of.new.arith) in
    let d = c.in-Ok.deck in
    subst (λ d. WorksCalmly 0 w d old new status.Done) c.in-Ok.ensures.deck
    (calmly_done 0 w d old new c.report_of.ensures.calm c.in_ok-report.ensures.work)

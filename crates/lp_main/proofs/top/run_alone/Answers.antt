use Rattle.std.proofs.Common.{subst, sym, ◌∙◌}
use Rattle.std.specs.Prelude.{map}
use Rattle.std.specs.String.{string_bytes}
use Rattle.lp_words.specs.Words.{wish_of}
use Rattle.lp_main.specs.Runs.{Runs}
use Rattle.lp_main.specs.Truths.{IsDoneTruly}
use Rattle.lp_main.specs.Words.{task_of}
use Rattle.lp_main.specs.Refusal.{status_of_refusal}
use Rattle.lp_main.specs.Works.{Works, counts}
use Rattle.lp_main.specs.World.{stream, world}
use Rattle.lp_main.proofs.Ending.{runs_done, runs_refused, said_status}
use Rattle.lp_main.proofs.Truly.{truly_done, truly_refused}
use Rattle.lp_main.proofs.Working.{not_done, said_instead}
use Rattle.lp_main.proofs.top.run_alone.Goals as goal

pub returns-in-Ok-clause-runs : goal.returns-in-Ok-clause-runs
returns-in-Ok-clause-runs g c =
    let w = g.A.Arith.width c.args.arith.now in
    let input = stream (g.S.Source.remaining c.args.input.now) (g.S.Source.fault_count c.args.input.now) in
    let input' = stream (g.S.Source.remaining c.serve.new.input) (g.S.Source.fault_count c.serve.new.input) in
    let output = stream (g.K.Sink.contents c.args.out.now) (g.K.Sink.fault_count c.args.out.now) in
    let output' = stream (g.K.Sink.contents c.serve.new.out) (g.K.Sink.fault_count c.serve.new.out) in
    let errors = stream (g.E.Sink.contents c.args.err.now) (g.E.Sink.fault_count c.args.err.now) in
    let what = task_of (wish_of (map string_bytes c.args.words.now)) in
    subst (Runs what w (world input output errors) (world input' output' errors)) (sym c.status.ensures)
    (runs_done w input input' output output' c.serve.ensures.source_never_falls c.serve.ensures.sink_never_falls what errors c.in-Ok.answer
    c.in-Ok.ensures.leaves c.serve.ensures.needed (c.in-Ok.ensures.source_stays (λ e. cc)) (c.in-Ok.ensures.sink_stays (λ e. cc)))

pub returns-in-Err-clause-runs : goal.returns-in-Err-clause-runs
returns-in-Err-clause-runs g c =
    let w = g.A.Arith.width c.args.arith.now in
    let input = stream (g.S.Source.remaining c.args.input.now) (g.S.Source.fault_count c.args.input.now) in
    let input' = stream (g.S.Source.remaining c.serve.new.input) (g.S.Source.fault_count c.serve.new.input) in
    let output = stream (g.K.Sink.contents c.args.out.now) (g.K.Sink.fault_count c.args.out.now) in
    let output' = stream (g.K.Sink.contents c.serve.new.out) (g.K.Sink.fault_count c.serve.new.out) in
    let errors = stream (g.E.Sink.contents c.args.err.now) (g.E.Sink.fault_count c.args.err.now) in
    let errors' = stream (g.E.Sink.contents c.refuse.new.err) (g.E.Sink.fault_count c.refuse.new.err) in
    runs_refused w input input' output output' c.serve.ensures.source_never_falls c.serve.ensures.sink_never_falls
    c.in-Err.refusal c.in-Err.ensures.source_rose c.in-Err.ensures.source_stays c.in-Err.ensures.sink_rose c.in-Err.ensures.sink_stays c.refuse.result
    errors errors' (task_of (wish_of (map string_bytes c.args.words.now))) c.in-Err.ensures.leaves c.serve.ensures.needed c.refuse.ensures.said

pub returns-in-Ok-clause-works : goal.returns-in-Ok-clause-works
returns-in-Ok-clause-works g c =
    let w = g.A.Arith.width c.args.arith.now in
    let text = g.S.Source.remaining c.args.input.now in
    let old = counts (g.A.Arith.unfit_count c.args.arith.now) (g.A.Arith.work_count c.args.arith.now) in
    let new = counts (g.A.Arith.unfit_count c.serve.new.arith) (g.A.Arith.work_count c.serve.new.arith) in
    let what = task_of (wish_of (map string_bytes c.args.words.now)) in
    subst (Works what w text old new) (sym c.status.ensures) c.in-Ok.ensures.works

pub returns-in-Err-clause-works : goal.returns-in-Err-clause-works
returns-in-Err-clause-works g c =
    let w = g.A.Arith.width c.args.arith.now in
    let text = g.S.Source.remaining c.args.input.now in
    let old = counts (g.A.Arith.unfit_count c.args.arith.now) (g.A.Arith.work_count c.args.arith.now) in
    let new = counts (g.A.Arith.unfit_count c.serve.new.arith) (g.A.Arith.work_count c.serve.new.arith) in
    let what = task_of (wish_of (map string_bytes c.args.words.now)) in
    let said = c.refuse.ensures.said in
    said_instead what w text old new (status_of_refusal c.in-Err.refusal) c.refuse.result (λ done. not_done said.0 (sym said.2 ∙ done))
    (said_status c.in-Err.refusal c.refuse.result (stream (g.E.Sink.contents c.args.err.now) (g.E.Sink.fault_count c.args.err.now))
    (stream (g.E.Sink.contents c.refuse.new.err) (g.E.Sink.fault_count c.refuse.new.err)) said) c.in-Err.ensures.works

pub returns-in-Ok-clause-truth : goal.returns-in-Ok-clause-truth
returns-in-Ok-clause-truth g c =
    let old = g.K.Sink.contents c.args.out.now in
    let new = g.K.Sink.contents c.serve.new.out in
    let what = task_of (wish_of (map string_bytes c.args.words.now)) in
    let text = g.S.Source.remaining c.args.input.now in
    subst (IsDoneTruly what text old new) (sym c.status.ensures) (truly_done (g.A.Arith.width c.args.arith.now) old new what text c.in-Ok.answer c.in-Ok.ensures.leaves.0)

pub returns-in-Err-clause-truth : goal.returns-in-Err-clause-truth
returns-in-Err-clause-truth g c =
    let said = c.refuse.ensures.said in
    truly_refused (g.A.Arith.width c.args.arith.now) (g.K.Sink.contents c.args.out.now) (g.K.Sink.contents c.serve.new.out)
    (task_of (wish_of (map string_bytes c.args.words.now))) (g.S.Source.remaining c.args.input.now) c.refuse.result (λ done. not_done said.0 (sym said.2 ∙ done))

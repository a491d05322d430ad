use Rattle.std.proofs.Common.{Some, ap, subst, ◌∙◌}
use Rattle.std.specs.Prelude.{IfErr, IfOk, map}
use Rattle.std.specs.String.{string_bytes}
use Rattle.lp_words.specs.Words.{wish_of}
use Rattle.lp_main.specs.declared.words.Task.TheVariants as task
use Rattle.lp_main.specs.Ends.{IsCause, Writes}
use Rattle.lp_main.specs.Words.{task_of}
use Rattle.lp_main.specs.Works.{counts}
use Rattle.lp_main.specs.World.{stream}
use Rattle.lp_main.proofs.Ending.{left_by, nothing_read, unserved_cause}
use Rattle.lp_main.proofs.Working.{nothing_worked, unserved_fits}
use Rattle.lp_main.proofs.top.serve.Goals as goal

pub returns-in-Err-clause-needed : goal.returns-in-Err-clause-needed
returns-in-Err-clause-needed g c =
    nothing_read (task_of (wish_of (map string_bytes c.args.words.now)))
    (stream (g.S.Source.remaining c.args.input.now) (g.S.Source.fault_count c.args.input.now))

pub returns-in-Err-clause-works : goal.returns-in-Err-clause-works
returns-in-Err-clause-works g c =
    nothing_worked (task_of (wish_of (map string_bytes c.args.words.now))) (g.A.Arith.width c.args.arith.now) (g.S.Source.remaining c.args.input.now)
    (counts (g.A.Arith.unfit_count c.args.arith.now) (g.A.Arith.work_count c.args.arith.now)) c.in-Err.unserved
    (unserved_fits (task_of (wish_of (map string_bytes c.args.words.now))) c.in-Err.unserved c.in-Err.ensures.unserved)

pub returns-in-Err-clause-leaves : goal.returns-in-Err-clause-leaves
returns-in-Err-clause-leaves g c =
    unserved_cause (task_of (wish_of (map string_bytes c.args.words.now))) (g.A.Arith.width c.args.arith.now)
    (stream (g.S.Source.remaining c.args.input.now) (g.S.Source.fault_count c.args.input.now)) (g.K.Sink.contents c.args.out.now) c.in-Err.unserved c.in-Err.ensures.unserved

pub returns-in-Ok-Deck-clause-leaves : goal.returns-in-Ok-Deck-clause-leaves
returns-in-Ok-Deck-clause-leaves g c =
    let w = g.A.Arith.width c.args.arith.now in
    let input = stream (g.S.Source.remaining c.args.input.now) (g.S.Source.fault_count c.args.input.now) in
    let input' = stream (g.S.Source.remaining c.lay_out.new.source) (g.S.Source.fault_count c.lay_out.new.source) in
    let old = g.K.Sink.contents c.args.out.now in
    let new = g.K.Sink.contents c.lay_out.new.out in
    left_by (task_of (wish_of (map string_bytes c.args.words.now))) (task.Deck c.in-Ok-Deck.form) w input input' old new c.lay_out.result (c.in-Ok-Deck.ensures.task ∙ ap Some c.in-Ok-Deck.field-0-is) tt
    (subst (λ it. IfOk c.lay_out.result (Writes (Some (task.Deck it)) w input.bytes old new)) c.in-Ok-Deck.form-is (c.lay_out.ensures.done w))
    (subst (λ it. IfErr c.lay_out.result (IsCause (Some (task.Deck it)) w input input' old new)) c.in-Ok-Deck.form-is (c.lay_out.ensures.cause w))

pub returns-in-Ok-Make-clause-leaves : goal.returns-in-Ok-Make-clause-leaves
returns-in-Ok-Make-clause-leaves g c =
    let w = g.A.Arith.width c.args.arith.now in
    let input = stream (g.S.Source.remaining c.args.input.now) (g.S.Source.fault_count c.args.input.now) in
    let input' = input in
    let old = g.K.Sink.contents c.args.out.now in
    let new = g.K.Sink.contents c.make_and_solve.new.out in
    left_by (task_of (wish_of (map string_bytes c.args.words.now))) (task.Make c.in-Ok-Make.size) w input input' old new c.make_and_solve.result (c.in-Ok-Make.ensures.task ∙ ap Some c.in-Ok-Make.field-0-is) tt
    (subst (λ it. IfOk c.make_and_solve.result (Writes (Some (task.Make it)) w input.bytes old new)) c.in-Ok-Make.size-is (c.make_and_solve.ensures.done input.bytes))
    (subst (λ it. IfErr c.make_and_solve.result (IsCause (Some (task.Make it)) w input input' old new)) c.in-Ok-Make.size-is (c.make_and_solve.ensures.cause input))

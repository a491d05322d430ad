-- The judgement, or why there is none.
use Rattle.std.proofs.Common.{Some, subst, sym, ◌∙◌}
use Rattle.io_ends.specs.Bytes.{Appends, AppendsPrefix}
use Rattle.lp_main.specs.declared.words.Task.TheVariants.{Audit}
use Rattle.lp_main.specs.Ends.{Writes}
use Rattle.lp_main.specs.World.{stream}
use Rattle.lp_main.proofs.Audits.{begun, given, unaudited}
use Rattle.lp_main.proofs.auditing.audit.Goals as goal

pub returns-in_err-judgement-clause-cause : goal.returns-in_err-judgement-clause-cause
returns-in_err-judgement-clause-cause g c =
    unaudited c.args.form (g.A.Arith.width c.args.arith.now) c.in_ok-deck.deck c.in_ok-deck.report c.from_residual-in_err-judgement.result
    (stream (g.S.Source.remaining c.args.source.now) (g.S.Source.fault_count c.args.source.now))
    (stream (g.S.Source.remaining c.read_both.new.source) (g.S.Source.fault_count c.read_both.new.source))
    (g.K.Sink.contents c.args.out.now) c.in_err-judgement.field-0.0
    c.in_ok-deck.ensures.told c.in_err-judgement.ensures.cause c.from_residual-in_err-judgement.ensures.1

pub returns-in-Ok-write_all-clause-done : goal.returns-in-Ok-write_all-clause-done
returns-in-Ok-write_all-clause-done g c =
    let w = g.A.Arith.width c.args.arith.now in
    let text = g.S.Source.remaining c.args.source.now in
    let old = g.K.Sink.contents c.args.out.now in
    let new = g.K.Sink.contents c.write_all.new.sink in
    subst (Writes (Some (Audit c.args.form)) w text old new) (sym c.answer_of.ensures)
    (given c.args.form w c.in_ok-deck.deck c.in_ok-deck.report text old new c.in_ok-judgement.judgement c.in_ok-deck.ensures.told c.in_ok-judgement.ensures.audited
    (subst (Appends old new) (c.as_slice.ensures.value ∙ c.in-Ok.ensures) c.in-Ok-write_all.ensures.appended))

pub returns-clause-cause : goal.returns-clause-cause
returns-clause-cause g c =
    let w = g.A.Arith.width c.args.arith.now in
    let text = g.S.Source.remaining c.args.source.now in
    let old = g.K.Sink.contents c.args.out.now in
    let new = g.K.Sink.contents c.write_all.new.sink in
    begun c.args.form w c.in_ok-deck.deck c.in_ok-deck.report text old new c.in_ok-judgement.judgement c.in_ok-deck.ensures.told c.in_ok-judgement.ensures.audited
    (subst (AppendsPrefix old new) (c.as_slice.ensures.value ∙ c.in-Ok.ensures) c.in-Err.ensures.part)

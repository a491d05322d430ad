use Rattle.std.proofs.Common.{[]}
use Rattle.mps_reader.proofs.NeededLemmas.{unread}
use Rattle.lp_main.specs.World.{stream}
use Rattle.lp_main.proofs.Laying.{lays_out, not_written}
use Rattle.lp_main.proofs.Solving.{is_read}
use Rattle.lp_main.proofs.layout.lay_out.Goals as goal

pub returns-in_default-clause-needed : goal.returns-in_default-clause-needed
returns-in_default-clause-needed g c = unread c.args.form [] (g.S.Source.remaining c.args.source.now)

pub returns-in_err-write-clause-cause : goal.returns-in_err-write-clause-cause
returns-in_err-write-clause-cause g c = λ w.
    let text = g.S.Source.remaining c.args.source.now in
    not_written c.args.form (g.K.Sink.contents c.args.out.now) (g.K.Sink.contents c.write.new.out) c.in_ok-deck.deck w c.from_residual-in_err-write.result
    (stream (g.S.Source.remaining c.args.source.now) (g.S.Source.fault_count c.args.source.now))
    (stream (g.S.Source.remaining c.load.new.source) (g.S.Source.fault_count c.load.new.source)) c.in_err-write.field-0.0 (is_read c.args.form text c.in_ok-deck.deck c.load.new.lines.count c.in_ok-deck.ensures.read)
    c.in_err-write.ensures.cause c.from_residual-in_err-write.ensures.1

pub returns-clause-done : goal.returns-clause-done
returns-clause-done g c = λ w.
    let text = g.S.Source.remaining c.args.source.now in
    lays_out c.args.form (g.K.Sink.contents c.args.out.now) (g.K.Sink.contents c.write.new.out) c.in_ok-deck.deck w text
    (is_read c.args.form text c.in_ok-deck.deck c.load.new.lines.count c.in_ok-deck.ensures.read) c.in_ok-write.ensures.written

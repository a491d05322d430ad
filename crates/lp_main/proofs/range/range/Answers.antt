-- What is told of the deck, or why nothing is.
use Rattle.std.proofs.Common.{[]}
use Rattle.mps_reader.proofs.NeededLemmas.{unread}
use Rattle.lp_main.specs.declared.refusal.Refusal.TheVariants.{Write}
use Rattle.lp_main.specs.World.{stream}
use Rattle.lp_main.proofs.Ranging.{given, unranged, unwritten}
use Rattle.lp_main.proofs.Solving.{is_read, still_other}
use Rattle.lp_main.proofs.range.range.Goals as goal

pub returns-in_default-clause-needed : goal.returns-in_default-clause-needed
returns-in_default-clause-needed g c = unread c.args.form [] (g.S.Source.remaining c.args.source.now)

pub returns-in_err-found-clause-cause : goal.returns-in_err-found-clause-cause
returns-in_err-found-clause-cause g c =
    let text = g.S.Source.remaining c.args.source.now in
    unranged c.args.form (g.A.Arith.width c.args.arith.now) c.in_ok-deck.deck c.from_residual-in_err-found.result
    (stream (g.S.Source.remaining c.args.source.now) (g.S.Source.fault_count c.args.source.now))
    (stream (g.S.Source.remaining c.load.new.source) (g.S.Source.fault_count c.load.new.source)) (g.K.Sink.contents c.args.out.now) c.in_err-found.field-0.0
    (is_read c.args.form text c.in_ok-deck.deck c.load.new.lines.count c.in_ok-deck.ensures.read) c.in_err-found.ensures.cause c.from_residual-in_err-found.ensures.1

pub returns-in_err-write-clause-cause : goal.returns-in_err-write-clause-cause
returns-in_err-write-clause-cause g c =
    let text = g.S.Source.remaining c.args.source.now in
    unwritten c.args.form (g.A.Arith.width c.args.arith.now) c.in_ok-deck.deck c.in_ok-found.found c.in_ok-found.ensures.found
    (g.K.Sink.contents c.args.out.now) (g.K.Sink.contents c.write.new.out) c.from_residual-in_err-write.result
    (stream (g.S.Source.remaining c.args.source.now) (g.S.Source.fault_count c.args.source.now))
    (stream (g.S.Source.remaining c.load.new.source) (g.S.Source.fault_count c.load.new.source)) c.in_err-write.field-0.0
    (is_read c.args.form text c.in_ok-deck.deck c.load.new.lines.count c.in_ok-deck.ensures.read) c.in_err-write.ensures.cause c.write.ensures.begun
    c.from_residual-in_err-write.ensures.1

pub returns-in_err-write-clause-sink_stays : goal.returns-in_err-write-clause-sink_stays
returns-in_err-write-clause-sink_stays g c = λ other.
    c.in_err-write.ensures.stays (still_other c.from_residual-in_err-write.result c.in_err-write.field-0.0 Write c.from_residual-in_err-write.ensures.1 other)

pub returns-clause-done : goal.returns-clause-done
returns-clause-done g c =
    let text = g.S.Source.remaining c.args.source.now in
    given c.args.form (g.A.Arith.width c.args.arith.now) c.in_ok-deck.deck c.in_ok-found.found c.in_ok-found.ensures.found
    (g.K.Sink.contents c.args.out.now) (g.K.Sink.contents c.write.new.out) text
    (is_read c.args.form text c.in_ok-deck.deck c.load.new.lines.count c.in_ok-deck.ensures.read) c.in_ok-write.ensures.written

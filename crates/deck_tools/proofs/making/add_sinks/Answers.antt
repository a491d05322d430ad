use Rattle.std.proofs.Common.{ap}
use Rattle.lp_model.specs.Deck.{Deck}
use Rattle.deck_tools.proofs.NewNames.{few_sinks, new_sink, sink_added}
use Rattle.deck_tools.proofs.making.add_sinks.Goals as goal

pub add_row-requires-clause-room : goal.add_row-requires-clause-room
add_row-requires-clause-room c = few_sinks c.loop-k.deck c.args.n c.loop-k.k c.loop-k-test.true c.requires.few c.loop-k.invariant

pub add_row-requires-clause-new : goal.add_row-requires-clause-new
add_row-requires-clause-new c =
    rw c.in_ok-name.ensures (new_sink c.loop-k.deck c.args.n c.loop-k.k c.loop-k-test.true c.requires.few (ap (λ (d : Deck). d.objective) c.loop-k.invariant)
    (ap (λ (d : Deck). d.rows) c.loop-k.invariant))

pub loop-k-preserved : goal.loop-k-preserved
loop-k-preserved c =
    sink_added c.loop-k.deck c.add_row.new.deck c.args.n c.loop-k.k c.in_ok-name.name c.whole.result c.loop-k.invariant
    c.in_ok-name.ensures c.whole.ensures c.in_ok-add_row.ensures

use Rattle.std.proofs.Common.{ap, arith}
use Rattle.lp_model.specs.Deck.{Deck}
use Rattle.deck_tools.proofs.NewNames.{few_sources, new_source, source_added}
use Rattle.deck_tools.proofs.making.add_sources.Goals as goal

pub add_row-requires-clause-room : goal.add_row-requires-clause-room
add_row-requires-clause-room c = few_sources c.loop-k.deck c.loop-k.k (omega arith) c.loop-k.invariant

pub add_row-requires-clause-new : goal.add_row-requires-clause-new
add_row-requires-clause-new c =
    rw c.in_ok-name.ensures (new_source c.loop-k.deck c.loop-k.k (omega arith)
    (ap (λ (d : Deck). d.objective) c.loop-k.invariant) (ap (λ (d : Deck). d.rows) c.loop-k.invariant))

pub loop-k-preserved : goal.loop-k-preserved
loop-k-preserved c =
    source_added c.loop-k.deck c.add_row.new.deck c.loop-k.k c.in_ok-name.name c.whole.result c.loop-k.invariant
    c.in_ok-name.ensures c.whole.ensures c.in_ok-add_row.ensures

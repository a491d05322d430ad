use Rattle.std.proofs.Common.{◌∙◌, ap}
use Rattle.std.proofs.lemmas.Result.{on_ok_weaker}
use Rattle.lp_model.specs.Deck.{Deck}
use Rattle.deck_tools.specs.Transport.{number}
use Rattle.deck_tools.proofs.NewNames.{few_columns, new_route, route_added, row_within}
use Rattle.deck_tools.proofs.making.add_route.Goals as goal

pub add_column-requires-clause-room : goal.add_column-requires-clause-room
add_column-requires-clause-room c = few_columns c.args.deck.now c.args.n c.args.k c.requires.within c.requires.few c.requires.start

pub add_column-requires-clause-new : goal.add_column-requires-clause-new
add_column-requires-clause-new c =
    rw c.in_ok-name.ensures (new_route c.args.deck.now c.args.n c.args.k c.requires.within c.requires.few (ap (λ (d : Deck). d.columns) c.requires.start))

pub add_column-requires-clause-within : goal.add_column-requires-clause-within
add_column-requires-clause-within c = row_within c.args.deck.now c.args.n c.args.k c.requires.within c.requires.start

pub returns : goal.returns
returns c =
    on_ok_weaker c.add_column.result
    (λ more. route_added c.args.deck.now c.add_column.new.deck c.args.n c.args.k c.in_ok-name.name c.whole.result c.requires.start c.in_ok-name.ensures
    (c.whole.ensures ∙ ap number c.cost_of.ensures.cost) more) c.add_column.ensures

use Rattle.std.proofs.lemmas.Result.{on_ok_weaker}
use Rattle.deck_tools.proofs.Built.{column_made}
use Rattle.deck_tools.proofs.making.add_column.Goals as goal

pub returns : goal.returns
returns c =
    on_ok_weaker c.add_one-2.result
    (λ twice. column_made c.args.deck.now c.new_column.new.deck c.set_cost.new.self c.add_one.new.deck c.add_one-2.new.deck c.in_ok-column.column c.args.name c.args.cost
    c.args.first c.args.second c.requires.order c.in_ok-column.ensures.added c.in_ok-column.ensures.index c.set_cost.ensures c.in_ok-add_one.ensures twice) c.add_one-2.ensures

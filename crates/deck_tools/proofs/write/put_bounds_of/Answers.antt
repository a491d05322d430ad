use Rattle.lp_model.specs.Deck.{column}
use Rattle.deck_tools.proofs.Numbers.{lower_read, upper_read}
use Rattle.deck_tools.proofs.write.put_bounds_of.Goals as goal

pub returns : goal.returns
returns c =
    let bounds = (column c.args.deck.now c.args.column).bounds in
    let lower = lower_read c.bounds-lower.result bounds c.number_of.result c.bounds-lower.ensures c.number_of.ensures in
    let upper = upper_read c.bounds-lower.result bounds c.number_of-2.result c.bounds-lower.ensures c.number_of-2.ensures in
    rw (c.bytes.ensures, c.column_name.ensures, lower, upper) at c.put_ends.ensures

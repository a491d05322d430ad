use Rattle.std.proofs.Common.{sym, ◌∙◌}
use Rattle.deck_model.proofs.Seen.{find_row-shown}
use Rattle.deck_model.proofs.deck.Deck.find_row.Goals as goal

pub returns : goal.returns
returns c = c.get_index_of.ensures.index ∙ sym (find_row-shown c.self.inside c.args.self.now c.self.view_is c.args.name.now)

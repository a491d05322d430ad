use Rattle.std.proofs.Common.{ap, sym}
use Rattle.lp_model.specs.Deck.{Column}
use Rattle.deck_model.proofs.Seen.{column-shown}
use Rattle.deck_model.proofs.deck.Deck.cost.Goals as goal

pub returns : goal.returns
returns c = sym (ap (λ (k : Column). k.cost) (column-shown c.self.inside c.args.self.now c.self.view_is c.args.column c.index.result.now c.index.ensures))

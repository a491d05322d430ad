use Rattle.std.proofs.Common.{ap, sym}
use Rattle.lp_model.specs.Deck.{Row}
use Rattle.deck_model.proofs.Seen.{row-shown}
use Rattle.deck_model.proofs.deck.Deck.right.Goals as goal

pub returns : goal.returns
returns c = sym (ap (λ (r : Row). r.right) (row-shown c.self.inside c.args.self.now c.self.view_is c.args.row c.index.result.now c.index.ensures))

use Rattle.std.proofs.Common.{ap, ap₂, sym, ◌∙◌}
use Rattle.lp_model.specs.Deck.{Column}
use Rattle.deck_model.specs.End.{ends_of}
use Rattle.deck_model.proofs.Seen.{column-shown}
use Rattle.deck_model.proofs.deck.Deck.bounds.Goals as goal

pub returns : goal.returns
returns c =
    ap₂ (λ l u. (l, u)) c.lower.ensures c.upper.ensures
    ∙ sym (ap (λ (k : Column). ends_of k.bounds) (column-shown c.self.inside c.args.self.now c.self.view_is c.args.column c.index-data.result.now c.index-data.ensures))

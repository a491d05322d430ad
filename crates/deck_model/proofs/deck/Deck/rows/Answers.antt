use Rattle.std.proofs.Common.{subst}
use Rattle.lp_model.specs.Deck.{IsDeck}
use Rattle.deck_model.proofs.Seen.{HasNamedRows-shown}
use Rattle.deck_model.proofs.Sound.{IsDeck-deck_of}
use Rattle.deck_model.proofs.deck.Deck.rows.Goals as goal

pub returns-clause-named : goal.returns-clause-named
returns-clause-named c = HasNamedRows-shown c.self.inside c.args.self.now c.self.view_is c.len.ensures.unique c.self.invariant.unnamed

pub returns-clause-deck : goal.returns-clause-deck
returns-clause-deck c = subst IsDeck c.self.view_is (IsDeck-deck_of c.self.inside c.self.invariant)

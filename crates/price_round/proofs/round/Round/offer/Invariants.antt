use Rattle.price_round.proofs.round.Round.offer.Given as goal

abbrev pub ghosts-offer_at : goal.ghosts-offer_at
ghosts-offer_at a = record { chunk = a.chunk }

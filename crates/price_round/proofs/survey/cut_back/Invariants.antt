use Rattle.price_round.proofs.survey.cut_back.Given as goal

abbrev pub ghosts-cut_at : goal.ghosts-cut_at
ghosts-cut_at a = record { rest = a.rest.now.value.me.0; piece = a.piece.now.value.me.0 }

use Rattle.mps_cards.proofs.splitting.split.Goals as goal

pub returns : goal.returns
returns c = λ keep whole same. rw (← c.counted_columns.ensures keep whole same) c.split_text.ensures

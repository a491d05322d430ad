use Rattle.std.proofs.lemmas.List.{take_min}
use Rattle.mps_cards.proofs.SplittingLemmas.{counted-answered}
use Rattle.mps_cards.proofs.splitting.counted_columns.Goals as goal

pub returns : goal.returns
returns c = λ keep whole same.
    rw (c.min.ensures, take_min, c.kept_bytes-text.ensures) (counted-answered c.args.line.now keep whole same c.requires)

use Rattle.deck_laws.proofs.Readings.{reading_kept}
use Rattle.deck_laws.proofs.reading_is_kept.Goals as goal

pub returns : goal.returns
returns c = reading_kept

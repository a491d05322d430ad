use Rattle.deck_laws.proofs.Readings.{reading_back}
use Rattle.deck_laws.proofs.reading_reads_back.Goals as goal

pub returns : goal.returns
returns c = reading_back

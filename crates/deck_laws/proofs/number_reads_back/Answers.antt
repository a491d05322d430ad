use Rattle.deck_laws.proofs.CardNumbers.{number_read}
use Rattle.deck_laws.proofs.number_reads_back.Goals as goal

pub returns : goal.returns
returns c = number_read

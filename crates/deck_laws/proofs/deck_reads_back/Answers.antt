use Rattle.deck_laws.proofs.Whole.{read_back}
use Rattle.deck_laws.proofs.deck_reads_back.Goals as goal

pub returns : goal.returns
returns c = read_back

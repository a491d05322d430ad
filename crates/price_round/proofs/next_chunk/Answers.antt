use Rattle.price_round.proofs.Codes.{next_given}
use Rattle.price_round.proofs.next_chunk.Goals as goal

pub returns : goal.returns
returns c = next_given

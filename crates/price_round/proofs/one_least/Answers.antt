use Rattle.price_round.proofs.Codes.{least_one}
use Rattle.price_round.proofs.one_least.Goals as goal

pub returns : goal.returns
returns c = least_one

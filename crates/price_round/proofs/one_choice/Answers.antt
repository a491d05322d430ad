use Rattle.price_round.proofs.Codes.{choice_one}
use Rattle.price_round.proofs.one_choice.Goals as goal

pub returns : goal.returns
returns c = choice_one

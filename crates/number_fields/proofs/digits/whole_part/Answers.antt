use Rattle.number_fields.proofs.PartLemmas.{more_zeros}
use Rattle.number_fields.proofs.digits.whole_part.Goals as goal

pub returns-in-None : goal.returns-in-None
returns-in-None c = more_zeros _ _ c.args.zeros c.in-None.ensures

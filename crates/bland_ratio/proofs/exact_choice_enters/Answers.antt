use Rattle.bland_ratio.proofs.Exact.{exact_choice_enters}
use Rattle.bland_ratio.proofs.exact_choice_enters.Goals as goal

pub returns : goal.returns
returns c = λ w inst s choice well_formed exact fit. exact_choice_enters w inst s choice well_formed exact fit

use Rattle.lp_words.proofs.Matches.{is_given}
use Rattle.lp_words.proofs.options.given.Goals as goal

-- what is read is what is given
pub returns-in-Ok : goal.returns-in-Ok
returns-in-Ok c = is_given _ c.read.result c.requires (λ given e. c.read.ensures given (c.in-Ok.ensures.ok given e))

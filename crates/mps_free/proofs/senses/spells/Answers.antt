use Rattle.mps_free.proofs.SpellingLemmas.{spelled}
use Rattle.mps_free.proofs.senses.spells.Goals as goal

pub returns : goal.returns
returns c = spelled c.args.word.now c.args.small.now c.requires c.eq_ignore_ascii_case.result c.eq_ignore_ascii_case.ensures.test

use Rattle.report_lines.proofs.Splitting.{split_none, split_some}
use Rattle.report_lines.proofs.parts.split.Goals as goal

pub returns-in-empty-clause-rest : goal.returns-in-empty-clause-rest
returns-in-empty-clause-rest c = split_none c.args.text.now c.first_len-end.result c.first_len-end.ensures c.in-empty.len_below

pub returns-in-len1-up-clause-rest : goal.returns-in-len1-up-clause-rest
returns-in-len1-up-clause-rest c = split_some c.args.text.now c.first_len-end.result c.first_len-end.ensures c.in-len1-up.len_at_least

use Rattle.report_laws.proofs.Read.{answer_read}
use Rattle.report_laws.proofs.answer_read.Goals as goal

pub returns : goal.returns
returns c = answer_read

use Rattle.std.proofs.lemmas.Result.{err_from_is_err_and}
use Rattle.mps_reader.proofs.CardsTaken.{laid_spelled}
use Rattle.mps_reader.proofs.fields.free_fields.Goals as goal

pub returns-in_err-layout-clause-judged : goal.returns-in_err-layout-clause-judged
returns-in_err-layout-clause-judged c =
    let r = err_from_is_err_and c.from_residual.result c.from_residual.ensures.1 in λ begun. rw (r.1, r.2) (c.in_err-layout.ensures begun)

pub returns-in-Some-clause-spelled : goal.returns-in-Some-clause-spelled
returns-in-Some-clause-spelled c = λ h. laid_spelled c.in-Some.layout c.args.tokens h

use Rattle.std.proofs.Common.{sym, subst}
use Rattle.mps_model.specs.Judgement.{bytes_counted, judge_text}
use Rattle.mps_reader.specs.Inner.Reached.{IsFoundAt}
use Rattle.mps_reader.proofs.LineLemmas.{refused_at}
use Rattle.mps_reader.proofs.reading.take_line.Goals as goal

pub returns-in-Err-clause-taken : goal.returns-in-Err-clause-taken
returns-in-Err-clause-taken c = λ s whole h is.
    let judged = judge_text c.args.form s (bytes_counted c.args.form whole.bytes) in
    subst (IsFoundAt c.args.line.now.number judged) (sym c.at.ensures) (refused_at c.args.line.now.number judged c.in-Err.refusal (c.in-Err.ensures s whole h is))

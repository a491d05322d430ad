use Rattle.std.proofs.Common.{subst}
use Rattle.exact_frac.specs.Exact.{Exact}
use Rattle.plain_table.proofs.Lines.{zero_quotient}
use Rattle.plain_table.proofs.line.divided.Goals as goal

pub returns-then-is_zero-clause-answer : goal.returns-then-is_zero-clause-answer
returns-then-is_zero-clause-answer g c =
    subst (λ v. Exact (g.A.Arith.width c.args.arith.now) v c.fit.result) (zero_quotient c.args.x c.args.pivot (c.is_zero.ensures.0 c.if-is_zero.true)) c.fit.ensures.answer

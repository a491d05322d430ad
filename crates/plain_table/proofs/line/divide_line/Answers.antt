-- The quotients before the one at which the loop stops fit.
use Rattle.std.proofs.Common.{length, arith}
use Rattle.rational.specs.Rational.{◌/ℚ◌}
use Rattle.rational.specs.Sum.{at}
use Rattle.plain_table.specs.Inner.Lines.{in_column}
use Rattle.plain_table.proofs.Lines.{all-map, quotient_unfit}
use Rattle.plain_table.proofs.line.divide_line.Goals as goal

pub returns-in-Err-clause-answer : goal.returns-in-Err-clause-answer
returns-in-Err-clause-answer g c =
    quotient_unfit _ _ c.loop-j.invariant.width c.args.here c.args.line.now c.args.pivot c.index-line-j.result c.loop-j.j (omega arith) c.index-line-j.is
    c.in_column.result c.in_column.ensures c.loop-j.invariant.fits c.in-Err.ensures.answer

pub returns-clause-answer : goal.returns-clause-answer
returns-clause-answer g c =
    all-map _ (in_column c.args.here) (λ j. at c.args.line.now j /ℚ c.args.pivot) (length c.args.line.now) (λ k b. c.loop-j.invariant.fits k (omega arith))

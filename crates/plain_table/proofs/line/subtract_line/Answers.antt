-- The differences before the one at which the loop stops fit.
use Rattle.std.proofs.Common.{◌<◌, length, ◌∙◌, arith}
use Rattle.std.proofs.Math.ListN.{length-set}
use Rattle.rational.specs.Rational.{◌-ℚ◌, ◌*ℚ◌}
use Rattle.rational.specs.Sum.{at}
use Rattle.rational.specs.Worked.{less, placed}
use Rattle.lp_run.specs.Listing.{AllFit}
use Rattle.lp_run.proofs.FirstUnfit.{all-flat_map}
use Rattle.plain_table.specs.Inner.Lines.{in_column}
use Rattle.plain_table.proofs.Lines.{less_fits, less_is, less_unfit, set_next}
use Rattle.plain_table.proofs.line.subtract_line.Goals as goal
use borrow.Author.Count.{below_more}

pub returns-in-Err-clause-answer : goal.returns-in-Err-clause-answer
returns-in-Err-clause-answer g c =
    less_unfit _ _ c.loop-j.invariant.width c.args.here c.args.line.now c.args.by.now c.args.factor c.index-line-j.result c.index-by-j.result c.loop-j.j (omega arith) (omega (arith, c.requires.by))
    c.index-line-j.is c.index-by-j.is c.in_column.result c.in_column.ensures c.loop-j.invariant.fits c.in-Err.ensures.settled

pub loop-j-preserved : goal.loop-j-preserved
loop-j-preserved g c =
    let j = c.loop-j.j in
    let line = c.args.line.now in
    let by = c.args.by.now in
    let factor = c.args.factor in
    let here = c.args.here in
    let within : j < length line = omega arith in
    let within_by : j < length by = omega (arith, c.requires.by) in
    let within_out : j < length c.loop-j.out = omega (arith, c.loop-j.invariant.count) in
    record {
      width = c.less_product.ensures.width ∙ c.loop-j.invariant.width;
      unfit = c.in-Ok.ensures.unfit ∙ c.loop-j.invariant.unfit;
      count = length-set c.loop-j.out j c.in-Ok.rest ∙ c.loop-j.invariant.count;
      rest = set_next (λ k. at line k -ℚ factor *ℚ at by k) c.loop-j.out j c.in-Ok.rest within_out c.loop-j.invariant.rest
          (less_is _ _ c.loop-j.invariant.width here line by factor _ _ j within within_by c.index-line-j.is c.index-by-j.is c.in-Ok.rest c.in-Ok.ensures.settled);
      fits = below_more (λ k. AllFit (g.A.Arith.width c.args.arith.now) (placed (in_column here k) (less (at line k) factor (at by k)))) j c.loop-j.invariant.fits
          (less_fits _ _ c.loop-j.invariant.width here line by factor _ _ j within within_by c.index-line-j.is c.index-by-j.is c.in-Ok.rest c.in-Ok.ensures.settled);
    }

pub returns-clause-answer : goal.returns-clause-answer
returns-clause-answer g c =
    all-flat_map _ (λ j. placed (in_column c.args.here j) (less (at c.args.line.now j) c.args.factor (at c.args.by.now j))) (length c.args.line.now) (λ k b. c.loop-j.invariant.fits k (omega arith))

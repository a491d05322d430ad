-- The differences before the one at which the loop stops fit.
use Rattle.std.proofs.Common.{◌<◌, length, get_or, ◌∙◌, arith}
use Rattle.std.proofs.Math.ListN.{length-set}
use borrow.Author.Count.{below_more}
use Rattle.rational.specs.Rational.{◌-ℚ◌, ◌*ℚ◌}
use Rattle.rational.specs.Sum.{at}
use Rattle.rational.specs.Worked.{less, placed}
use Rattle.lp_run.specs.Listing.{AllFit}
use Rattle.plain_table.specs.Inner.Lines.{in_column}
use Rattle.plain_table.proofs.Lines.{less_fits, less_is, less_unfit, set_next}
use Rattle.plain_table.proofs.Supports.{fits_all, fits_before}
use Rattle.plain_table.proofs.line.subtract_packed.Goals as goal

pub returns-in-Err-clause-answer : goal.returns-in-Err-clause-answer
returns-in-Err-clause-answer g c =
    let a = c.args in
    let k = c.loop-k.k in
    let j = get_or a.columns.now k 0 in
    let inside : k < length a.columns.now = omega arith in
    let within_by : j < length a.by.now = c.requires.support.within k inside in
    let within : j < length a.line.now = omega (arith, within_by, c.requires.by) in
    less_unfit _ _ c.loop-k.invariant.width a.here a.line.now a.by.now a.factor c.index-line-j.result c.index-by-j.result j within within_by
    c.index-line-j.is c.index-by-j.is c.in_column.result c.in_column.ensures
    (fits_before a.by.now a.columns.now c.requires.support a.here a.line.now a.factor c.requires.by _ k inside c.loop-k.invariant.fits) c.in-Err.ensures.settled

pub loop-k-preserved : goal.loop-k-preserved
loop-k-preserved g c =
    let a = c.args in
    let line = a.line.now in
    let by = a.by.now in
    let columns = a.columns.now in
    let factor = a.factor in
    let k = c.loop-k.k in
    let j = get_or columns k 0 in
    let inside : k < length columns = omega arith in
    let within_by : j < length by = c.requires.support.within k inside in
    let within : j < length line = omega (arith, within_by, c.requires.by) in
    let within_out : k < length c.loop-k.out = omega (arith, c.loop-k.invariant.count, c.requires.count) in
    record {
      width = c.less_worked.ensures.width ∙ c.loop-k.invariant.width;
      unfit = c.in-Ok.ensures.unfit ∙ c.loop-k.invariant.unfit;
      count = length-set c.loop-k.out k c.in-Ok.rest ∙ c.loop-k.invariant.count;
      rest = set_next (λ i. at line (get_or columns i 0) -ℚ factor *ℚ at by (get_or columns i 0)) c.loop-k.out k c.in-Ok.rest within_out c.loop-k.invariant.rest
          (less_is _ _ c.loop-k.invariant.width a.here line by factor _ _ j within within_by c.index-line-j.is c.index-by-j.is c.in-Ok.rest c.in-Ok.ensures.settled);
      fits = below_more (λ i. AllFit (g.A.Arith.width a.arith.now) (placed (in_column a.here (get_or columns i 0)) (less (at line (get_or columns i 0)) factor (at by (get_or columns i 0))))) k
          c.loop-k.invariant.fits
          (less_fits _ _ c.loop-k.invariant.width a.here line by factor _ _ j within within_by c.index-line-j.is c.index-by-j.is c.in-Ok.rest c.in-Ok.ensures.settled);
    }

pub returns-clause-answer : goal.returns-clause-answer
returns-clause-answer g c =
    fits_all c.args.by.now c.args.columns.now c.requires.support c.args.here c.args.line.now c.args.factor c.requires.by _ (λ i b. c.loop-k.invariant.fits i (omega arith))

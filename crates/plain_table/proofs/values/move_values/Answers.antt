-- The values before the one at which the loop stops fit.
use Rattle.std.proofs.Common.{◌<◌, length, eqb, Some, None, ◌∙◌, arith}
use Rattle.std.proofs.Math.ListN.{length-set}
use Rattle.lp_model.specs.declared.Kind.TheVariants as kind
use Rattle.rational.specs.Sum.{at}
use Rattle.rational.specs.Worked.{placed}
use Rattle.lp_run.specs.Listing.{AllFit, place}
use Rattle.lp_run.proofs.FirstUnfit.{all-flat_map}
use Rattle.plain_table.specs.Inner.Values.{value_work}
use Rattle.plain_table.proofs.Lines.{set_next}
use Rattle.plain_table.proofs.Moves.{value_fits, value_is, value_unfit}
use Rattle.plain_table.proofs.values.move_values.Goals as goal
use borrow.Author.Count.{below_more}

pub returns-in-Err-clause-answer : goal.returns-in-Err-clause-answer
returns-in-Err-clause-answer g c =
    value_unfit _ _ c.loop-i.invariant.width c.args.number c.args.position c.args.down c.args.rest c.args.ratio c.args.values.now c.args.column.now c.loop-i.i
    c.index-values-i.result c.index-column-i.result (omega arith) (omega (arith, c.requires.column)) c.index-values-i.is c.index-column-i.is
    c.value_place.result c.value_place.ensures c.loop-i.invariant.fits c.in-Err.ensures.settled

pub loop-i-preserved : goal.loop-i-preserved
loop-i-preserved g c =
    let i = c.loop-i.i in
    let values = c.args.values.now in
    let column = c.args.column.now in
    let within : i < length values = omega arith in
    let within_column : i < length column = omega (arith, c.requires.column) in
    let within_out : i < length c.loop-i.out = omega (arith, c.loop-i.invariant.count) in
    record {
      width = c.value_after.ensures.width ∙ c.loop-i.invariant.width;
      unfit = c.in-Ok.ensures.unfit ∙ c.loop-i.invariant.unfit;
      work = omega (arith, c.loop-i.invariant.work, c.in-Ok.ensures.work);
      count = length-set c.loop-i.out i c.in-Ok.value ∙ c.loop-i.invariant.count;
      moved = set_next (λ k. (value_work (eqb k c.args.position) c.args.down c.args.rest (at values k) (at column k) c.args.ratio).answer) c.loop-i.out i
          c.in-Ok.value within_out c.loop-i.invariant.moved
          (value_is _ _ c.loop-i.invariant.width c.args.number c.args.position c.args.down c.args.rest c.args.ratio values column i _ _ within within_column c.index-values-i.is c.index-column-i.is
          c.in-Ok.value c.in-Ok.ensures.settled);
      fits = below_more (λ k. AllFit (g.A.Arith.width c.args.arith.now) (placed (place c.args.number kind.Value (Some k) None)
          (value_work (eqb k c.args.position) c.args.down c.args.rest (at values k) (at column k) c.args.ratio)))
          i c.loop-i.invariant.fits
          (value_fits _ _ c.loop-i.invariant.width c.args.number c.args.position c.args.down c.args.rest c.args.ratio values column i _ _ within within_column c.index-values-i.is c.index-column-i.is
          c.in-Ok.value c.in-Ok.ensures.settled);
    }

pub returns-clause-answer : goal.returns-clause-answer
returns-clause-answer g c =
    all-flat_map _ (λ i. placed (place c.args.number kind.Value (Some i) None) (value_work (eqb i c.args.position) c.args.down c.args.rest
    (at c.args.values.now i) (at c.args.column.now i) c.args.ratio))
    (length c.args.values.now) (λ k b. c.loop-i.invariant.fits k (omega arith))

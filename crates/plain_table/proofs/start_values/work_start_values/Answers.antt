-- The values before the one at which the loop stops fit.
use Rattle.std.proofs.Common.{◌<◌, Some, None, length, refl, ◌∙◌, sym, ap, subst, arith}
use Rattle.std.proofs.Math.ListN.{length-set}
use Rattle.lp_model.specs.declared.Kind.TheVariants as kind
use Rattle.rational.specs.Width.{FitsWidth}
use Rattle.lp_run.specs.Instance.{row_count}
use Rattle.lp_run.specs.Listing.{AllFit, place, start_sums}
use Rattle.plain_table.specs.Inner.Starts.{basic_start}
use Rattle.plain_table.proofs.Lines.{all-map, first-map, fit_at, set_next, unfit_at}
use Rattle.plain_table.proofs.StartValues.{part_fits}
use Rattle.plain_table.proofs.StartWork.{next-left, start-left}
use Rattle.plain_table.proofs.start_values.work_start_values.Goals as goal
use borrow.Author.Count.{below_more}

pub basic_start-value-requires-clause-fits : goal.basic_start-value-requires-clause-fits
basic_start-value-requires-clause-fits g c κs within =
    let inst = c.args.inst.now in
    subst (λ w. AllFit w (start_sums inst c.loop-p.p)) (sym c.loop-p.invariant.width)
    (part_fits (g.A.Arith.width c.args.arith.now) (start_sums inst) (row_count inst) c.loop-p.p (omega (arith, c.rows-p-end.ensures.count)) c.requires.fits)

pub returns-in-Err-clause-answer : goal.returns-in-Err-clause-answer
returns-in-Err-clause-answer g c =
    let inst = c.args.inst.now in
    first-map _ (λ p. place 0 kind.Value (Some p) None) (basic_start inst) (row_count inst) c.loop-p.p (omega (arith, c.rows-p-end.ensures.count)) c.loop-p.invariant.fits
    (unfit_at _ _ _ _ (c.basic_start-value.ensures.width ∙ c.loop-p.invariant.width) c.basic_start-value.ensures.value c.in-Err.ensures.answer)
    ∙ ap Some (sym c.value_place.ensures)

pub loop-p-preserved : goal.loop-p-preserved
loop-p-preserved g c =
    let inst = c.args.inst.now in
    let within_out : c.loop-p.p < length c.loop-p.out = omega (arith, c.loop-p.invariant.count, c.rows-p-end.ensures.count) in
    let same = c.basic_start-value.ensures.width ∙ c.loop-p.invariant.width in
    record {
      width = c.fit.ensures.same_width ∙ same;
      unfit = c.in-Ok.ensures.unfit ∙ c.basic_start-value.ensures.unfit ∙ c.loop-p.invariant.unfit;
      work = omega (arith, next-left inst c.loop-p.p, c.loop-p.invariant.work, c.basic_start-value.ensures.work, c.fit.ensures.work);
      count = length-set c.loop-p.out c.loop-p.p c.in-Ok.value ∙ c.loop-p.invariant.count;
      values = set_next (basic_start inst) c.loop-p.out c.loop-p.p c.in-Ok.value within_out c.loop-p.invariant.values (c.in-Ok.ensures.answer.0 ∙ c.basic_start-value.ensures.value);
      fits = below_more (λ k. FitsWidth (g.A.Arith.width c.args.arith.now) (basic_start inst k)) c.loop-p.p c.loop-p.invariant.fits
          (fit_at _ _ _ _ same c.basic_start-value.ensures.value c.in-Ok.ensures.answer.1);
    }

pub returns-clause-answer : goal.returns-clause-answer
returns-clause-answer g c =
    all-map _ (λ p. place 0 kind.Value (Some p) None) (basic_start c.args.inst.now) (row_count c.args.inst.now)
    (λ k b. c.loop-p.invariant.fits k (omega (arith, c.rows-p-end.ensures.count)))

pub loop-p-init : goal.loop-p-init
loop-p-init g c = record { width = refl; unfit = refl; work = omega (arith, start-left c.args.inst.now); count = c.requires.count; values = λ k b. absurd (omega arith); fits = λ k b. absurd (omega arith) }

pub returns-in-Err-clause-work : goal.returns-in-Err-clause-work
returns-in-Err-clause-work g c = omega (arith, next-left c.args.inst.now c.loop-p.p, c.loop-p.invariant.work, c.basic_start-value.ensures.work, c.fit.ensures.work)

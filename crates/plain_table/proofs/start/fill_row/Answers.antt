-- The entries before the one at which the loop stops fit.
use Rattle.std.proofs.Common.{◌<◌, Some, length, ◌∙◌, sym, ap, arith}
use Rattle.std.proofs.Math.ListN.{length-set}
use Rattle.lp_model.specs.declared.Kind.TheVariants as kind
use Rattle.rational.specs.Width.{FitsWidth}
use Rattle.lp_run.specs.Instance.{column_count}
use Rattle.lp_run.specs.Listing.{place, start_entry}
use Rattle.plain_table.proofs.Lines.{all-map, first-map, fit_at, set_next, unfit_at}
use Rattle.plain_table.proofs.start.fill_row.Goals as goal
use borrow.Author.Count.{below_more}

pub returns-in-Err-clause-answer : goal.returns-in-Err-clause-answer
returns-in-Err-clause-answer g c =
    let inst = c.args.inst.now in
    let row = c.args.row in
    first-map _ (λ j. place 0 kind.Entry (Some row) (Some j)) (start_entry inst row) (column_count inst) c.loop-j.j (omega (arith, c.columns-j-end.ensures.count)) c.loop-j.invariant.fits
    (unfit_at _ _ _ _ c.loop-j.invariant.width c.start_entry.ensures c.in-Err.ensures.answer)
    ∙ ap Some (sym c.entry_place.ensures)

pub loop-j-preserved : goal.loop-j-preserved
loop-j-preserved g c =
    let inst = c.args.inst.now in
    let row = c.args.row in
    let within_out : c.loop-j.j < length c.loop-j.out = omega (arith, c.loop-j.invariant.count, c.columns-j-end.ensures.count) in
    record {
      width = c.fit.ensures.same_width ∙ c.loop-j.invariant.width;
      unfit = c.in-Ok.ensures.unfit ∙ c.loop-j.invariant.unfit;
      count = length-set c.loop-j.out c.loop-j.j c.in-Ok.entry ∙ c.loop-j.invariant.count;
      filled = set_next (start_entry inst row) c.loop-j.out c.loop-j.j c.in-Ok.entry within_out c.loop-j.invariant.filled (c.in-Ok.ensures.answer.0 ∙ c.start_entry.ensures);
      fits = below_more (λ k. FitsWidth (g.A.Arith.width c.args.arith.now) (start_entry inst row k)) c.loop-j.j c.loop-j.invariant.fits
          (fit_at _ _ _ _ c.loop-j.invariant.width c.start_entry.ensures c.in-Ok.ensures.answer.1);
    }

pub returns-clause-answer : goal.returns-clause-answer
returns-clause-answer g c =
    all-map _ (λ j. place 0 kind.Entry (Some c.args.row) (Some j)) (start_entry c.args.inst.now c.args.row) (column_count c.args.inst.now)
    (λ k b. c.loop-j.invariant.fits k (omega (arith, c.columns-j-end.ensures.count)))

-- The rows before the one at which the loop stops fit.
use Rattle.std.proofs.Common.{◌+◌, [], length, get_or, set, eqb, OnOk, refl, sym, ◌∙◌, ap, subst, arith}
use Rattle.std.proofs.lemmas.Result.{err_from_is_err_and}
use Rattle.exact_frac.specs.Count.{raised, unfit_after}
use Rattle.lp_run.proofs.FirstUnfit.{all-flat_map}
use Rattle.plain_table.specs.Inner.Rows.{AreEliminated, row_listing, rows_listing}
use Rattle.plain_table.proofs.Lines.{item_read}
use Rattle.plain_table.proofs.Parts.{judged_on}
use Rattle.plain_table.proofs.Eliminations.{row_unfit}
use Rattle.plain_table.proofs.Supports.{wide_set}
use Rattle.plain_table.proofs.rows.eliminate_in_turn.Goals as goal

pub returns-in_err-eliminate : goal.returns-in_err-eliminate
returns-in_err-eliminate g c =
    let e = c.args.elimination.now in
    let i = c.loop-i.i in
    let refused = err_from_is_err_and c.from_residual.result c.from_residual.ensures.1 in
    record {
      answer = judged_on _ _ (rows_listing e.number e.position c.args.base e.column e.line.now c.args.rows.now) _ c.from_residual.result refl
          (row_unfit _ _ c.loop-i.invariant.width e.number e.position c.args.base e.column e.line.now c.args.rows.now i (omega arith) c.index-rows-i.result _
          (item_read c.args.rows.now i c.index-rows-i.result [] (omega arith) c.index-rows-i.is) c.loop-i.invariant.fits c.in_err-eliminate.ensures.answer)
          c.from_residual.ensures.1;
      eliminated = subst (λ r. OnOk r (AreEliminated e.position c.args.base e.column e.line.now e.support.now c.args.rows.now (set c.loop-i.out i c.eliminate.new.out))) (sym refused.1) tt;
      spare = wide_set (length e.line.now) c.loop-i.out i c.eliminate.new.out c.loop-i.invariant.spare (omega (arith, c.loop-i.invariant.count)) c.eliminate.ensures.spare;
      width = c.eliminate.ensures.width ∙ c.loop-i.invariant.width;
      unfits = c.in_err-eliminate.ensures.unfit ∙ ap (λ n. raised n 1) c.loop-i.invariant.unfit ∙ ap (unfit_after (g.A.Arith.unfit_count c.args.arith.now)) (sym refused.1);
    }

pub returns : goal.returns
returns g c =
    let e = c.args.elimination.now in
    record {
      answer = all-flat_map _ (λ i. row_listing e.number (eqb (i + c.args.base) e.position) (i + c.args.base) e.column e.line.now
          (get_or c.args.rows.now i [])) (length c.args.rows.now) (λ k b. c.loop-i.invariant.fits k (omega arith));
      eliminated = λ k b. c.loop-i.invariant.eliminated k (omega arith);
      spare = c.loop-i.invariant.spare;
      width = c.loop-i.invariant.width;
      unfits = c.loop-i.invariant.unfit;
    }

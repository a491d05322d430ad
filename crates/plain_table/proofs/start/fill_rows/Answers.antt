-- The rows before the one at which the loop stops fit.
use Rattle.std.proofs.Common.{◌≡◌, Some, refl, subst, arith}
use Rattle.lp_run.specs.Instance.{row_count}
use Rattle.lp_run.specs.Listing.{entries_listing, first_unfit}
use Rattle.lp_run.proofs.FirstUnfit.{all-flat_map, first-flat_map}
use Rattle.plain_table.specs.Inner.Starts.{start_row_listing}
use Rattle.plain_table.proofs.Parts.{judged_on}
use Rattle.plain_table.proofs.start.fill_rows.Goals as goal

pub returns-in_err-set_start-clause-answer : goal.returns-in_err-set_start-clause-answer
returns-in_err-set_start-clause-answer g c =
    let inst = c.args.inst.now in
    judged_on _ _ (entries_listing inst) _ c.from_residual.result refl
    (first-flat_map _ (start_row_listing inst) (row_count inst) c.loop-i.i c.in_err-set_start.field-0.0 (omega (arith, c.rows-i-end.ensures.count)) c.loop-i.invariant.fits
    (subst (λ w. first_unfit w (start_row_listing inst c.loop-i.i) ≡ Some c.in_err-set_start.field-0.0) c.loop-i.invariant.width c.in_err-set_start.ensures.answer))
    c.from_residual.ensures.1

pub returns-clause-answer : goal.returns-clause-answer
returns-clause-answer g c =
    all-flat_map _ (start_row_listing c.args.inst.now) (row_count c.args.inst.now) (λ k b. c.loop-i.invariant.fits k (omega (arith, c.rows-i-end.ensures.count)))

-- The rows before the one at which the loop stops fit.
use Rattle.std.proofs.Common.{◌≡◌, [], ◌∷◌, ◌++◌, length, Some, ◌∙◌, ap, ap₂, sym, subst, arith}
use Rattle.std.proofs.lemmas.List.{length-map}
use Rattle.std.proofs.lemmas.List.FromFn.{map-range_with_len_more}
use Rattle.lp_model.specs.Deck.{Row}
use Rattle.lp_run.specs.Instance.{equations_of, row_count}
use Rattle.lp_run.specs.Listing.{AllFit, first_unfit, start_listing, start_sums}
use Rattle.lp_run.proofs.FirstUnfit.{all-flat_map, first-flat_map}
use Rattle.exact_frac.specs.Count.{raised}
use Rattle.instance_model.specs.Inner.Starts.{row_start}
use Rattle.instance_model.proofs.Made.{overflown, overflown_count, wanting, wanting_count}
use Rattle.instance_model.proofs.Products.{row_costs}
use Rattle.instance_model.proofs.making.row_starts.Goals as goal
use borrow.Author.Count.{below_more}

pub loop-row-preserved : goal.loop-row-preserved
loop-row-preserved g c =
    let d = c.args.deck.now in
    let row = c.loop-row.row in
    let here = subst (λ w. AllFit w (start_sums (equations_of d) row)) c.loop-row.invariant.width c.in_ok-row_start.ensures.answer in
    record {
      width = c.row_start.ensures.width ∙ c.loop-row.invariant.width;
      unfit = c.in_ok-row_start.ensures.unfit ∙ c.loop-row.invariant.unfit;
      work = row_costs (equations_of d) (length d.rows) row (omega (arith, c.rows-row-end.ensures.count)) _ _ _ c.row_start.ensures.work c.loop-row.invariant.work;
      starts = c.in_ok-push.ensures.items ∙ ap₂ (λ xs x. xs ++ x ∷ []) c.loop-row.invariant.starts c.in_ok-row_start.ensures.value
          ∙ sym (map-range_with_len_more (row_start d) 0 row row (omega arith));
      fits = below_more (λ k. AllFit (g.A.Arith.width c.args.arith.now) (start_sums (equations_of d) k)) row c.loop-row.invariant.fits here;
    }

pub returns-clause-work : goal.returns-clause-work
returns-clause-work g c =
    let spent = c.loop-row.invariant.work in
    omega (arith, spent)

pub returns-in_err-row_start-clause-work : goal.returns-in_err-row_start-clause-work
returns-in_err-row_start-clause-work g c =
    let d = c.args.deck.now in
    let spent = row_costs (equations_of d) (length d.rows) c.loop-row.row (omega (arith, c.rows-row-end.ensures.count)) _ _ _ c.row_start.ensures.work c.loop-row.invariant.work in
    omega (arith, spent)

pub returns-in_err-push-clause-work : goal.returns-in_err-push-clause-work
returns-in_err-push-clause-work g c =
    let d = c.args.deck.now in
    let spent = row_costs (equations_of d) (length d.rows) c.loop-row.row (omega (arith, c.rows-row-end.ensures.count)) _ _ _ c.row_start.ensures.work c.loop-row.invariant.work in
    omega (arith, spent)

pub returns-clause-judged : goal.returns-clause-judged
returns-clause-judged g c =
    let d = c.args.deck.now in
    let count = length-map d.rows (λ (r : Row). r.right) in
    all-flat_map (g.A.Arith.width c.args.arith.now) (start_sums (equations_of d)) (row_count (equations_of d))
    (λ k b. c.loop-row.invariant.fits k (omega (b, arith, c.rows-row-end.ensures.count, count)))

pub returns-in_err-row_start-clause-judged : goal.returns-in_err-row_start-clause-judged
returns-in_err-row_start-clause-judged g c =
    let d = c.args.deck.now in
    let row = c.loop-row.row in
    let count = length-map d.rows (λ (r : Row). r.right) in
    let here = subst (λ w. first_unfit w (start_sums (equations_of d) row) ≡ Some c.in_err-row_start.field-0.0) c.loop-row.invariant.width c.in_err-row_start.ensures.answer in
    overflown (g.A.Arith.width c.args.arith.now) (start_listing (equations_of d)) 0 _ c.in_err-row_start.field-0.0
    (first-flat_map (g.A.Arith.width c.args.arith.now) (start_sums (equations_of d)) (row_count (equations_of d)) row c.in_err-row_start.field-0.0
    (omega (arith, c.rows-row-end.ensures.count, count)) c.loop-row.invariant.fits here)
    c.from_residual-in_err-row_start.ensures.1

pub returns-in_err-row_start-clause-unfit : goal.returns-in_err-row_start-clause-unfit
returns-in_err-row_start-clause-unfit g c =
    c.in_err-row_start.ensures.unfit ∙ ap (λ n. raised n 1) c.loop-row.invariant.unfit
    ∙ overflown_count 0 [] (g.A.Arith.unfit_count c.args.arith.now) _ c.in_err-row_start.field-0.0 c.from_residual-in_err-row_start.ensures.1

pub returns-in_err-push-clause-judged : goal.returns-in_err-push-clause-judged
returns-in_err-push-clause-judged g c = wanting _ _ 0 _ c.from_residual-in_err-push.ensures.1

pub returns-in_err-push-clause-unfit : goal.returns-in_err-push-clause-unfit
returns-in_err-push-clause-unfit g c = c.in_ok-row_start.ensures.unfit ∙ c.loop-row.invariant.unfit ∙ wanting_count 0 [] _ _ c.from_residual-in_err-push.ensures.1

pub returns-in_err-starts-clause-judged : goal.returns-in_err-starts-clause-judged
returns-in_err-starts-clause-judged g c = wanting _ _ 0 _ c.from_residual-in_err-starts.ensures.1

pub returns-in_err-starts-clause-unfit : goal.returns-in_err-starts-clause-unfit
returns-in_err-starts-clause-unfit g c = wanting_count 0 [] _ _ c.from_residual-in_err-starts.ensures.1

pub returns-in_err-moved-clause-judged : goal.returns-in_err-moved-clause-judged
returns-in_err-moved-clause-judged g c = wanting _ _ 0 _ c.from_residual.ensures.1

pub returns-in_err-moved-clause-unfit : goal.returns-in_err-moved-clause-unfit
returns-in_err-moved-clause-unfit g c = wanting_count 0 [] _ _ c.from_residual.ensures.1

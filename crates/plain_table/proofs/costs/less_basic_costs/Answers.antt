-- Each step works the product of the next position.
use Rattle.std.proofs.Common.{List, [], length, get_or, refl, ◌∙◌, ap, arith}
use Rattle.rational.specs.Rational.{ℚ, zero_ℚ}
use Rattle.rational.specs.Sum.{at}
use Rattle.rational.specs.Worked.{settle}
use Rattle.rational.proofs.Loops.{all_worked, step_settles, step_stops}
use Rattle.sparse_steps.proofs.Steps.{refused}
use Rattle.plain_table.proofs.Lines.{item_read}
use Rattle.plain_table.proofs.Pricing.{priced_end, priced_start, priced_step}
use Rattle.plain_table.proofs.costs.less_basic_costs.Goals as goal

pub loop-p-init : goal.loop-p-init
loop-p-init g c = record {
  width = refl;
  unfit = refl;
  left = ap (settle (g.A.Arith.width c.args.arith.now)) (priced_start (at c.args.basic_costs.now) (λ p. at (get_or c.args.rows.now p []) c.args.j) (length c.args.rows.now) c.args.own);
}

pub returns-in_err-rest-clause-settled : goal.returns-in_err-rest-clause-settled
returns-in_err-rest-clause-settled g c =
    let p = c.loop-p.p in
    let cost = item_read c.args.basic_costs.now p c.index-basic_costs-p.result zero_ℚ (omega (arith, c.requires.costs)) c.index-basic_costs-p.is in
    let cell = c.get.ensures ∙ ap (λ (row : List ℚ). at row c.args.j) (item_read c.args.rows.now p c.index-rows-p.result [] (omega arith) c.index-rows-p.is) in
    refused _ _ _ (λ x. x)
    (step_stops _ _ c.loop-p.invariant.width _ _ _ (priced_step (at c.args.basic_costs.now) (λ p. at (get_or c.args.rows.now p []) c.args.j) p
    (length c.args.rows.now) c.loop-p.rest _ _ (omega arith) cost cell)
    _ c.loop-p.invariant.left c.in_err-rest.ensures.settled)
    c.from_residual.ensures.1

pub loop-p-preserved : goal.loop-p-preserved
loop-p-preserved g c =
    let p = c.loop-p.p in
    let cost = item_read c.args.basic_costs.now p c.index-basic_costs-p.result zero_ℚ (omega (arith, c.requires.costs)) c.index-basic_costs-p.is in
    let cell = c.get.ensures ∙ ap (λ (row : List ℚ). at row c.args.j) (item_read c.args.rows.now p c.index-rows-p.result [] (omega arith) c.index-rows-p.is) in
    record {
      width = c.less_product.ensures.width ∙ c.loop-p.invariant.width;
      unfit = c.in_ok-rest.ensures.unfit ∙ c.loop-p.invariant.unfit;
      left = step_settles _ _ c.loop-p.invariant.width _ _ _ (priced_step (at c.args.basic_costs.now) (λ p. at (get_or c.args.rows.now p []) c.args.j) p
          (length c.args.rows.now) c.loop-p.rest _ _ (omega arith) cost cell)
          _ c.loop-p.invariant.left _ c.in_ok-rest.ensures.settled;
    }

pub returns-clause-settled : goal.returns-clause-settled
returns-clause-settled g c =
    all_worked _ _ _ _ (priced_end (at c.args.basic_costs.now) (λ p. at (get_or c.args.rows.now p []) c.args.j) c.loop-p.p (length c.args.rows.now) c.loop-p.rest (omega arith)) c.loop-p.invariant.left

-- Each step works the product of the next structural.
use Rattle.std.proofs.Common.{◌-◌, ◌<◌, refl, sym, ◌∙◌, ap, arith}
use Rattle.rational.specs.Rational.{ℚ}
use Rattle.lp_run.specs.Instance.{structural_count}
use Rattle.lp_run.specs.Listing.{added, first_unfit}
use Rattle.bland_ratio.specs.Entries.{nonzero_costs}
use Rattle.run_outcome.specs.Inner.Parts.{terms}
use Rattle.run_outcome.proofs.Totals.{item_read, product_adds, product_fits, product_unfit, sum_starts, terms_start, worked_more, worked_once}
use Rattle.run_outcome.proofs.total.add_up.Goals as goal

pub loop-j-init : goal.loop-j-init
loop-j-init g c =
    let inst = c.args.inst.now in
    let n = structural_count inst in
    let total = c.constant-total.ensures in
    record {
      width = refl;
      unfit = refl;
      work = omega arith;
      left = ap (first_unfit _) (terms_start inst c.args.number c.args.x.now n inst.constant)
          ∙ ap (λ (r : ℚ). first_unfit (g.A.Arith.width c.args.arith.now) (added r (terms inst c.args.number c.args.x.now 0 (n - 0)))) (sym total);
      sum = total ∙ sum_starts inst c.args.number c.args.x.now inst.constant;
    }

pub returns-in-Err-clause-listed : goal.returns-in-Err-clause-listed
returns-in-Err-clause-listed g c =
    let inst = c.args.inst.now in
    let x = c.args.x.now in
    let j = c.loop-j.j in
    let below : j < structural_count inst = omega (arith, c.structurals-j-end.ensures.count) in
    product_unfit inst c.args.number x (g.A.Arith.width c.args.arith.now) (g.A.Arith.width c.loop-j.arith) c.loop-j.invariant.width inst.constant j (structural_count inst) below
    c.loop-j.total c.deck_cost.result c.index-x-j.result c.deck_cost.ensures (item_read x j c.index-x-j.result (omega (arith, c.requires)) c.index-x-j.is)
    c.total_place.result c.total_place.ensures c.in-Err.ensures.settled c.loop-j.invariant.left

pub returns-in-Err-clause-work : goal.returns-in-Err-clause-work
returns-in-Err-clause-work g c =
    let inst = c.args.inst.now in
    let below : c.loop-j.j < structural_count inst = omega (arith, c.structurals-j-end.ensures.count) in
    worked_once inst c.loop-j.j below c.deck_cost.result c.deck_cost.ensures (g.A.Arith.work_count c.args.arith.now) (nonzero_costs inst)
    (g.A.Arith.work_count c.loop-j.arith) _ c.more_product.ensures.work c.loop-j.invariant.work

pub loop-j-preserved : goal.loop-j-preserved
loop-j-preserved g c =
    let inst = c.args.inst.now in
    let x = c.args.x.now in
    let j = c.loop-j.j in
    let below : j < structural_count inst = omega (arith, c.structurals-j-end.ensures.count) in
    let is_value = item_read x j c.index-x-j.result (omega (arith, c.requires)) c.index-x-j.is in
    record {
      width = c.more_product.ensures.width ∙ c.loop-j.invariant.width;
      unfit = c.in-Ok.ensures.unfit ∙ c.loop-j.invariant.unfit;
      left = product_fits inst c.args.number x (g.A.Arith.width c.args.arith.now) (g.A.Arith.width c.loop-j.arith) c.loop-j.invariant.width inst.constant j (structural_count inst) below
          c.loop-j.total c.deck_cost.result c.index-x-j.result c.deck_cost.ensures is_value c.in-Ok.sum c.in-Ok.ensures.settled c.loop-j.invariant.left;
      work = worked_more inst j below c.deck_cost.result c.deck_cost.ensures (g.A.Arith.work_count c.args.arith.now) (nonzero_costs inst)
          (g.A.Arith.work_count c.loop-j.arith) _ c.more_product.ensures.work c.loop-j.invariant.work;
      sum = product_adds inst c.args.number x (g.A.Arith.width c.args.arith.now) (g.A.Arith.width c.loop-j.arith) c.loop-j.invariant.width inst.constant j (structural_count inst) below
          c.loop-j.total c.deck_cost.result c.index-x-j.result c.deck_cost.ensures is_value c.in-Ok.sum c.in-Ok.ensures.settled c.loop-j.invariant.sum;
    }

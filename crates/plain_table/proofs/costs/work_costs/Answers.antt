-- The costs before the one at which the loop stops fit.
use Rattle.std.proofs.Common.{◌<◌, length, Some, None, ◌∙◌, arith}
use Rattle.std.proofs.Math.ListN.{length-set}
use Rattle.lp_model.specs.declared.Kind.TheVariants as kind
use Rattle.rational.specs.Worked.{placed}
use Rattle.lp_run.specs.Instance.{column_count, cost}
use Rattle.lp_run.specs.Listing.{AllFit, place}
use Rattle.lp_run.proofs.FirstUnfit.{all-flat_map}
use Rattle.plain_table.specs.Inner.Costs.{cost_work}
use Rattle.plain_table.proofs.Lines.{set_next}
use Rattle.plain_table.proofs.Pricing.{cost_fits, cost_is, cost_unfit}
use Rattle.plain_table.proofs.costs.work_costs.Goals as goal
use borrow.Author.Count.{below_more}

pub returns-in-Err-clause-answer : goal.returns-in-Err-clause-answer
returns-in-Err-clause-answer g c =
    cost_unfit _ _ c.loop-j.invariant.width c.args.inst.now c.args.phase c.args.number c.args.basic_costs.now c.args.rows.now c.loop-j.j c.cost.result c.cost.ensures
    c.cost_place.result c.cost_place.ensures (omega (arith, c.columns-j-end.ensures.count)) c.loop-j.invariant.fits c.in-Err.ensures.settled

pub loop-j-preserved : goal.loop-j-preserved
loop-j-preserved g c =
    let j = c.loop-j.j in
    let inst = c.args.inst.now in
    let costs = c.args.basic_costs.now in
    let rows = c.args.rows.now in
    let phase = c.args.phase in
    let within_out : j < length c.loop-j.out = omega (arith, c.loop-j.invariant.count, c.columns-j-end.ensures.count) in
    record {
      width = c.reduced_cost.ensures.width ∙ c.loop-j.invariant.width;
      unfit = c.in-Ok.ensures.unfit ∙ c.loop-j.invariant.unfit;
      count = length-set c.loop-j.out j c.in-Ok.cost ∙ c.loop-j.invariant.count;
      costs = set_next (λ k. (cost_work (cost inst phase k) costs rows k).answer) c.loop-j.out j c.in-Ok.cost within_out c.loop-j.invariant.costs
          (cost_is _ _ c.loop-j.invariant.width inst phase c.args.number costs rows j c.cost.result c.cost.ensures c.in-Ok.cost c.in-Ok.ensures.settled);
      fits = below_more (λ k. AllFit (g.A.Arith.width c.args.arith.now) (placed (place c.args.number kind.Cost None (Some k)) (cost_work (cost inst phase k) costs rows k))) j c.loop-j.invariant.fits
          (cost_fits _ _ c.loop-j.invariant.width inst phase c.args.number costs rows j c.cost.result c.cost.ensures c.in-Ok.cost c.in-Ok.ensures.settled);
    }

pub returns-clause-answer : goal.returns-clause-answer
returns-clause-answer g c =
    all-flat_map _ (λ j. placed (place c.args.number kind.Cost None (Some j)) (cost_work (cost c.args.inst.now c.args.phase j) c.args.basic_costs.now c.args.rows.now j)) (column_count c.args.inst.now)
    (λ k b. c.loop-j.invariant.fits k (omega (arith, c.columns-j-end.ensures.count)))

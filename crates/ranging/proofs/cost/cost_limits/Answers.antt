use Rattle.std.proofs.Common.{◌<◌, Ok, Err, sym, ◌∙◌, subst, arith}
use Rattle.rational.specs.Rational.{zero_ℚ}
use Rattle.rational.specs.Sum.{at}
use Rattle.lp_run.specs.Instance.{column_count}
use Rattle.plain_table.proofs.Lines.{item_read}
use Rattle.ranging.specs.Inner.Found.{FitAll, LimitsOne}
use Rattle.ranging.specs.Listing.{cost_quotient}
use Rattle.ranging.proofs.Ends.{refused}
use Rattle.ranging.proofs.FirstWide.{all-flat, wide-flat}
use Rattle.ranging.proofs.Known.{limits_more}
use Rattle.ranging.proofs.cost.cost_limits.Goals as goal
use borrow.Author.Count.{below_more}

pub returns-in_err-next-clause-limits : goal.returns-in_err-next-clause-limits
returns-in_err-next-clause-limits g c =
    let a = c.args in
    let inst = a.inst.now in
    let w = g.A.Arith.width in
    let k = c.loop-k.k in
    let below : k < column_count inst = omega (arith, c.columns-k-end.ensures.count) in
    let is_cost = item_read a.costs.now k c.index-costs-k.result zero_ℚ (subst (λ n. k < n) (sym c.requires.costs) below) c.index-costs-k.is in
    let is_row = item_read a.row.now k c.index-row-k.result zero_ℚ (subst (λ n. k < n) (sym c.requires.row) below) c.index-row-k.is in
    let one = subst (λ v. LimitsOne v inst a.state.now (at a.costs.now k) (at a.row.now k) k (Err c.in_err-next.field-0.0)) c.loop-k.invariant.width
    (subst (λ z. LimitsOne (w c.loop-k.arith) inst a.state.now z (at a.row.now k) k (Err c.in_err-next.field-0.0)) is_cost
    (subst (λ z. LimitsOne (w c.loop-k.arith) inst a.state.now c.index-costs-k.result z k (Err c.in_err-next.field-0.0)) is_row c.in_err-next.ensures.limits)) in
    refused c.from_residual.result _ _ c.from_residual.ensures.1
    (wide-flat (w a.arith.now) (λ k. cost_quotient inst a.state.now (at a.costs.now k) (at a.row.now k) k) k (column_count inst) below one)

pub loop-k-preserved : goal.loop-k-preserved
loop-k-preserved g c =
    let a = c.args in
    let inst = a.inst.now in
    let w = g.A.Arith.width in
    let k = c.loop-k.k in
    let below : k < column_count inst = omega (arith, c.columns-k-end.ensures.count) in
    let is_cost = item_read a.costs.now k c.index-costs-k.result zero_ℚ (subst (λ n. k < n) (sym c.requires.costs) below) c.index-costs-k.is in
    let is_row = item_read a.row.now k c.index-row-k.result zero_ℚ (subst (λ n. k < n) (sym c.requires.row) below) c.index-row-k.is in
    let one = subst (λ v. LimitsOne v inst a.state.now (at a.costs.now k) (at a.row.now k) k (Ok c.in_ok-next.next)) c.loop-k.invariant.width
    (subst (λ z. LimitsOne (w c.loop-k.arith) inst a.state.now z (at a.row.now k) k (Ok c.in_ok-next.next)) is_cost
    (subst (λ z. LimitsOne (w c.loop-k.arith) inst a.state.now c.index-costs-k.result z k (Ok c.in_ok-next.next)) is_row c.in_ok-next.ensures.limits)) in
    record {
      width = c.cost_limit.ensures.width ∙ c.loop-k.invariant.width;
      unfit = c.in_ok-next.ensures.unfit ∙ c.loop-k.invariant.unfit;
      work = omega (arith, c.loop-k.invariant.work, c.cost_limit.ensures.work);
      fits = below_more (λ k. FitAll (w a.arith.now) (cost_quotient inst a.state.now (at a.costs.now k) (at a.row.now k) k)) k c.loop-k.invariant.fits one.0;
      limits = limits_more inst a.state.now (at a.costs.now) (at a.row.now) k c.loop-k.limits c.in_ok-next.next c.meet-limits.result c.meet-limits.ensures c.loop-k.invariant.limits one.1;
    }

pub returns-clause-limits : goal.returns-clause-limits
returns-clause-limits g c =
    let a = c.args in
    let inst = a.inst.now in
    let all = c.columns-k-end.ensures.count in (
      all-flat (g.A.Arith.width a.arith.now) (λ k. cost_quotient inst a.state.now (at a.costs.now k) (at a.row.now k) k) (column_count inst) (λ k b. c.loop-k.invariant.fits k (omega (arith, all))),
      λ u. ((λ h k b. (c.loop-k.invariant.limits u).0 h k (omega (arith, all))), λ h. (c.loop-k.invariant.limits u).1 (λ k b. h k (omega (arith, all, c.loop-k.auto.k-end)))),
    )

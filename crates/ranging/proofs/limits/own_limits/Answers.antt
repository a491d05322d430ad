use Rattle.std.proofs.Common.{◌≡◌, ◌<◌, Some, None, length, sym, ◌∙◌, ap, subst, get_or, arith}
use Rattle.rational.specs.Rational.{zero_ℚ}
use Rattle.rational.specs.Sum.{at}
use Rattle.lp_run.specs.Instance.{column_count}
use Rattle.ranging.specs.Inner.Found.{own_limit}
use Rattle.plain_table.proofs.Lines.{item_read}
use Rattle.ranging.proofs.Known.{pushed}
use Rattle.ranging.proofs.limits.own_limits.Goals as goal

pub loop-j-preserved : goal.loop-j-preserved
loop-j-preserved c =
    let j = c.loop-j.j in
    let inst = c.args.inst.now in
    let below : j < column_count inst = omega (arith, c.structurals-j-end.ensures.count) in
    let is_cost = item_read c.args.costs.now j c.index-costs-j.result zero_ℚ (subst (λ n. j < n) (sym c.requires.costs) below) c.index-costs-j.is in
    let items = c.in_ok-push.ensures.items in
    record {
      count = ap length items ∙ grind (arith, c.loop-j.invariant.count);
      own = λ k b. subst (λ xs. get_or xs k None ≡ Some (own_limit inst c.args.state.now (at c.args.costs.now k) k)) (sym items)
          (pushed (λ k o. o ≡ Some (own_limit inst c.args.state.now (at c.args.costs.now k) k)) c.loop-j.limits.items (Some c.own_limit.result) j c.loop-j.invariant.count c.loop-j.invariant.own
          (ap Some (c.own_limit.ensures ∙ ap (λ z. own_limit inst c.args.state.now z j) is_cost)) k b);
    }

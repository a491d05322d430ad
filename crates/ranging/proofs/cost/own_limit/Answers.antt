use Rattle.std.proofs.Common.{◌≡◌, true, cond, sym, ◌∙◌, ap, ap₂, arith}
use Rattle.rational.specs.Rational.{one_ℚ, neg_ℚ}
use Rattle.std.specs.declared.cmp.Ordering.TheVariants.{Less}
use Rattle.lp_run.specs.State.{status_of}
use Rattle.ranging.specs.Inner.Limits.{cost_limit, counted, limit_by}
use Rattle.ranging.specs.Listing.{is_looked_at}
use Rattle.ranging.specs.Ranges.{everything}
use Rattle.ranging.proofs.Ends.{own_is}
use Rattle.ranging.proofs.cost.own_limit.Goals as goal

pub returns : goal.returns
returns c =
    let a = c.args in
    let inst = a.inst.now in
    let looked : is_looked_at inst a.state.now a.j ≡ true = grind (arith, c.is_looked_at.ensures, c.if-not-is_looked_at.false) in
    c.counted-2.ensures
    ∙ ap₂ counted c.sense-2.ensures (c.limit_by.ensures ∙ ap₂ (λ st q. limit_by st Less q) c.status.ensures c.negated.ensures ∙ own_is (status_of a.state.now a.j) a.cost)
    ∙ ap (λ l. counted inst.sense (cond l (cost_limit (status_of a.state.now a.j) a.cost (neg_ℚ one_ℚ)) everything)) (sym looked)

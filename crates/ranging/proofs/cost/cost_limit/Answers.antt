use Rattle.std.proofs.Common.{◌≡◌, true, sym, ◌∙◌, ap, ap₂, subst, arith}
use Rattle.rational.specs.Rational.{zero_ℚ, cmp_ℚ}
use Rattle.exact_frac.specs.Constants.{ratio-zero}
use Rattle.lp_run.specs.State.{status_of}
use Rattle.ranging.specs.Inner.Limits.{limit_by}
use Rattle.ranging.specs.Listing.{is_looked_at}
use Rattle.ranging.proofs.Ends.{Known, fails, no_entry, quotient_limits, quotient_wide, refused}
use Rattle.ranging.proofs.cost.cost_limit.Goals as goal

pub returns-then-is_zero-clause-limits : goal.returns-then-is_zero-clause-limits
returns-then-is_zero-clause-limits g c =
    let a = c.args in
    subst (Known (g.A.Arith.width a.arith.now) a.inst.now a.state.now a.cost a.entry a.k) (sym c.everything.ensures)
    (no_entry (g.A.Arith.width a.arith.now) a.inst.now a.state.now a.cost a.entry a.k (c.is_zero.ensures.0 c.if-is_zero.true))

pub returns-in_err-quotient-clause-limits : goal.returns-in_err-quotient-clause-limits
returns-in_err-quotient-clause-limits g c =
    let a = c.args in
    let looked : is_looked_at a.inst.now a.state.now a.k ≡ true = grind (arith, c.is_looked_at.ensures, c.if-not-is_looked_at.false) in
    refused c.from_residual.result _ _ c.from_residual.ensures.1
    (quotient_wide (g.A.Arith.width a.arith.now) a.inst.now a.state.now a.cost a.entry a.k looked (fails _ c.is_zero.ensures c.if-is_zero.false) c.in_err-quotient.ensures.answer)

pub returns-clause-limits : goal.returns-clause-limits
returns-clause-limits g c =
    let a = c.args in
    let looked : is_looked_at a.inst.now a.state.now a.k ≡ true = grind (arith, c.is_looked_at.ensures, c.if-not-is_looked_at.false) in
    let answer = c.in_ok-quotient.ensures.answer in
    quotient_limits (g.A.Arith.width a.arith.now) a.inst.now a.state.now a.cost a.entry a.k looked (fails _ c.is_zero.ensures c.if-is_zero.false) answer.1 c.limit_by.result
    (c.limit_by.ensures
    ∙ ap₂ (λ st o. limit_by st o c.in_ok-quotient.quotient) c.status.ensures (c.cmp.ensures ∙ ap (cmp_ℚ a.entry) ratio-zero)
    ∙ ap (limit_by (status_of a.state.now a.k) (cmp_ℚ a.entry zero_ℚ)) answer.0)

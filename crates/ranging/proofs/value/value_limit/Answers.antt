use Rattle.std.proofs.Common.{◌≡◌, sym, ◌∙◌, ap, subst}
use Rattle.std.specs.Ordering.{is_lt}
use Rattle.exact_frac.specs.Constants.{ratio-zero}
use Rattle.rational.specs.Rational.{zero_ℚ, cmp_ℚ}
use Rattle.rational.proofs.OrderLaws.{is_lt-cmp_ℚ}
use Rattle.ranging.specs.Inner.Found.{FitAll, IsWide}
use Rattle.ranging.specs.Inner.Limits.{end_over, value_limit}
use Rattle.ranging.specs.Listing.{end_values, move_values}
use Rattle.ranging.proofs.Ends.{fails, falls_limit, lower_wide, refused, rises_limit, still_limit, upper_wide}
use Rattle.ranging.proofs.value.value_limit.Goals as goal

pub returns-then-is_zero-clause-limit : goal.returns-then-is_zero-clause-limit
returns-then-is_zero-clause-limit g c =
    let a = c.args in
    let w = g.A.Arith.width a.arith.now in
    subst (λ i. FitAll w (move_values a.bounds a.value a.rate) × (i ≡ value_limit a.bounds a.value a.rate)) (sym c.everything.ensures)
    (still_limit w a.bounds a.value a.rate (c.is_zero.ensures.0 c.if-is_zero.true))

pub returns-in_err-lower-clause-limit : goal.returns-in_err-lower-clause-limit
returns-in_err-lower-clause-limit g c =
    let a = c.args in
    let w = g.A.Arith.width a.arith.now in
    refused c.from_residual.result _ _ c.from_residual.ensures.1
    (lower_wide w a.bounds a.value a.rate (fails _ c.is_zero.ensures c.if-is_zero.false) (subst (λ o. IsWide w (end_values o a.value a.rate)) c.lower.ensures c.in_err-lower.ensures.limit))

pub returns-in_err-upper-clause-limit : goal.returns-in_err-upper-clause-limit
returns-in_err-upper-clause-limit g c =
    let a = c.args in
    let w = g.A.Arith.width a.arith.now in
    refused c.from_residual-in_err-upper.result _ _ c.from_residual-in_err-upper.ensures.1
    (upper_wide w a.bounds a.value a.rate (fails _ c.is_zero.ensures c.if-is_zero.false)
    (subst (λ o. FitAll w (end_values o a.value a.rate)) c.lower.ensures c.in_ok-lower.ensures.limit.0)
    (subst (λ o. IsWide w (end_values o a.value a.rate)) c.upper.ensures
    (subst (λ v. IsWide v (end_values c.upper.result a.value a.rate)) c.end_over.ensures.width c.in_err-upper.ensures.limit)))

pub returns-then-is_lt-clause-limit : goal.returns-then-is_lt-clause-limit
returns-then-is_lt-clause-limit g c =
    let a = c.args in
    let w = g.A.Arith.width a.arith.now in
    subst (λ i. FitAll w (move_values a.bounds a.value a.rate) × (i ≡ value_limit a.bounds a.value a.rate)) (sym c.new.ensures)
    (falls_limit w a.bounds a.value a.rate (fails _ c.is_zero.ensures c.if-is_zero.false) c.in_ok-lower.lower c.in_ok-upper.upper
    (subst (λ o. FitAll w (end_values o a.value a.rate) × (c.in_ok-lower.lower ≡ end_over o a.value a.rate)) c.lower.ensures c.in_ok-lower.ensures.limit)
    (subst (λ o. FitAll w (end_values o a.value a.rate) × (c.in_ok-upper.upper ≡ end_over o a.value a.rate)) c.upper.ensures
    (subst (λ v. FitAll v (end_values c.upper.result a.value a.rate) × (c.in_ok-upper.upper ≡ end_over c.upper.result a.value a.rate)) c.end_over.ensures.width c.in_ok-upper.ensures.limit))
    (sym (is_lt-cmp_ℚ a.rate zero_ℚ) ∙ ap (λ z. is_lt (cmp_ℚ a.rate z)) (sym ratio-zero) ∙ ap is_lt (sym c.cmp.ensures) ∙ sym c.is_lt.ensures ∙ c.if-is_lt.true))

pub returns-else-is_lt-clause-limit : goal.returns-else-is_lt-clause-limit
returns-else-is_lt-clause-limit g c =
    let a = c.args in
    let w = g.A.Arith.width a.arith.now in
    subst (λ i. FitAll w (move_values a.bounds a.value a.rate) × (i ≡ value_limit a.bounds a.value a.rate)) (sym c.new-else-is_lt.ensures)
    (rises_limit w a.bounds a.value a.rate (fails _ c.is_zero.ensures c.if-is_zero.false) c.in_ok-lower.lower c.in_ok-upper.upper
    (subst (λ o. FitAll w (end_values o a.value a.rate) × (c.in_ok-lower.lower ≡ end_over o a.value a.rate)) c.lower.ensures c.in_ok-lower.ensures.limit)
    (subst (λ o. FitAll w (end_values o a.value a.rate) × (c.in_ok-upper.upper ≡ end_over o a.value a.rate)) c.upper.ensures
    (subst (λ v. FitAll v (end_values c.upper.result a.value a.rate) × (c.in_ok-upper.upper ≡ end_over c.upper.result a.value a.rate)) c.end_over.ensures.width c.in_ok-upper.ensures.limit))
    (sym (is_lt-cmp_ℚ a.rate zero_ℚ) ∙ ap (λ z. is_lt (cmp_ℚ a.rate z)) (sym ratio-zero) ∙ ap is_lt (sym c.cmp.ensures) ∙ sym c.is_lt.ensures ∙ c.if-is_lt.false))

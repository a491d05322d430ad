use Rattle.std.proofs.Common.{List, length, refl, sym, ◌∙◌, ap, subst}
use Rattle.deck_model.specs.Outcome.{outcome_of}
use Rattle.rational.specs.Rational.{ℚ}
use Rattle.cert_check.specs.declared.bases.Priced.TheVariants.{ByCost}
use Rattle.cert_check.specs.declared.verdict.Rule.TheVariants as rule
use Rattle.cert_check.specs.Inner.Groups.{FirstIs, basic_by, marked_walk, rest_by}
use Rattle.cert_check.specs.Walk.{each, first_stop}
use Rattle.cert_check.proofs.Walking.{handed_on, stops, walk-then}
use Rattle.cert_check.proofs.bases.agrees.Goals as goal

pub returns-in_err-rests-in-Optimal-clause-first : goal.returns-in_err-rests-in-Optimal-clause-first
returns-in_err-rests-in-Optimal-clause-first g c =
    let d = c.args.deck.now in
    let w = g.A.Arith.width c.args.arith.now in
    let basic = c.args.basic.now in
    let upper = c.args.upper.now in
    let point = ap (λ (v : List ℚ). first_stop w (each rule.Rest (rest_by d basic upper v) (length d.columns))) (sym c.as_slice.ensures) in
    handed_on _ c.from_residual.result c.in_err-rests-in-Optimal.field-0.0
    (ap (λ o. first_stop w (marked_walk d (outcome_of o) basic upper)) c.in-Optimal.is ∙ stops _ _ _ _ (point ∙ c.in_err-rests-in-Optimal.ensures.first w)) c.from_residual.ensures.1

pub returns-in_ok-rests-in-Optimal-clause-first : goal.returns-in_ok-rests-in-Optimal-clause-first
returns-in_ok-rests-in-Optimal-clause-first g c =
    let d = c.args.deck.now in
    let w = g.A.Arith.width c.args.arith.now in
    let basic = c.args.basic.now in
    let upper = c.args.upper.now in
    let point = ap (λ (v : List ℚ). first_stop w (each rule.Rest (rest_by d basic upper v) (length d.columns))) (sym c.as_slice.ensures) in
    let prices = subst (λ (v : List ℚ). FirstIs (first_stop w (each rule.Basic (basic_by ByCost d basic v) (length d.columns))) c.basics.result) c.as_slice-in-Optimal.ensures c.basics.ensures.first in
    subst (λ o. FirstIs (first_stop w (marked_walk d (outcome_of o) basic upper)) c.basics.result) (sym c.in-Optimal.is)
    (walk-then w w _ _ refl (point ∙ c.in_ok-rests-in-Optimal.ensures.first w) c.basics.result prices)

pub returns-in-Unbounded-clause-first : goal.returns-in-Unbounded-clause-first
returns-in-Unbounded-clause-first g c =
    let d = c.args.deck.now in
    let w = g.A.Arith.width c.args.arith.now in
    let basic = c.args.basic.now in
    let upper = c.args.upper.now in
    subst (λ o. FirstIs (first_stop w (marked_walk d (outcome_of o) basic upper)) c.rests-in-Unbounded.result) (sym c.in-Unbounded.is)
    (subst (λ (v : List ℚ). FirstIs (first_stop w (each rule.Rest (rest_by d basic upper v) (length d.columns))) c.rests-in-Unbounded.result)
    c.as_slice-in-Unbounded.ensures (c.rests-in-Unbounded.ensures.first w))

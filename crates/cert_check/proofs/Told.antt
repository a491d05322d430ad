-- The walk of a basis, by its marks.
use Rattle.std.proofs.Common.{◌≡◌, ℕ, ◌≤◌, Bool, true, false, ◌||◌, List, ◌++◌, length, Some, None, Result, Ok, Err, sym, ◌∙◌, ap, ap₂, subst, arith}
use Rattle.lp_model.specs.Basis.{Basis}
use Rattle.lp_model.specs.Deck.{Deck, column}
use Rattle.lp_model.specs.Outcome.{Outcome, optimal, infeasible, unbounded}
use Rattle.rational.specs.Rational.{ℚ}
use Rattle.rational.specs.Sum.{at}
use Rattle.rational.specs.Worked.{done}
use Rattle.rational.proofs.Settling.{settle-done}
use Rattle.cert_check.specs.declared.bases.Priced.TheVariants.{ByCost, ByWeight}
use Rattle.cert_check.specs.declared.verdict.Rule.TheVariants as rule
use Rattle.cert_check.specs.declared.verdict.Stop.{Stop}
use Rattle.cert_check.specs.declared.verdict.Stop.TheVariants.{Broken, Unfit}
use Rattle.cert_check.specs.declared.verdict.Verdict.{Verdict}
use Rattle.cert_check.specs.declared.verdict.Verdict.TheVariants.{Yes, No}
use Rattle.cert_check.specs.declared.verdict.CheckFault.{CheckFault}
use Rattle.cert_check.specs.declared.verdict.CheckFault.TheVariants.{Memory, Overflow}
use Rattle.cert_check.specs.Inner.Groups.{FirstIs, Marks, basic_by, marked_walk, rest_by, sum_by}
use Rattle.cert_check.specs.Items.{basic_cost_item, basic_weight_item, is_at_rest, is_basis, rest_item, zero_where}
use Rattle.cert_check.specs.Judged.{Judges}
use Rattle.cert_check.specs.Walk.{Item, basis_walk, each, first_stop, or_later, stop_by}
use Rattle.cert_check.proofs.Walking.{each-same, passes, stops}

module _ (w : ℕ) (xs ys : List Item) where
  -- an acceptance of the first items leaves the later ones to answer, at a width that is the same
  pub judges-then : (u : ℕ) (r : Result Verdict CheckFault) → u ≡ w → first_stop w xs ≡ None → Judges u ys r → Judges w (xs ++ ys) r
  judges-then u r same first later = at_width r (subst (λ v. Judges v ys r) same later)
    where
      at_width : (r : Result Verdict CheckFault) → Judges w ys r → Judges w (xs ++ ys) r
      at_width (Ok Yes) h = passes w xs ys first ∙ h
      at_width (Ok (No rule)) h = passes w xs ys first ∙ h
      at_width (Err (Overflow rule)) h = passes w xs ys first ∙ h
      at_width (Err Memory) h = tt

  -- and any other answer of them stands
  pub judges-fault : (fault : CheckFault) → Judges w xs (Err fault) → Judges w (xs ++ ys) (Err fault)
  judges-fault (Overflow rule) h = stops w xs ys (Unfit rule) h
  judges-fault Memory h = tt

-- the walk behind the basis itself
abbrev told_walk : Deck → Outcome → Basis → List Item
told_walk d (optimal x y stated) b = each rule.Rest (rest_item d b x) (length d.columns) ++ each rule.Basic (basic_cost_item d b y) (length d.columns)
told_walk d (infeasible y) b = each rule.Basic (basic_weight_item d b y) (length d.columns)
told_walk d (unbounded x r) b = each rule.Rest (rest_item d b x) (length d.columns)

module _ (w : ℕ) (d : Deck) (b : Basis) where
  basis-first : (o : Outcome) → first_stop w (basis_walk d o b) ≡ or_later (stop_by rule.Basis (Some (is_basis b))) (first_stop w (told_walk d o b))
  basis-first (optimal x y stated) = ap (λ s. or_later (stop_by rule.Basis s) (first_stop w (told_walk d (optimal x y stated) b))) (settle-done w (is_basis b))
  basis-first (infeasible y) = ap (λ s. or_later (stop_by rule.Basis s) (first_stop w (told_walk d (infeasible y) b))) (settle-done w (is_basis b))
  basis-first (unbounded x r) = ap (λ s. or_later (stop_by rule.Basis s) (first_stop w (told_walk d (unbounded x r) b))) (settle-done w (is_basis b))

  -- no basis stops the walk at once
  pub told-broken : (o : Outcome) → is_basis b ≡ false → first_stop w (basis_walk d o b) ≡ Some (Broken rule.Basis)
  told-broken o e = basis-first o ∙ ap (λ t. or_later (stop_by rule.Basis (Some t)) (first_stop w (told_walk d o b))) e

  module _ (count : ℕ) (few : length d.columns ≤ count) (basic upper : List Bool) (basics : Marks count b.basic basic) (uppers : Marks count b.upper upper) where
    same-rests : (x : List ℚ) → each rule.Rest (rest_by d basic upper x) (length d.columns) ≡ each rule.Rest (rest_item d b x) (length d.columns)
    same-rests x = each-same rule.Rest (rest_by d basic upper x) (rest_item d b x) (length d.columns)
        (λ j lt. ap₂ (λ s t. done (s || is_at_rest (column d j).bounds t (at x j))) (basics.each j (omega (arith, few, lt))) (uppers.each j (omega (arith, few, lt))))

    same-costs : (y : List ℚ) → each rule.Basic (basic_by ByCost d basic y) (length d.columns) ≡ each rule.Basic (basic_cost_item d b y) (length d.columns)
    same-costs y = each-same rule.Basic (basic_by ByCost d basic y) (basic_cost_item d b y) (length d.columns)
        (λ j lt. ap (λ s. zero_where s (sum_by ByCost d y j)) (basics.each j (omega (arith, few, lt))))

    same-weights : (y : List ℚ) → each rule.Basic (basic_by ByWeight d basic y) (length d.columns) ≡ each rule.Basic (basic_weight_item d b y) (length d.columns)
    same-weights y = each-same rule.Basic (basic_by ByWeight d basic y) (basic_weight_item d b y) (length d.columns)
        (λ j lt. ap (λ s. zero_where s (sum_by ByWeight d y j)) (basics.each j (omega (arith, few, lt))))

    same-walk : (o : Outcome) → marked_walk d o basic upper ≡ told_walk d o b
    same-walk (optimal x y stated) = ap₂ (λ (xs ys : List Item). xs ++ ys) (same-rests x) (same-costs y)
    same-walk (infeasible y) = same-weights y
    same-walk (unbounded x r) = same-rests x

    -- a basis leaves the rest to answer, by its marks and at a width that is the same
    pub told-then : (o : Outcome) (u : ℕ) (r : Result (Unit {0}) Stop) → u ≡ w → is_basis b ≡ true → FirstIs (first_stop u (marked_walk d o basic upper)) r
        → FirstIs (first_stop w (basis_walk d o b)) r
    told-then o u r same e h =
        subst (λ s. FirstIs s r)
        (ap (λ v. first_stop v (marked_walk d o basic upper)) same ∙ ap (first_stop w) (same-walk o)
        ∙ sym (basis-first o ∙ ap (λ t. or_later (stop_by rule.Basis (Some t)) (first_stop w (told_walk d o b))) e)) h

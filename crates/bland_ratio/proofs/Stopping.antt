-- Which columns are stoppers, one after another.
use Rattle.std.proofs.Common.{◌≡◌, ℕ, ◌+◌, ◌<◌, ◌≤◌, ◌⊎◌, ◌↔◌, inl, inr, Bool, Some, IsTrue, T, sym, ◌∙◌, ap₂, subst, arith}
use Rattle.std.proofs.lemmas.Bool.{cases_lt}
use Rattle.std.specs.Ordering.{is_lt}
use Rattle.lp_model.specs.declared.Status.{Status}
use Rattle.lp_model.specs.declared.Status.TheVariants as status
use Rattle.rational.specs.Rational.{ℚ, cmp_ℚ, lt_ℚ, ◌<ℚ◌}
use Rattle.rational.proofs.OrderLaws.{is_lt-cmp_ℚ, lt_ℚ-below}
use Rattle.lp_run.specs.Instance.{Instance}
use Rattle.lp_run.specs.Step.{Improves}
use Rattle.bland_ratio.specs.declared.tickets.Ticket.{Ticket}
use Rattle.bland_ratio.specs.Pricing.{IsFirstStopper, NoneStops, Stops}

-- a column that may enter is not basic
pub not_basic : (st : Status) (d : ℚ) → Improves st d → st ≡ status.Basic → ⊥
not_basic st d h e = subst (λ st. Improves st d) e h

-- a comparison of two numbers says which is below
pub below_tested : (a b c d : ℚ) (r : Bool) → a ≡ c → b ≡ d → r ≡ is_lt (cmp_ℚ a b) → IsTrue r ↔ (c <ℚ d)
below_tested a b c d r p q e =
    let same : r ≡ lt_ℚ c d = e ∙ is_lt-cmp_ℚ a b ∙ ap₂ lt_ℚ p q in
    ((λ t. record { lt = subst T (sym (sym same ∙ t)) tt }), λ h. same ∙ lt_ℚ-below c d h)

-- ── one column more ──

pub first_found : (w u : ℕ) (inst : Instance) (ticket : Ticket) (from to j n : ℕ) (unfit : Bool) → u ≡ w → n ≡ j → from ≤ j → j < to
    → Stops u inst ticket j unfit → NoneStops w inst ticket from j → IsFirstStopper w inst ticket from to (Some (n, unfit))
first_found w u inst ticket from to j n unfit width same above below stops none =
    subst (λ n. IsFirstStopper w inst ticket from to (Some (n, unfit))) (sym same) (above, below, subst (λ w. Stops w inst ticket j unfit) width stops, none)

pub none_more : (w u : ℕ) (inst : Instance) (ticket : Ticket) (from j : ℕ) → u ≡ w → NoneStops w inst ticket from j → ((unfit : Bool) → Stops u inst ticket j unfit → ⊥)
    → NoneStops w inst ticket from (j + 1)
none_more w u inst ticket from j width none here k above below unfit h = by (cases_lt k j)
  where
    by : (k < j) ⊎ (j ≤ k) → ⊥
    by (inl less) = none k above less unfit h
    by (inr more) =
        let same : k ≡ j = omega arith in
        here unfit (subst (λ w. Stops w inst ticket j unfit) (sym width) (subst (λ k. Stops w inst ticket k unfit) same h))

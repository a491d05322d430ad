-- A deck has one whole run, and one outcome.
use Rattle.std.proofs.Common.{◌≡◌, ℕ, inl, inr, List, [], ◌∷◌, refl, sym, ◌∙◌, ap, ap₂, subst}
use Rattle.lp_model.specs.declared.Entry.{Entry}
use Rattle.lp_model.specs.declared.Phase.TheVariants.{One, Two}
use Rattle.rational.specs.Rational.{ℚ}
use Rattle.lp_run.specs.Instance.{Instance}
use Rattle.lp_run.specs.Ends.{Yields, HasOutcome, objective_at, point, prices_in, ray}
use Rattle.lp_model.specs.Outcome.{Outcome, infeasible, optimal, unbounded}
use Rattle.lp_run.specs.Run.{Leads}
use Rattle.lp_run.specs.Solution.{Regular}
use Rattle.lp_run.specs.State.{State, after, start_of}
use Rattle.lp_run.specs.Step.{Eligible, IsFinal, Pivoting, Rests}
use Rattle.lp_run.specs.Tableau.{HasTable}
use Rattle.lp_run.proofs.Kept.{after_has_table, regular_from_table}
use Rattle.lp_run.proofs.Regularity.{one_prices, one_values}
use Rattle.lp_run.proofs.Unique.{carried, no_next_at_end, one_next}

-- two runs from one state that both end are the same, and end at one state
pub one_whole : (inst : Instance) (s : State) → HasTable inst s → (log log' : List Entry) (t t' : State) → Leads inst s log t → IsFinal inst t
    → Leads inst s log' t' → IsFinal inst t'
    → (log ≡ log') × (t ≡ t') × HasTable inst t
one_whole inst s h [] [] t t' leads final leads' final' = (refl, sym leads ∙ leads', subst (HasTable inst) leads h)
one_whole inst s h [] (e ∷ log') t t' leads final leads' final' =
    absurd (no_next_at_end inst s (regular_from_table inst s h) e leads'.0 (subst (IsFinal inst) (sym leads) final))
one_whole inst s h (e ∷ log) [] t t' leads final leads' final' =
    absurd (no_next_at_end inst s (regular_from_table inst s h) e leads.0 (subst (IsFinal inst) (sym leads') final'))
one_whole inst s h (e ∷ log) (e' ∷ log') t t' leads final leads' final' =
    let first : e' ≡ e = one_next inst s (regular_from_table inst s h) e' e leads'.0 leads.0 in
    let rest = one_whole inst (after s e) (after_has_table inst s h e leads.0) log log' t t' leads.1 final
    (subst (λ a. Leads inst (after s a) log' t') first leads'.1) final' in
    (ap₂ ◌∷◌ (sym first) rest.0, rest.1, rest.2)

module _ (inst : Instance) (s : State) (regular : Regular inst s) where
  -- a state does not both rest and go on
  rests_apart : (y β y' β' α : List ℚ) (q : ℕ) → Rests inst s y β → Pivoting inst s y' β' α q → ⊥
  rests_apart y β y' β' α q rests pivoting =
      rests.none_eligible q (subst (λ v. Eligible inst s v q) (one_prices inst s regular y' y pivoting.prices rests.prices) pivoting.enters.eligible)

  phases_apart : s.phase ≡ One → s.phase ≡ Two → ⊥
  phases_apart e f = apart (sym e ∙ f)
    where
      apart : One ≡ Two → ⊥
      apart e = cc e

  -- a final state gives one outcome
  pub one_given : (o o' : Outcome) → Yields inst s o → Yields inst s o' → o ≡ o'
  one_given (optimal x y v) (optimal x' y' v') (z, β, ends, at_prices, at_point, at_value) (z', β', ends', at_prices', at_point', at_value') =
      let points : x ≡ x' = at_point ∙ ap (point inst s) (one_values inst s regular β β' ends.1.values ends'.1.values) ∙ sym at_point' in
      let prices : y ≡ y' = at_prices ∙ ap (prices_in inst.sense) (one_prices inst s regular z z' ends.1.prices ends'.1.prices) ∙ sym at_prices' in
      ap (λ a. optimal a y v) points ∙ ap₂ (λ b c. optimal x' b c) prices (at_value ∙ ap (objective_at inst) points ∙ sym at_value')
  one_given (optimal x y v) (infeasible y') (z, β, ends, at_prices, at_point, at_value) (β', ends') = absurd (phases_apart ends'.0 ends.0)
  one_given (optimal x y v) (unbounded x' r') (z, β, ends, at_prices, at_point, at_value) (y', β', α', q', ends', at_point', at_ray') =
      absurd (rests_apart z β y' β' α' q' ends.1 ends'.0)
  one_given (infeasible y) (optimal x' y' v') (β, ends) (z', β', ends', at_prices', at_point', at_value') = absurd (phases_apart ends.0 ends'.0)
  one_given (infeasible y) (infeasible y') (β, ends) (β', ends') = ap infeasible (one_prices inst s regular y y' ends.1.prices ends'.1.prices)
  one_given (infeasible y) (unbounded x' r') (β, ends) (y', β', α', q', ends', at_point', at_ray') = absurd (rests_apart y β y' β' α' q' ends.1 ends'.0)
  one_given (unbounded x r) (optimal x' y' v') (y, β, α, q, ends, at_point, at_ray) (z', β', ends', at_prices', at_point', at_value') =
      absurd (rests_apart z' β' y β α q ends'.1 ends.0)
  one_given (unbounded x r) (infeasible y') (y, β, α, q, ends, at_point, at_ray) (β', ends') = absurd (rests_apart y' β' y β α q ends'.1 ends.0)
  one_given (unbounded x r) (unbounded x' r') (y, β, α, q, ends, at_point, at_ray) (y', β', α', q', ends', at_point', at_ray') =
      let same = carried inst s regular y β α q y' β' α' q' ends.0 ends'.0 (λ k t b a. (x' ≡ point inst s b) × (r' ≡ ray inst s k t a)) (at_point', at_ray') in
      ap₂ unbounded (at_point ∙ sym same.0) (at_ray ∙ sym same.1)

-- the end that an outcome comes from
pub gives_final : (inst : Instance) (s : State) (o : Outcome) → Yields inst s o → IsFinal inst s
gives_final inst s (optimal x y v) (z, β, ends, at_prices, at_point, at_value) = inl (z, β, ends)
gives_final inst s (infeasible y) (β, ends) = inr (inl (y, β, ends))
gives_final inst s (unbounded x r) (y, β, α, q, ends, at_point, at_ray) = inr (inr (y, β, α, q, ends))

pub one_outcome : (inst : Instance) → HasTable inst (start_of inst) → (log log' : List Entry) (o o' : Outcome) → HasOutcome inst log o
    → HasOutcome inst log' o' → o ≡ o'
one_outcome inst h log log' o o' (s, run, gives) (s', run', gives') =
    let same = one_whole inst (start_of inst) h log log' s s' run (gives_final inst s o gives) run' (gives_final inst s' o' gives') in
    one_given inst s (regular_from_table inst s same.2) o o' gives (subst (λ a. Yields inst a o') (sym same.1) gives')

-- When an outcome is that of a final state.
use Rattle.std.proofs.Common.{◌≡◌, ◌↔◌, IsTrue, Bool, true, false, ℕ, List, [], inr, inl, Some, Result, Ok, Err, IfOk, refl, sym, ◌∙◌, ap, ap₂, subst}
use Rattle.rational.specs.Rational.{ℚ}
use Rattle.deck_model.specs.Outcome.{outcome_of}
use Rattle.deck_model.specs.declared.outcome.Outcome.{Outcome as Held}
use Rattle.deck_model.specs.declared.outcome.Outcome.TheVariants as held
use Rattle.lp_model.specs.declared.Entry.{Entry}
use Rattle.lp_model.specs.declared.Phase.{Phase}
use Rattle.lp_model.specs.declared.Phase.TheVariants.{One, Two}
use Rattle.lp_model.specs.declared.Place.{Place}
use Rattle.lp_model.specs.Outcome.{Outcome, infeasible, optimal, unbounded}
use Rattle.lp_run.specs.Ends.{Yields, objective_at, point, prices_in, ray}
use Rattle.lp_run.specs.Instance.{Instance}
use Rattle.lp_run.specs.Listing.{AllFit, Listed, first_unfit, total_listing}
use Rattle.lp_run.specs.Solution.{Regular, reduced}
use Rattle.lp_run.specs.State.{State}
use Rattle.lp_run.specs.Step.{Eligible, EndsFree, EndsInfeasible, EndsOptimal, direction}
use Rattle.lp_run.proofs.Regularity.{one_prices, one_values}
use Rattle.lp_run.proofs.Runs.{reached_regular}
use Rattle.bland_laws.proofs.Single.{one_given}
use Rattle.plain_table.specs.Next.{column, prices}
use Rattle.plain_table.specs.Plain.{Plain, Stands}
use Rattle.run_audit.specs.declared.fault.AuditFault.TheVariants as fault
use Rattle.run_audit.specs.Inner.Parts.{TotalOverflows, ray_at}
use Rattle.run_audit.specs.Works.{HasOptimum, TotalLists}

-- ── two outcomes are one where their parts are ──

same_optimal : (x x' y y' : List ℚ) (v v' : ℚ) → optimal x y v ≡ optimal x' y' v' → (x ≡ x') × (y ≡ y') × (v ≡ v')
same_optimal x x' y y' v v' e = (cc, cc, cc)

same_infeasible : (y y' : List ℚ) → infeasible y ≡ infeasible y' → y ≡ y'
same_infeasible y y' e = cc

same_unbounded : (x x' r r' : List ℚ) → unbounded x r ≡ unbounded x' r' → (x ≡ x') × (r ≡ r')
same_unbounded x x' r r' e = (cc, cc)

module _ (inst : Instance) (s : State) (regular : Regular inst s) where
  -- ── at an optimum ──

  module _ (z β : List ℚ) (ends : EndsOptimal inst s z β) where
    own_optimum : Yields inst s (optimal (point inst s β) (prices_in inst.sense z) (objective_at inst (point inst s β)))
    own_optimum = (z, β, ends, refl, refl, refl)

    pub only_optimum : (o : Outcome) → Yields inst s o → (x y : List ℚ) × (v : ℚ) × (o ≡ optimal x y v)
    only_optimum o h = (_, _, _, one_given inst s regular o _ h own_optimum)

    pub optimum_parts : (x y : List ℚ) (v : ℚ) → Yields inst s (optimal x y v) → (x ≡ point inst s β) × (y ≡ prices_in inst.sense z) × (v ≡ objective_at inst x)
    optimum_parts x y v h =
        let same = same_optimal x (point inst s β) y (prices_in inst.sense z) v (objective_at inst (point inst s β)) (one_given inst s regular (optimal x y v) _ h own_optimum) in
        (same.0, same.1, same.2 ∙ ap (objective_at inst) (sym same.0))

    pub optimum_told : (x y : List ℚ) (v : ℚ) → x ≡ point inst s β → y ≡ prices_in inst.sense z → HasOptimum inst s (optimal x y v) x
    optimum_told x y v is_x is_y = (z, β, v, ends, is_x, ap (λ y. optimal x y v) is_y)

    pub told_parts : (x y : List ℚ) (v : ℚ) (x' : List ℚ) → HasOptimum inst s (optimal x y v) x' → (x ≡ point inst s β) × (y ≡ prices_in inst.sense z)
    told_parts x y v x' (z', β', v', ends', is_x, told) =
        let same = same_optimal x x' y (prices_in inst.sense z') v v' told in (
          same.0 ∙ is_x ∙ ap (point inst s) (one_values inst s regular β' β ends'.1.values ends.1.values),
          same.1 ∙ ap (prices_in inst.sense) (one_prices inst s regular z' z ends'.1.prices ends.1.prices),
        )

    pub optimum_is : (x y : List ℚ) (v : ℚ) → x ≡ point inst s β → y ≡ prices_in inst.sense z → v ≡ objective_at inst x → Yields inst s (optimal x y v)
    optimum_is x y v is_x is_y is_v = (z, β, ends, is_y, is_x, is_v)

  -- ── where there is no feasible point ──

  module _ (y β : List ℚ) (ends : EndsInfeasible inst s y β) where
    pub only_farkas : (o : Outcome) → Yields inst s o → (y : List ℚ) × (o ≡ infeasible y)
    only_farkas o h = (_, one_given inst s regular o (infeasible y) h (β, ends))

    pub farkas_exactly : (y' : List ℚ) → (y' ≡ y) ↔ Yields inst s (infeasible y')
    farkas_exactly y' = (
      λ is. subst (λ y. Yields inst s (infeasible y)) (sym is) (β, ends),
      λ h. same_infeasible y' y (one_given inst s regular (infeasible y') (infeasible y) h (β, ends)),
    )

  -- ── where a column moves without a limit ──

  module _ (y β α : List ℚ) (q : ℕ) (ends : EndsFree inst s y β α q) where
    own_ray : Yields inst s (unbounded (point inst s β) (ray inst s q (direction (reduced inst s y q)) α))
    own_ray = (y, β, α, q, ends, refl, refl)

    pub only_ray : (o : Outcome) → Yields inst s o → (x r : List ℚ) × (o ≡ unbounded x r)
    only_ray o h = (_, _, one_given inst s regular o _ h own_ray)

    pub ray_exactly : (x r : List ℚ) → ((x ≡ point inst s β) × (r ≡ ray inst s q (direction (reduced inst s y q)) α)) ↔ Yields inst s (unbounded x r)
    ray_exactly x r = (
      λ is. subst (Yields inst s) (sym (ap₂ unbounded is.0 is.1)) own_ray,
      λ h. same_unbounded x _ r _ (one_given inst s regular (unbounded x r) _ h own_ray),
    )

-- ── an outcome as the program holds it ──

pub not_optimal : (d : Held) → ((x y : List ℚ) (v : ℚ) → d ≡ held.Optimal x y v → ⊥) → (x y : List ℚ) (v : ℚ) → outcome_of d ≡ optimal x y v → ⊥
not_optimal (held.Optimal x' y' v') other x y v e = other x' y' v' refl
not_optimal (held.Infeasible y') other x y v e = cc
not_optimal (held.Unbounded x' r') other x y v e = cc

pub not_infeasible : (d : Held) → ((y : List ℚ) → d ≡ held.Infeasible y → ⊥) → (y : List ℚ) → outcome_of d ≡ infeasible y → ⊥
not_infeasible (held.Optimal x' y' v') other y e = cc
not_infeasible (held.Infeasible y') other y e = other y' refl
not_infeasible (held.Unbounded x' r') other y e = cc

pub not_unbounded : (d : Held) → ((x r : List ℚ) → d ≡ held.Unbounded x r → ⊥) → (x r : List ℚ) → outcome_of d ≡ unbounded x r → ⊥
not_unbounded (held.Optimal x' y' v') other x r e = cc
not_unbounded (held.Infeasible y') other x r e = cc
not_unbounded (held.Unbounded x' r') other x r e = other x' r' refl

-- an answer false, and one that is told of something else
pub refuted : {P : Type 0} → (P → ⊥) → IsTrue false ↔ P
refuted other = ((λ e. absurd (cc)), (λ p. absurd (other p)))

pub told : {A P : Type 0} (r : Bool) → IsTrue r ↔ A → (A → P) → (P → A) → IsTrue r ↔ P
told r h there back = ((λ e. there (h.0 e)), (λ p. h.1 (back p)))

-- what follows for each answer
pub mapped : {A E : Type 0} (r : Result A E) (P Q : A → Type 0) → IfOk r P → ((a : A) → P a → Q a) → IfOk r Q
mapped (Ok a) P Q h on = on a h
mapped (Err e) P Q h on = tt

-- ── at a table ──

module _ (inst : Instance) (log : List Entry) (t : Plain) (stands : Stands inst log t) where
  regular_there : Regular inst t.state
  regular_there = reached_regular inst log t.state stands.table.reached

  module _ (ends : EndsInfeasible inst t.state (prices inst t) t.values) where
    pub other_than_farkas : (d : Held) → ((y : List ℚ) → d ≡ held.Infeasible y → ⊥) → IsTrue false ↔ Yields inst t.state (outcome_of d)
    other_than_farkas d other =
        refuted (λ h. let (y, is) = only_farkas inst t.state regular_there (prices inst t) t.values ends (outcome_of d) h in not_infeasible d other y is)

    pub farkas_told : (d : Held) (y a b : List ℚ) (r : Bool) → d ≡ held.Infeasible y → a ≡ y → b ≡ prices inst t → IsTrue r ↔ (a ≡ b) → IsTrue r ↔ Yields inst t.state (outcome_of d)
    farkas_told d y a b r is left right h =
        let exactly = farkas_exactly inst t.state regular_there (prices inst t) t.values ends y in
        subst (λ d. IsTrue r ↔ Yields inst t.state (outcome_of d)) (sym is)
        (told r h (λ e. exactly.0 (sym left ∙ e ∙ right)) (λ p. left ∙ exactly.1 p ∙ sym right))

  module _ (q : ℕ) (ends : EndsFree inst t.state (prices inst t) t.values (column inst t q) q) where
    pub other_than_ray : (d : Held) → ((x r : List ℚ) → d ≡ held.Unbounded x r → ⊥) → IsTrue false ↔ Yields inst t.state (outcome_of d)
    other_than_ray d other =
        refuted (λ h. let (x, r, is) = only_ray inst t.state regular_there (prices inst t) t.values (column inst t q) q ends (outcome_of d) h in not_unbounded d other x r is)

    pub ray_told : (d : Held) (x r a : List ℚ) (s : Bool) → d ≡ held.Unbounded x r → a ≡ x → r ≡ ray_at inst t q → IsTrue s ↔ (a ≡ point inst t.state t.values)
        → IsTrue s ↔ Yields inst t.state (outcome_of d)
    ray_told d x r a s is left same h =
        let exactly = ray_exactly inst t.state regular_there (prices inst t) t.values (column inst t q) q ends x r in
        subst (λ d. IsTrue s ↔ Yields inst t.state (outcome_of d)) (sym is)
        (told s h (λ e. exactly.0 (sym left ∙ e, same)) (λ p. left ∙ (exactly.1 p).0))

    pub ray_refuted : (d : Held) (x r b : List ℚ) (s : Bool) → d ≡ held.Unbounded x r → b ≡ r → IsTrue s ↔ (b ≡ ray_at inst t q) → s ≡ false
        → IsTrue false ↔ Yields inst t.state (outcome_of d)
    ray_refuted d x r b s is right h fails =
        let exactly = ray_exactly inst t.state regular_there (prices inst t) t.values (column inst t q) q ends x r in
        subst (λ d. IsTrue false ↔ Yields inst t.state (outcome_of d)) (sym is)
        (refuted (λ p. clash s fails (h.1 (right ∙ (exactly.1 p).1))))
      where
        clash : (s : Bool) → s ≡ false → s ≡ true → ⊥
        clash s e h = cc

  -- an outcome of another kind has no sums
  module _ (y β : List ℚ) where
    pub no_totals : (k w : ℕ) (o : Outcome) → ((x z : List ℚ) → EndsOptimal inst t.state z x → ⊥) → (vs : List Listed) × TotalLists inst k t.state o vs × AllFit w vs
    no_totals k w o apart = ([], inr ((λ x (z, β, v, ends, is_x, is). apart β z ends), refl), refl)

    pub farkas_apart : EndsInfeasible inst t.state y β → (x z : List ℚ) → EndsOptimal inst t.state z x → ⊥
    farkas_apart ends x z ends' = phases_apart t.state.phase ends.0 ends'.0
      where
        phases_apart : (p : Phase) → p ≡ One → p ≡ Two → ⊥
        phases_apart p e e' = cc

    pub ray_apart : (α : List ℚ) (q : ℕ) → EndsFree inst t.state y β α q → (x z : List ℚ) → EndsOptimal inst t.state z x → ⊥
    ray_apart α q ends x z ends' =
        ends'.1.none_eligible q (subst (λ v. Eligible inst t.state v q) (one_prices inst t.state regular_there y z ends.0.prices ends'.1.prices) ends.0.enters.eligible)

  -- ── an optimum ──

  module _ (ends : EndsOptimal inst t.state (prices inst t) t.values) where
    pub other_than_optimum : (d : Held) → ((x y : List ℚ) (v : ℚ) → d ≡ held.Optimal x y v → ⊥) → IsTrue false ↔ Yields inst t.state (outcome_of d)
    other_than_optimum d other =
        refuted (λ h. let (x, y, v, is) = only_optimum inst t.state regular_there (prices inst t) t.values ends (outcome_of d) h in not_optimal d other x y v is)

    pub nothing_told : (k w : ℕ) (d : Held) → ((x y : List ℚ) (v : ℚ) → d ≡ held.Optimal x y v → ⊥) → (vs : List Listed) × TotalLists inst k t.state (outcome_of d) vs × AllFit w vs
    nothing_told k w d other = ([], inr ((λ x (z, β, v, ends', is_x, is). not_optimal d other x (prices_in inst.sense z) v is), refl), refl)

    module _ (d : Held) (x y a b : List ℚ) (v : ℚ) (is : d ≡ held.Optimal x y v) (left : a ≡ x) (right : b ≡ y) where
      -- with another point or other prices
      module _ (r : Bool) (told_same : IsTrue r ↔ ((a ≡ point inst t.state t.values) × (b ≡ prices_in inst.sense (prices inst t)))) where
        other_parts : r ≡ false → (x ≡ point inst t.state t.values) × (y ≡ prices_in inst.sense (prices inst t)) → ⊥
        other_parts fails (is_x, is_y) = clash r fails (told_same.1 (left ∙ is_x, right ∙ is_y))
          where
            clash : (r : Bool) → r ≡ false → r ≡ true → ⊥
            clash r e h = cc

        pub other_refuted : r ≡ false → IsTrue false ↔ Yields inst t.state (outcome_of d)
        other_refuted fails =
            subst (λ d. IsTrue false ↔ Yields inst t.state (outcome_of d)) (sym is)
            (refuted (λ h. let parts = optimum_parts inst t.state regular_there (prices inst t) t.values ends x y v h in other_parts fails (parts.0, parts.1)))

        pub other_totals : (k w : ℕ) → r ≡ false → (vs : List Listed) × TotalLists inst k t.state (outcome_of d) vs × AllFit w vs
        other_totals k w fails =
            subst (λ d. (vs : List Listed) × TotalLists inst k t.state (outcome_of d) vs × AllFit w vs) (sym is)
            ([], inr ((λ x' h. other_parts fails (told_parts inst t.state regular_there (prices inst t) t.values ends x y v x' h)), refl), refl)

        -- with these the sums of the objective are worked
        same_parts : r ≡ true → (x ≡ point inst t.state t.values) × (y ≡ prices_in inst.sense (prices inst t))
        same_parts holds = let parts = told_same.0 holds in (sym left ∙ parts.0, sym right ∙ parts.1)

        pub optimum_has : r ≡ true → HasOptimum inst t.state (outcome_of d) x
        optimum_has holds =
            let parts = same_parts holds in
            subst (λ d. HasOptimum inst t.state (outcome_of d) x) (sym is) (optimum_told inst t.state regular_there (prices inst t) t.values ends x y v parts.0 parts.1)

        pub optimum_totals : (k w : ℕ) (c : List ℚ) → c ≡ x → r ≡ true → AllFit w (total_listing inst k c) → (vs : List Listed) × TotalLists inst k t.state (outcome_of d) vs × AllFit w vs
        optimum_totals k w c is_c holds fits =
            (total_listing inst k x, inl (x, optimum_has holds, refl), subst (λ x. AllFit w (total_listing inst k x)) is_c fits)

        pub total_unfit : (k w : ℕ) (c : List ℚ) (here : Place) → c ≡ x → r ≡ true → first_unfit w (total_listing inst k c) ≡ Some here
            → TotalOverflows w inst k t.state (outcome_of d) (fault.Overflow here)
        total_unfit k w c here is_c holds first = (x, optimum_has holds, subst (λ x. first_unfit w (total_listing inst k x) ≡ Some here) is_c first)

        pub optimum_exactly : (c : List ℚ) (value : ℚ) → c ≡ x → r ≡ true → value ≡ objective_at inst c → (s : Bool) → IsTrue s ↔ (value ≡ v) → IsTrue s ↔ Yields inst t.state (outcome_of d)
        optimum_exactly c value is_c holds is_value s h =
            let parts = same_parts holds in
            let worked : value ≡ objective_at inst x = is_value ∙ ap (objective_at inst) is_c in
            subst (λ d. IsTrue s ↔ Yields inst t.state (outcome_of d)) (sym is)
            (told s h (λ e. optimum_is inst t.state regular_there (prices inst t) t.values ends x y v parts.0 parts.1 (sym e ∙ worked))
            (λ p. worked ∙ sym (optimum_parts inst t.state regular_there (prices inst t) t.values ends x y v p).2))

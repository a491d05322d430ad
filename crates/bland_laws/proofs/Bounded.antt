-- The bounds of a well-formed instance do not cross in either phase, and the start holds.
use Rattle.std.proofs.Common.{◌≡◌, ℕ, Some, Bool, true, false, refl, sym, ◌∙◌, ap, subst, cond, arith}
use Rattle.std.proofs.lemmas.Int.{ints}
use Rattle.lp_model.specs.declared.Phase.{Phase}
use Rattle.lp_model.specs.declared.Phase.TheVariants.{One, Two}
use Rattle.rational.specs.Rational.{ℚ, zero_ℚ, ◌≤ℚ◌}
use Rattle.rational.proofs.Linear.{linear, ◌≼◌}
use Rattle.rational.proofs.Ring.{𝟘}
use Rattle.lp_model.specs.Deck.{IsUncrossed, between, nonnegative}
use Rattle.lp_run.specs.declared.ColumnKind.TheVariants as column
use Rattle.lp_run.specs.Instance.{Instance, IsWellFormed, bounds, is_needed, kind_bounds, logical, structural}
use Rattle.lp_run.proofs.Start.{each_column, kind_of_artificial, kind_of_logical, kind_of_structural}
use Rattle.bland_laws.specs.Kept.{IsBounded}

nothing_between : IsUncrossed (between zero_ℚ zero_ℚ)
nothing_between l u at_l at_u = subst (λ x. x ≤ℚ u) (same at_l) (subst (λ x. zero_ℚ ≤ℚ x) (same at_u) (linear 0 (𝟘 ≼ 𝟘) (omega (arith, ints))))
  where
    same : {a b : ℚ} → Some a ≡ Some b → a ≡ b
    same e = cc

pub is_bounded : (inst : Instance) → IsWellFormed inst → IsBounded inst
is_bounded inst h phase j =
    each_column inst (λ j. IsUncrossed (bounds inst phase j))
    (λ j b. subst IsUncrossed (sym (ap (kind_bounds inst phase) (kind_of_structural inst j b) ∙ by_structural phase j)) (h.uncrossed j b))
    (λ i b. subst IsUncrossed (sym (ap (kind_bounds inst phase) (kind_of_logical inst i b) ∙ by_logical phase i)) (h.logicals_uncrossed i b))
    (λ i b. subst IsUncrossed (sym (ap (kind_bounds inst phase) (kind_of_artificial inst i))) (by_artificial phase i))
    j
  where
    by_structural : (phase : Phase) (j : ℕ) → kind_bounds inst phase (column.Structural j) ≡ (structural inst j).bounds
    by_structural One j = refl
    by_structural Two j = refl

    by_logical : (phase : Phase) (i : ℕ) → kind_bounds inst phase (column.Logical i) ≡ logical inst i
    by_logical One i = refl
    by_logical Two i = refl

    by_artificial : (phase : Phase) (i : ℕ) → IsUncrossed (kind_bounds inst phase (column.Artificial i))
    by_artificial Two i = nothing_between
    by_artificial One i = by_need (is_needed inst i)
      where
        by_need : (needed : Bool) → IsUncrossed (cond needed nonnegative (between zero_ℚ zero_ℚ))
        by_need true = λ l u at_l at_u. absurd (cc at_u)
        by_need false = nothing_between

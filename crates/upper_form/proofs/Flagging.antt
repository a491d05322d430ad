-- Columns and flagged rows.
use Rattle.std.proofs.Common.{◌≡◌, ◌≢◌, ℕ, ◌+◌, ◌<◌, ◌||◌, Bool, true, false, List, [], ◌∷◌, length, drop, slice_get, Some, ⊎_elim, refl, sym, ap, ◌∙◌}
use Rattle.std.proofs.lemmas.Bool.{cases_eq}
use Rattle.rational.specs.Rational.{ℚ, zero_ℚ}
use Rattle.sparse_steps.proofs.Steps.{next_pair}
use Rattle.factor_model.specs.Vectors.{entry}
use Rattle.factor_model.proofs.LineLaws.{entry-there}
use Rattle.upper_form.specs.Flags.{is_flagged, meets}

-- ---- the next pair of a column

module _ (flags : List Bool) (pairs : List (ℕ × ℚ)) (k : ℕ) (p : ℕ × ℚ) (lt : k < length pairs) (found : slice_get pairs k ≡ Some p) where
  pub meets_here : is_flagged flags p.0 ≡ true → meets flags (drop k pairs) ≡ true
  meets_here is = next_pair pairs k p lt found (meets flags) ∙ ap (λ b. b || meets flags (drop (k + 1) pairs)) is

  pub meets_later : is_flagged flags p.0 ≡ false → meets flags (drop k pairs) ≡ meets flags (drop (k + 1) pairs)
  meets_later is = next_pair pairs k p lt found (meets flags) ∙ ap (λ b. b || meets flags (drop (k + 1) pairs)) is

-- ---- a column that meets no flagged row

neither : (a b : Bool) → a || b ≡ false → (a ≡ false) × (b ≡ false)
neither true b e = absurd cc
neither false b e = (refl, e)

pub entry-unmet : (flags : List Bool) (pairs : List (ℕ × ℚ)) (i : ℕ) → meets flags pairs ≡ false → is_flagged flags i ≡ true → entry pairs i ≡ zero_ℚ
entry-unmet flags [] i none flagged = refl
entry-unmet flags ((j, x) ∷ pairs) i none flagged =
    let both = neither (is_flagged flags j) (meets flags pairs) none in
    ⊎_elim
    (λ (e : j ≡ i). let here : is_flagged flags j ≡ true = ap (is_flagged flags) e ∙ flagged in absurd cc)
    (λ (ne : j ≢ i). entry-there j i x pairs (λ e. ne (sym e)) ∙ entry-unmet flags pairs i both.1 flagged)
    (cases_eq j i)

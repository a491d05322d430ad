-- Lines worked by column: which value does not fit first, and what a line becomes.
use Rattle.std.proofs.Common.{◌≡◌, ℕ, ◌+◌, ◌<◌, List, [], ◌∷◌, map, length, get_or, set, Option, Some, None, sym, ◌∙◌, ap, ap₂, subst, arith}
use Rattle.std.proofs.lemmas.List.{get_or_default, get_or-set_other, get_or-set_same}
use borrow.Author.Count.{below_more}
use Rattle.lp_model.specs.declared.Place.{Place}
use Rattle.rational.specs.Rational.{ℚ, zero_ℚ, inverse, ◌-ℚ◌, ◌*ℚ◌, ◌/ℚ◌}
use Rattle.rational.specs.Width.{FitsWidth}
use Rattle.rational.specs.Sum.{at}
use Rattle.rational.specs.Sparse.{upto}
use Rattle.rational.specs.Worked.{less, placed, settle}
use Rattle.rational.proofs.RationalRing.{ring_ℚ}
use Rattle.rational.proofs.Ring.{◌≐◌, ◌⊗◌, 𝟘}
use Rattle.rational.proofs.Settling.{less_answer, settle-answer, settle-same}
use Rattle.rational.proofs.WidthLaws.{fits_width-decides, unfit_tested}
use Rattle.lp_run.specs.Listing.{AllFit, first_unfit}
use Rattle.lp_run.proofs.FirstUnfit.{all-flat_map, first-flat_map, fit-placed, one-fits, one-unfit, singles, unfit-placed}
use Rattle.plain_table.specs.Inner.Lines.{in_column, less_listing, quotients_listing}

-- an item that is read is the list's
pub item_read : {A : Type 0} (xs : List A) (i : ℕ) (x d : A) → i < length xs → x ≡ get_or xs i x → x ≡ get_or xs i d
item_read xs i x d lt e = e ∙ get_or_default xs i x d lt

-- ── single values in order ──

module _ (w : ℕ) (here : ℕ → Place) (v : ℕ → ℚ) (n : ℕ) where
  pub all-map : ((k : ℕ) → k < n → FitsWidth w (v k)) → AllFit w (map (λ j. (here j, v j)) (upto n))
  all-map each =
      ap (first_unfit w) (singles w (λ j. (here j, v j)) 0 n)
      ∙ all-flat_map w (λ k. (here k, v k) ∷ []) n (λ k b. one-fits w (here k) (v k) ((fits_width-decides w (v k)).1 (each k b)))

  pub first-map : (i : ℕ) → i < n → ((k : ℕ) → k < i → FitsWidth w (v k)) → ¬ FitsWidth w (v i) → first_unfit w (map (λ j. (here j, v j)) (upto n)) ≡ Some (here i)
  first-map i b before unfit =
      ap (first_unfit w) (singles w (λ j. (here j, v j)) 0 n)
      ∙ first-flat_map w (λ k. (here k, v k) ∷ []) n i (here i) b (λ k below. one-fits w (here k) (v k) ((fits_width-decides w (v k)).1 (before k below)))
      (one-unfit w (here i) (v i) (unfit_tested w (v i) unfit))

-- the same number at the same width
pub fit_at : (w u : ℕ) (a b : ℚ) → u ≡ w → a ≡ b → FitsWidth u a → FitsWidth w b
fit_at w u a b same is fits = subst (λ v. FitsWidth v b) same (subst (λ v. FitsWidth u v) is fits)

pub unfit_at : (w u : ℕ) (a b : ℚ) → u ≡ w → a ≡ b → ¬ FitsWidth u a → ¬ FitsWidth w b
unfit_at w u a b same is unfit fits = unfit (fit_at u w b a (sym same) (sym is) fits)

-- ── a quotient ──

pub zero_quotient : (x pivot : ℚ) → x ≡ zero_ℚ → x ≡ x /ℚ pivot
unfolding ◌/ℚ◌
zero_quotient x pivot none = none ∙ ring_ℚ 1 (λ i. 𝟘 ≐ 𝟘 ⊗ i) tt (inverse pivot) ∙ ap (λ x. x *ℚ inverse pivot) (sym none)

module _ (w u : ℕ) (same : u ≡ w) (here : Place) (line : List ℚ) (pivot x : ℚ) (j : ℕ) (b : j < length line) (read : x ≡ get_or line j x) where
  there : x ≡ at line j
  there = item_read line j x zero_ℚ b read

  pub quotient_fits : FitsWidth u (x /ℚ pivot) → FitsWidth w (at line j /ℚ pivot)
  quotient_fits fits = subst (λ v. FitsWidth v (at line j /ℚ pivot)) same (subst (λ v. FitsWidth u (v /ℚ pivot)) there fits)

  pub quotient_unfit : (place : Place) → place ≡ in_column here j → ((k : ℕ) → k < j → FitsWidth w (at line k /ℚ pivot)) → ¬ FitsWidth u (x /ℚ pivot)
      → first_unfit w (quotients_listing here line pivot) ≡ Some place
  quotient_unfit place is before unfit =
      first-map w (in_column here) (λ j. at line j /ℚ pivot) (length line) j b before
      (λ fits. unfit (subst (λ v. FitsWidth v (x /ℚ pivot)) (sym same) (subst (λ v. FitsWidth w (v /ℚ pivot)) (sym there) fits)))
      ∙ ap Some (sym is)

-- ── a difference ──

module _ (w u : ℕ) (same : u ≡ w) (here : Place) (line by : List ℚ) (factor x y : ℚ) (j : ℕ) (b : j < length line) (b' : j < length by) (left : x ≡ get_or line j x) (right : y ≡ get_or by j y) where
  same_work : less x factor y ≡ less (at line j) factor (at by j)
  same_work = ap₂ (λ x y. less x factor y) (item_read line j x zero_ℚ b left) (item_read by j y zero_ℚ b' right)

  settled : (o : Option ℚ) → settle u (less x factor y) ≡ o → settle w (less (at line j) factor (at by j)) ≡ o
  settled o e = settle-same u w (less (at line j) factor (at by j)) (less x factor y) o (sym same) (sym same_work) e

  pub less_fits : (rest : ℚ) → settle u (less x factor y) ≡ Some rest → AllFit w (placed (in_column here j) (less (at line j) factor (at by j)))
  less_fits rest e = fit-placed w (in_column here j) (less (at line j) factor (at by j)) rest (settled (Some rest) e)

  pub less_is : (rest : ℚ) → settle u (less x factor y) ≡ Some rest → rest ≡ at line j -ℚ factor *ℚ at by j
  less_is rest e = sym (settle-answer w (less (at line j) factor (at by j)) rest (settled (Some rest) e)) ∙ less_answer (at line j) factor (at by j)

  pub less_unfit : (place : Place) → place ≡ in_column here j → ((k : ℕ) → k < j → AllFit w (placed (in_column here k) (less (at line k) factor (at by k)))) → settle u (less x factor y) ≡ None
      → first_unfit w (less_listing here line factor by) ≡ Some place
  less_unfit place is before e =
      first-flat_map w (λ j. placed (in_column here j) (less (at line j) factor (at by j))) (length line) j (in_column here j) b before
      (unfit-placed w (in_column here j) (less (at line j) factor (at by j)) (settled None e))
      ∙ ap Some (sym is)

-- ── a list that is written item by item ──

-- one item more is as it is to be
pub set_next : (f : ℕ → ℚ) (out : List ℚ) (j : ℕ) (v : ℚ) → j < length out → ((k : ℕ) → k < j → at out k ≡ f k) → v ≡ f j → (k : ℕ) → k < j + 1 → at (set out j v) k ≡ f k
set_next f out j v b before is =
    below_more (λ k. at (set out j v) k ≡ f k) j (λ k below. get_or-set_other out j k v zero_ℚ (omega arith) ∙ before k below) (get_or-set_same out j v zero_ℚ b ∙ is)

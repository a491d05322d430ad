-- The sum of the objective, product by product.
use Rattle.std.proofs.Common.{drop, ◌≡◌, ◌≢◌, ◌↔◌, IsTrue, ℕ, zero, suc, ◌+◌, ◌-◌, ◌<◌, ◌≤◌, List, [], ◌∷◌, ◌++◌, length, get_or, Bool, true, false, ◌⊎◌, inl, inr, Option, Some, None, Result, refl, sym, ◌∙◌, ap, ap₂, subst, arith}
use Rattle.lp_model.specs.declared.Kind.TheVariants as kind
use Rattle.lp_model.specs.declared.Place.{Place}
use Rattle.rational.specs.Rational.{ℚ, one_unless_zero, zero_ℚ, ◌+ℚ◌, ◌*ℚ◌, eq_ℚ}
use Rattle.rational.specs.Sum.{at, sum_ℚ}
use Rattle.rational.specs.Width.{FitsWidth}
use Rattle.rational.specs.Worked.{bind, done, more, placed, settle, work}
use Rattle.rational.proofs.OrderLaws.{eq_ℚ-decides}
use Rattle.rational.proofs.RationalRing.{ring_ℚ}
use Rattle.rational.proofs.Ring.{◌≐◌, ◌⊕◌, ◌⊗◌, 𝟘}
use Rattle.rational.proofs.Settling.{more-none, more-some, more_answer, settle-answer, settle-same}
use Rattle.rational.proofs.SumLaws.{at_or_other, sum-none, sum-suc, sum-zero_terms}
use Rattle.rational.proofs.WidthLaws.{fits_width-decides, unfit_tested}
use Rattle.lp_run.specs.Ends.{objective_at}
use Rattle.lp_run.specs.Instance.{Instance, no_structural, structural, structural_count}
use Rattle.lp_run.specs.Listing.{AllFit, Listed, added, first_unfit, or_first, place, total_listing, Judges}
use Rattle.lp_run.proofs.FirstUnfit.{fit-append, fit-placed, one-fits, one-unfit, unfit-append, unfit-placed}
use Rattle.std.specs.List.{sum_by}
use Rattle.std.proofs.lemmas.List.{get_or_default}
use Rattle.std.proofs.lemmas.List.Sums.{sum_by-drop_more}
use Rattle.run_outcome.specs.Inner.Parts.{HasProduct, terms}

-- an item that is read is the list's
pub item_read : (xs : List ℚ) (i : ℕ) (x : ℚ) → i < length xs → x ≡ get_or xs i x → x ≡ at xs i
item_read xs i x lt e = e ∙ get_or_default xs i x zero_ℚ lt

-- a test that fails shows that nothing is as it asks
pub fails : {P : Type 0} (b : Bool) → IsTrue b ↔ P → b ≡ false → ¬ P
fails b tested none holds =
    let is_true : b ≡ true = tested.1 holds in
    cc

-- a product that is not worked has a zero factor
some_zero : (a b : ℚ) → ¬ ((a ≢ zero_ℚ) × (b ≢ zero_ℚ)) → (a ≡ zero_ℚ) ⊎ (b ≡ zero_ℚ)
some_zero a b none = by_tests (eq_ℚ a zero_ℚ) (eq_ℚ b zero_ℚ) refl refl
  where
    other : (v : ℚ) → eq_ℚ v zero_ℚ ≡ false → v ≢ zero_ℚ
    other v e h = let tested = (eq_ℚ-decides v zero_ℚ).1 h in absurd (cc)

    by_tests : (s t : Bool) → eq_ℚ a zero_ℚ ≡ s → eq_ℚ b zero_ℚ ≡ t → (a ≡ zero_ℚ) ⊎ (b ≡ zero_ℚ)
    by_tests true t e f = inl ((eq_ℚ-decides a zero_ℚ).0 e)
    by_tests false true e f = inr ((eq_ℚ-decides b zero_ℚ).0 f)
    by_tests false false e f = absurd (none (other a e, other b f))

zero_product : (a b : ℚ) → (a ≡ zero_ℚ) ⊎ (b ≡ zero_ℚ) → a *ℚ b ≡ zero_ℚ
zero_product a b (inl e) = ap (λ x. x *ℚ b) e ∙ ring_ℚ 1 (λ b. 𝟘 ⊗ b ≐ 𝟘) tt b
zero_product a b (inr e) = ap (λ x. a *ℚ x) e ∙ ring_ℚ 1 (λ a. a ⊗ 𝟘 ≐ 𝟘) tt a

-- ── listings that are not empty ──

some_left : (xs ys : List Listed) → xs ≢ [] → xs ++ ys ≢ []
some_left [] ys some = absurd (some refl)
some_left (x ∷ xs) ys some = λ e. absurd (cc e)

some_right : (xs ys : List Listed) → ys ≢ [] → xs ++ ys ≢ []
some_right [] ys some = some
some_right (x ∷ xs) ys some = λ e. absurd (cc e)

more_lists : (here : Place) (r a b : ℚ) → a ≢ zero_ℚ → b ≢ zero_ℚ → placed here (more r a b) ≢ []
unfolding bind work
more_lists here r a b left right e =
    let two : placed here (more r a b) ≡ (here, a *ℚ b) ∷ (here, r +ℚ a *ℚ b) ∷ [] = ap (placed here) (more-some r a b left right) in
    cc

or_first-some : (here : Place) (r : ℚ) (vs : List Listed) → vs ≢ [] → or_first here r vs ≡ vs
or_first-some here r [] some = absurd (some refl)
or_first-some here r (v ∷ vs) some = refl

module _ (inst : Instance) (k : ℕ) (x : List ℚ) where
  abbrev here : ℕ → Place
  here j = place k kind.Total None (Some j)

  abbrev cost : ℕ → ℚ
  cost j = (structural inst j).cost

  -- ── one product after another ──

  terms_step : (j n : ℕ) → j < n → terms inst k x j (n - j) ≡ (here j, (cost j, at x j)) ∷ terms inst k x (j + 1) (n - (j + 1))
  terms_step j n b =
      let e : n - j ≡ suc (n - (j + 1)) = omega arith in
      ap (terms inst k x j) e

  pub terms_start : (n : ℕ) (r : ℚ) → added r (terms inst k x 0 n) ≡ added r (terms inst k x 0 (n - 0))
  terms_start n r =
      let e : n ≡ n - 0 = omega arith in
      ap (λ c. added r (terms inst k x 0 c)) e

  added_step : (j n : ℕ) (r : ℚ) → j < n
      → added r (terms inst k x j (n - j)) ≡ placed (here j) (more r (cost j) (at x j)) ++ added (more r (cost j) (at x j)).answer (terms inst k x (j + 1) (n - (j + 1)))
  added_step j n r b = ap (added r) (terms_step j n b)

  module _ (w u : ℕ) (same : u ≡ w) (start : ℚ) (j n : ℕ) (below : j < n) (r a b : ℚ) (is_cost : a ≡ cost j) (is_value : b ≡ at x j) where
    settled : (o : Option ℚ) → settle u (more r a b) ≡ o → settle w (more r (cost j) (at x j)) ≡ o
    settled o e = settle-same u w (more r (cost j) (at x j)) (more r a b) o (sym same) (sym (ap₂ (more r) is_cost is_value)) e

    -- a product that fits leaves the rest to decide
    pub product_fits : (sum : ℚ) → settle u (more r a b) ≡ Some sum → first_unfit w (added start (terms inst k x 0 n)) ≡ first_unfit w (added r (terms inst k x j (n - j)))
        → first_unfit w (added start (terms inst k x 0 n)) ≡ first_unfit w (added sum (terms inst k x (j + 1) (n - (j + 1))))
    product_fits sum e left =
        left ∙ ap (first_unfit w) (added_step j n r below)
        ∙ fit-append w (placed (here j) (more r (cost j) (at x j))) _ (fit-placed w (here j) (more r (cost j) (at x j)) sum (settled (Some sum) e))
        ∙ ap (λ s. first_unfit w (added s (terms inst k x (j + 1) (n - (j + 1))))) (settle-answer w (more r (cost j) (at x j)) sum (settled (Some sum) e))

    -- another one decides
    pub product_unfit : (there : Place) → there ≡ here j → settle u (more r a b) ≡ None → first_unfit w (added start (terms inst k x 0 n)) ≡ first_unfit w (added r (terms inst k x j (n - j)))
        → first_unfit w (added start (terms inst k x 0 n)) ≡ Some there
    product_unfit there is e left =
        left ∙ ap (first_unfit w) (added_step j n r below)
        ∙ unfit-append w (placed (here j) (more r (cost j) (at x j))) _ (here j) (unfit-placed w (here j) (more r (cost j) (at x j)) (settled None e))
        ∙ ap Some (sym is)

    -- the sum up to the product, and with it
    pub product_adds : (sum : ℚ) → settle u (more r a b) ≡ Some sum → r ≡ start +ℚ sum_ℚ j (λ i. cost i *ℚ at x i) → sum ≡ start +ℚ sum_ℚ (j + 1) (λ i. cost i *ℚ at x i)
    product_adds sum e left =
        let next : suc j ≡ j + 1 = omega arith in
        sym (settle-answer w (more r (cost j) (at x j)) sum (settled (Some sum) e))
        ∙ more_answer r (cost j) (at x j)
        ∙ ap (λ s. s +ℚ cost j *ℚ at x j) left
        ∙ ring_ℚ 3 (λ a s p. a ⊕ s ⊕ p ≐ a ⊕ (s ⊕ p)) tt start (sum_ℚ j (λ i. cost i *ℚ at x i)) (cost j *ℚ at x j)
        ∙ ap (λ s. start +ℚ s) (sym (sum-suc j (λ i. cost i *ℚ at x i)) ∙ ap (λ m. sum_ℚ m (λ i. cost i *ℚ at x i)) next)

  pub sum_starts : (start : ℚ) → start ≡ start +ℚ sum_ℚ 0 (λ i. cost i *ℚ at x i)
  sum_starts start = ring_ℚ 1 (λ a. a ≐ a ⊕ 𝟘) tt start ∙ ap (λ s. start +ℚ s) (sym (sum-zero_terms (λ i. cost i *ℚ at x i)))

  -- ── where no product is worked ──

  no_product : ¬ HasProduct inst x → (j : ℕ) → j < structural_count inst → (cost j ≡ zero_ℚ) ⊎ (at x j ≡ zero_ℚ)
  no_product none j b = some_zero (cost j) (at x j) (λ both. none (j, b, both.0, both.1))

  none_from : (a n : ℕ) (r : ℚ) → ((j : ℕ) → a ≤ j → j < a + n → (cost j ≡ zero_ℚ) ⊎ (at x j ≡ zero_ℚ)) → added r (terms inst k x a n) ≡ []
  unfolding done
  none_from a zero r zeros = refl
  none_from a (suc n) r zeros =
      ap (λ c. placed (here a) c ++ added c.answer (terms inst k x (a + 1) n)) (more-none r (cost a) (at x a) (zeros a (omega arith) (omega arith)))
      ∙ none_from (a + 1) n r (λ j from below. zeros j (omega arith) (omega arith))

  alone : ¬ HasProduct inst x → total_listing inst k x ≡ (place k kind.Total None None, inst.constant) ∷ []
  alone none =
      ap (or_first (place k kind.Total None None) inst.constant)
      (none_from 0 (structural_count inst) inst.constant (λ j from below. no_product none j (omega arith)))

  pub alone_is : ¬ HasProduct inst x → inst.constant ≡ objective_at inst x
  alone_is none =
      ring_ℚ 1 (λ a. a ≐ a ⊕ 𝟘) tt inst.constant
      ∙ ap (λ s. inst.constant +ℚ s) (sym (sum-none (structural_count inst) (λ j. cost j *ℚ at x j) (λ j b. zero_product (cost j) (at x j) (no_product none j b))))

  pub alone_fits : (w : ℕ) (r : ℚ) → r ≡ inst.constant → ¬ HasProduct inst x → FitsWidth w r → AllFit w (total_listing inst k x)
  alone_fits w r is none fits =
      ap (first_unfit w) (alone none ∙ ap (λ r. (place k kind.Total None None, r) ∷ []) (sym is)) ∙ one-fits w (place k kind.Total None None) r ((fits_width-decides w r).1 fits)

  pub alone_unfit : (w : ℕ) (r : ℚ) → r ≡ inst.constant → ¬ HasProduct inst x → ¬ FitsWidth w r → first_unfit w (total_listing inst k x) ≡ Some (place k kind.Total None None)
  alone_unfit w r is none unfit =
      ap (first_unfit w) (alone none ∙ ap (λ r. (place k kind.Total None None, r) ∷ []) (sym is)) ∙ one-unfit w (place k kind.Total None None) r (unfit_tested w r unfit)

  -- ── where one is ──

  some_from : (i : ℕ) → cost i ≢ zero_ℚ → at x i ≢ zero_ℚ → (a n : ℕ) (r : ℚ) → a ≤ i → i < a + n → added r (terms inst k x a n) ≢ []
  some_from i left right a zero r from below = absurd (omega arith)
  some_from i left right a (suc n) r from below =
      at_or_other (λ a. a ≤ i → i < a + suc n → added r (terms inst k x a (suc n)) ≢ []) i a
      (λ from below. some_left (placed (here i) (more r (cost i) (at x i))) _ (more_lists (here i) r (cost i) (at x i) left right))
      (λ other from below. some_right (placed (here a) (more r (cost a) (at x a))) _ (some_from i left right (a + 1) n (more r (cost a) (at x a)).answer (omega arith) (omega arith)))
      from below

  pub listed_products : HasProduct inst x → added inst.constant (terms inst k x 0 (structural_count inst)) ≡ total_listing inst k x
  listed_products has =
      sym (or_first-some (place k kind.Total None None) inst.constant (added inst.constant (terms inst k x 0 (structural_count inst)))
      (some_from has.0 has.2 has.3 0 (structural_count inst) inst.constant (omega arith) (omega (arith, has.1))))

  -- what is judged of the products is judged of the listing
  pub products_judge : {A : Type 0} (w : ℕ) (result : Result A Place) → HasProduct inst x → Judges w (added inst.constant (terms inst k x 0 (structural_count inst))) result
      → Judges w (total_listing inst k x) result
  products_judge w result has judged = subst (λ vs. Judges w vs result) (listed_products has) judged

-- ── what it costs ──

-- the structurals with a cost, from one on
abbrev pub costs_from : Instance → ℕ → ℕ
costs_from inst j = sum_by (λ c. one_unless_zero c.cost) (drop j inst.structurals)

-- j itself, and those after it
costs_step : (inst : Instance) (j : ℕ) → j < structural_count inst → costs_from inst j ≡ one_unless_zero (structural inst j).cost + costs_from inst (j + 1)
costs_step inst j below = sum_by-drop_more (λ c. one_unless_zero c.cost) inst.structurals j no_structural below

-- a step that works no more than its cost asks leaves the rest
pub worked_more : (inst : Instance) (j : ℕ) → j < structural_count inst → (c : ℚ) → c ≡ (structural inst j).cost → (start all before now : ℕ) → now ≤ before + one_unless_zero c
    → before + costs_from inst j ≤ start + all → now + costs_from inst (j + 1) ≤ start + all
worked_more inst j below c is start all before now step left = omega (arith, costs_step inst j below, ap one_unless_zero is, step, left)

pub worked_once : (inst : Instance) (j : ℕ) → j < structural_count inst → (c : ℚ) → c ≡ (structural inst j).cost → (start all before now : ℕ) → now ≤ before + one_unless_zero c
    → before + costs_from inst j ≤ start + all → now ≤ start + all
worked_once inst j below c is start all before now step left = omega (arith, worked_more inst j below c is start all before now step left)

-- The reduced costs worked anew.
use Rattle.std.proofs.Common.{◌≡◌, ◌≢◌, ℕ, zero, suc, ◌+◌, ◌-◌, ◌<◌, ◌≤◌, List, [], ◌∷◌, ◌++◌, length, get_or, Bool, true, false, cond, ◌⊎◌, ◌||◌, inl, inr, IsTrue, Option, Some, None, refl, sym, ◌∙◌, ap, ap₂, arith}
use Rattle.lp_model.specs.declared.Kind.TheVariants as kind
use Rattle.lp_model.specs.declared.Phase.{Phase}
use Rattle.lp_model.specs.declared.Place.{Place}
use Rattle.rational.specs.Rational.{ℚ, zero_ℚ, ◌+ℚ◌, ◌-ℚ◌, ◌*ℚ◌, eq_ℚ}
use Rattle.rational.specs.Sum.{at, sum_ℚ}
use Rattle.rational.specs.Worked.{bind, done, is_skipped, less, placed, settle, work}
use Rattle.rational.proofs.OrderLaws.{eq_ℚ-decides}
use Rattle.rational.proofs.RationalRing.{ring_ℚ}
use Rattle.rational.proofs.Ring.{◌≐◌, ◌⊖◌, ◌⊕◌, 𝟘}
use Rattle.rational.proofs.Settling.{less-some, settle-answer, settle-same}
use Rattle.rational.proofs.SumLaws.{at_or_other, sum-cong, sum-shift, sum-zero_terms}
use Rattle.lp_run.specs.Instance.{Instance, column_count, cost}
use Rattle.lp_run.specs.Listing.{AllFit, first_unfit, place}
use Rattle.lp_run.proofs.FirstUnfit.{first-flat_map, fit-placed, unfit-placed}
use Rattle.plain_table.specs.Inner.Costs.{HasProduct, cost_work, costs_work_listing, factors_from, first_or, or_single, priced, terms_from}
use Rattle.rational.proofs.Settling.{less_answer}

-- a product of a zero factor is skipped
pub skipped : (a b : ℚ) → (a ≡ zero_ℚ) ⊎ (b ≡ zero_ℚ) → is_skipped a b ≡ true
unfolding is_skipped
skipped a b (inl e) = ap (λ t. t || eq_ℚ b zero_ℚ) ((eq_ℚ-decides a zero_ℚ).1 e)
skipped a b (inr e) = second (eq_ℚ a zero_ℚ) (eq_ℚ b zero_ℚ) ((eq_ℚ-decides b zero_ℚ).1 e)
  where
    second : (s t : Bool) → t ≡ true → (s || t) ≡ true
    second true t h = refl
    second false t h = h

some_left : (xs ys : List ℚ) → xs ≢ [] → xs ++ ys ≢ []
some_left [] ys some = absurd (some refl)
some_left (x ∷ xs) ys some = λ e. absurd (cc e)

some_right : (xs ys : List ℚ) → ys ≢ [] → xs ++ ys ≢ []
some_right [] ys some = some
some_right (x ∷ xs) ys some = λ e. absurd (cc e)

less_works : (r a b : ℚ) → a ≢ zero_ℚ → b ≢ zero_ℚ → (less r a b).values ≢ []
unfolding bind work
less_works r a b left right e =
    let two : (less r a b).values ≡ (a *ℚ b) ∷ (r -ℚ a *ℚ b) ∷ [] = ap (λ c. c.values) (less-some r a b left right) in
    cc

module _ (f g : ℕ → ℚ) where
  -- ── one product after another ──

  pub priced_step : (p n : ℕ) (rest x y : ℚ) → p < n → x ≡ f p → y ≡ g p
      → priced rest (factors_from f g p (n - p)) ≡ bind (less rest x y) (λ left. priced left (factors_from f g (p + 1) (n - (p + 1))))
  priced_step p n rest x y b left right =
      let e : n - p ≡ suc (n - (p + 1)) = omega arith in
      ap (λ c. priced rest (factors_from f g p c)) e
      ∙ ap₂ (λ x y. bind (less rest x y) (λ left. priced left (factors_from f g (p + 1) (n - (p + 1))))) (sym left) (sym right)

  pub priced_end : (p n : ℕ) (rest : ℚ) → n ≤ p → priced rest (factors_from f g p (n - p)) ≡ done rest
  priced_end p n rest b =
      let e : n - p ≡ 0 = omega arith in
      ap (λ c. priced rest (factors_from f g p c)) e

  pub priced_start : (n : ℕ) (own : ℚ) → priced own (factors_from f g 0 (n - 0)) ≡ priced own (factors_from f g 0 n)
  priced_start n own =
      let e : n - 0 ≡ n = omega arith in
      ap (λ c. priced own (factors_from f g 0 c)) e

  -- ── where no product is worked ──

  pub none_from : (a n : ℕ) (r : ℚ) → ((p : ℕ) → a ≤ p → p < a + n → is_skipped (f p) (g p) ≡ true) → priced r (factors_from f g a n) ≡ done r
  unfolding less bind done
  none_from a zero r skips = refl
  none_from a (suc n) r skips =
      ap (λ t. bind (cond t (done r) (bind (work (f a *ℚ g a)) (λ product. work (r -ℚ product)))) (λ left. priced left (factors_from f g (a + 1) n))) (skips a (omega arith) (omega arith))
      ∙ none_from (a + 1) n r (λ p from below. skips p (omega arith) (omega arith))

  -- ── where one is ──

  pub some_from : (i : ℕ) → f i ≢ zero_ℚ → g i ≢ zero_ℚ → (a n : ℕ) (r : ℚ) → a ≤ i → i < a + n → (priced r (factors_from f g a n)).values ≢ []
  unfolding bind
  some_from i left right a zero r from below = absurd (omega arith)
  some_from i left right a (suc n) r from below =
      at_or_other (λ a. a ≤ i → i < a + suc n → (priced r (factors_from f g a (suc n))).values ≢ []) i a
      (λ from below. some_left (less r (f i) (g i)).values _ (less_works r (f i) (g i) left right))
      (λ other from below. some_right (less r (f a) (g a)).values _ (some_from i left right (a + 1) n (less r (f a) (g a)).answer (omega arith) (omega arith)))
      from below

  -- ── what it comes to ──

  answer_from : (a n : ℕ) (r : ℚ) → (priced r (factors_from f g a n)).answer ≡ r -ℚ sum_ℚ n (λ p. f (a + p) *ℚ g (a + p))
  unfolding bind done
  answer_from a zero r = ring_ℚ 1 (λ r. r ≐ r ⊖ 𝟘) tt r ∙ ap (λ s. r -ℚ s) (sym (sum-zero_terms (λ p. f (a + p) *ℚ g (a + p))))
  answer_from a (suc n) r =
      answer_from (a + 1) n (less r (f a) (g a)).answer
      ∙ ap₂ (λ x s. x -ℚ s) (less_answer r (f a) (g a)) (sum-cong n _ _ (λ p b. ap (λ i. f i *ℚ g i) (omega arith)))
      ∙ ring_ℚ 3 (λ r t s. r ⊖ t ⊖ s ≐ r ⊖ (t ⊕ s)) tt r (f a *ℚ g a) (sum_ℚ n (λ p. f (a + suc p) *ℚ g (a + suc p)))
      ∙ ap (λ t. r -ℚ (t +ℚ sum_ℚ n (λ p. f (a + suc p) *ℚ g (a + suc p)))) (ap (λ i. f i *ℚ g i) (omega arith))
      ∙ ap (λ s. r -ℚ s) (sym (sum-shift n (λ p. f (a + p) *ℚ g (a + p))))

  pub priced_answer : (n : ℕ) (own : ℚ) → (priced own (factors_from f g 0 n)).answer ≡ own -ℚ sum_ℚ n (λ p. f p *ℚ g p)
  priced_answer n own = answer_from 0 n own ∙ ap (λ s. own -ℚ s) (sum-cong n _ _ (λ p b. ap (λ i. f i *ℚ g i) (omega arith)))

-- ── the reduced cost ──

single_some : (f : ℚ) (vs : List ℚ) → vs ≢ [] → or_single f vs ≡ vs
single_some f [] some = absurd (some refl)
single_some f (v ∷ vs) some = refl

module _ (costs : List ℚ) (rows : List (List ℚ)) (j : ℕ) where
  pub cost_priced : (own : ℚ) → HasProduct costs rows j → cost_work own costs rows j ≡ priced own (terms_from costs rows j 0 (length rows))
  cost_priced own has =
      ap (λ vs. record { values = vs; answer = (priced own (terms_from costs rows j 0 (length rows))).answer })
      (single_some own (priced own (terms_from costs rows j 0 (length rows))).values
      (some_from (at costs) (λ p. at (get_or rows p []) j) has.0 has.2 has.3 0 (length rows) own (omega arith) (omega (arith, has.1))))

  pub cost_alone : (own : ℚ) → ((p : ℕ) → p < length rows → IsTrue (is_skipped (at costs p) (at (get_or rows p []) j))) → cost_work own costs rows j ≡ work own
  unfolding done work
  cost_alone own skips = ap (first_or own) (none_from (at costs) (λ p. at (get_or rows p []) j) 0 (length rows) own (λ p from below. skips p (omega arith)))

  pub cost_answer : (own : ℚ) → (cost_work own costs rows j).answer ≡ own -ℚ sum_ℚ (length rows) (λ p. at costs p *ℚ at (get_or rows p []) j)
  cost_answer own = priced_answer (at costs) (λ p. at (get_or rows p []) j) (length rows) own

-- ── column by column ──

module _ (w u : ℕ) (same : u ≡ w) (inst : Instance) (phase : Phase) (k : ℕ) (costs : List ℚ) (rows : List (List ℚ)) (j : ℕ) (own : ℚ) (is_own : own ≡ cost inst phase j) where
  settled : (o : Option ℚ) → settle u (cost_work own costs rows j) ≡ o → settle w (cost_work (cost inst phase j) costs rows j) ≡ o
  settled o e = settle-same u w (cost_work (cost inst phase j) costs rows j) (cost_work own costs rows j) o (sym same) (sym (ap (λ c. cost_work c costs rows j) is_own)) e

  pub cost_fits : (v : ℚ) → settle u (cost_work own costs rows j) ≡ Some v → AllFit w (placed (place k kind.Cost None (Some j)) (cost_work (cost inst phase j) costs rows j))
  cost_fits v e = fit-placed w (place k kind.Cost None (Some j)) (cost_work (cost inst phase j) costs rows j) v (settled (Some v) e)

  pub cost_is : (v : ℚ) → settle u (cost_work own costs rows j) ≡ Some v → v ≡ (cost_work (cost inst phase j) costs rows j).answer
  cost_is v e = sym (settle-answer w (cost_work (cost inst phase j) costs rows j) v (settled (Some v) e))

  pub cost_unfit : (here : Place) → here ≡ place k kind.Cost None (Some j) → j < column_count inst
      → ((l : ℕ) → l < j → AllFit w (placed (place k kind.Cost None (Some l)) (cost_work (cost inst phase l) costs rows l)))
      → settle u (cost_work own costs rows j) ≡ None → first_unfit w (costs_work_listing inst phase k costs rows) ≡ Some here
  cost_unfit here is b before e =
      first-flat_map w (λ j. placed (place k kind.Cost None (Some j)) (cost_work (cost inst phase j) costs rows j)) (column_count inst) j (place k kind.Cost None (Some j)) b before
      (unfit-placed w (place k kind.Cost None (Some j)) (cost_work (cost inst phase j) costs rows j) (settled None e))
      ∙ ap Some (sym is)

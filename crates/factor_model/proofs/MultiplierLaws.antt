-- The multipliers of an update take the row to 0 in each column behind.
use Rattle.std.proofs.Common.{◌≡◌, ◌≢◌, ℕ, ◌<◌, List, [], ◌∷◌, ◌++◌, inl, inr, ⊎_elim, refl, sym, ◌∙◌, ap, ap₂, subst}
use Rattle.rational.specs.Rational.{ℚ, zero_ℚ, ◌+ℚ◌, ◌-ℚ◌, ◌*ℚ◌, ◌/ℚ◌}
use Rattle.rational.proofs.AnswerLaws.{answer-bind, answer-done}
use Rattle.rational.proofs.RationalRing.{ring_ℚ}
use Rattle.rational.proofs.Ring.{◌≐◌, ◌⊙◌≗◌⟹◌, ◌⊕◌, ◌⊖◌, ◌⊗◌, ⊝◌, 𝟘, 𝟙}
use Rattle.rational.specs.Sum.{sum_ℚ}
use Rattle.rational.specs.Worked.{less, quotient}
use Rattle.rational.proofs.Settling.{less_answer}
use Rattle.rational.proofs.FieldLaws.{/ℚ-*ℚ}
use Rattle.rational.proofs.SumLaws.{sum-none, sum-change}
use Rattle.factor_model.specs.Vectors.{entry, stored_pair}
use Rattle.factor_model.specs.Upper.{Triangle, IsUpper, ComesBefore, In, Pairwise, row_of, cell, diagonal}
use Rattle.factor_model.specs.Update.{less_multiples, multiplier, multipliers, Lacks, AreApart}
use Rattle.factor_model.proofs.LineLaws.{entry-here, entry-there}
use Rattle.factor_model.proofs.UpperLaws.{answer-quotient}
use Rattle.factor_model.proofs.SparseLaws.{stored_cases}

-- ---- the sum of multiples along a list

unfoldable pub sum_pairs : (ℕ → ℚ) → List (ℕ × ℚ) → ℚ
unfolding zero_ℚ ◌+ℚ◌ ◌*ℚ◌
sum_pairs f [] = zero_ℚ
sum_pairs f ((i, k) ∷ ks) = k *ℚ f i +ℚ sum_pairs f ks

sum_pairs-nil : (f : ℕ → ℚ) → sum_pairs f [] ≡ zero_ℚ
unfolding sum_pairs
sum_pairs-nil f = refl

sum_pairs-cons : (f : ℕ → ℚ) (p : ℕ × ℚ) (ks : List (ℕ × ℚ)) → sum_pairs f (p ∷ ks) ≡ p.1 *ℚ f p.0 +ℚ sum_pairs f ks
unfolding sum_pairs
sum_pairs-cons f p ks = refl

sum_pairs-append : (f : ℕ → ℚ) (xs ys : List (ℕ × ℚ)) → sum_pairs f (xs ++ ys) ≡ sum_pairs f xs +ℚ sum_pairs f ys
sum_pairs-append f [] ys = ring_ℚ 1 (λ s. s ≐ 𝟘 ⊕ s) tt (sum_pairs f ys) ∙ ap (λ z. z +ℚ sum_pairs f ys) (sym (sum_pairs-nil f))
sum_pairs-append f (p ∷ xs) ys =
    sum_pairs-cons f p (xs ++ ys) ∙ ap (λ s. p.1 *ℚ f p.0 +ℚ s) (sum_pairs-append f xs ys)
    ∙ ring_ℚ 3 (λ a b c. a ⊕ (b ⊕ c) ≐ a ⊕ b ⊕ c) tt (p.1 *ℚ f p.0) (sum_pairs f xs) (sum_pairs f ys)
    ∙ ap (λ s. s +ℚ sum_pairs f ys) (sym (sum_pairs-cons f p xs))

sum_pairs-stored : (f : ℕ → ℚ) (i : ℕ) (k : ℚ) → sum_pairs f (stored_pair i k) ≡ k *ℚ f i
sum_pairs-stored f i k =
    ⊎_elim
    (λ none. ap (sum_pairs f) none.1 ∙ sum_pairs-nil f ∙ ring_ℚ 2 (λ k a. ⊝ a ⊙ k ≗ 𝟘 ⟹ 𝟘 ≐ k ⊗ a) tt k (f i) none.0)
    (λ some. ap (sum_pairs f) some.1 ∙ sum_pairs-cons f (i, k) [] ∙ ap (λ s. k *ℚ f i +ℚ s) (sum_pairs-nil f) ∙ ring_ℚ 1 (λ a. a ⊕ 𝟘 ≐ a) tt (k *ℚ f i))
    (stored_cases i k)

pub answer-less_multiples : (item : ℕ → ℚ) (x : ℚ) (ks : List (ℕ × ℚ)) → (less_multiples item x ks).answer ≡ x -ℚ sum_pairs item ks
answer-less_multiples item x [] = answer-done x ∙ ring_ℚ 2 (λ x s. 𝟙 ⊙ s ≗ 𝟘 ⟹ x ≐ x ⊖ s) tt x (sum_pairs item []) (sum_pairs-nil item)
answer-less_multiples item x (p ∷ ks) =
    answer-bind (less x p.1 (item p.0)) (λ rest. less_multiples item rest ks)
    ∙ answer-less_multiples item (less x p.1 (item p.0)).answer ks
    ∙ ap (λ a. a -ℚ sum_pairs item ks) (less_answer x p.1 (item p.0))
    ∙ ring_ℚ 3 (λ x a s. x ⊖ a ⊖ s ≐ x ⊖ (a ⊕ s)) tt x (p.1 *ℚ item p.0) (sum_pairs item ks)
    ∙ ap (λ s. x -ℚ s) (sym (sum_pairs-cons item p ks))

-- ---- which rows stand in the list

pub lacks-entry : (i : ℕ) (ks : List (ℕ × ℚ)) → Lacks i ks → entry ks i ≡ zero_ℚ
lacks-entry i [] lacks = refl
lacks-entry i (p ∷ ks) lacks = entry-there p.0 i p.1 ks (λ e. lacks.0 (sym e)) ∙ lacks-entry i ks lacks.1

lacks-append : (i : ℕ) (xs ys : List (ℕ × ℚ)) → Lacks i xs → Lacks i ys → Lacks i (xs ++ ys)
lacks-append i [] ys a b = b
lacks-append i (p ∷ xs) ys a b = (a.0, lacks-append i xs ys a.1 b)

lacks-stored : (i j : ℕ) (k : ℚ) → j ≢ i → Lacks i (stored_pair j k)
lacks-stored i j k ne =
    ⊎_elim (λ none. subst (Lacks i) (sym none.1) tt) (λ some. subst (Lacks i) (sym some.1) (ne, tt)) (stored_cases j k)

apart-more : (n : ℕ) (ks : List (ℕ × ℚ)) (i : ℕ) (k : ℚ) → i < n → Lacks i ks → AreApart n ks → AreApart n (ks ++ stored_pair i k)
apart-more n [] i k lt lacks apart =
    ⊎_elim (λ none. subst (AreApart n) (sym none.1) tt) (λ some. subst (AreApart n) (sym some.1) (lt, tt, tt)) (stored_cases i k)
apart-more n (p ∷ ks) i k lt lacks apart =
    (apart.0, lacks-append p.0 ks (stored_pair i k) apart.1 (lacks-stored p.0 i k (λ e. lacks.0 (sym e))), apart-more n ks i k lt lacks.1 apart.2)

-- the sum over the rows is the sum along the list
pub sum_entries : (n : ℕ) (f : ℕ → ℚ) (ks : List (ℕ × ℚ)) → AreApart n ks → sum_ℚ n (λ i. entry ks i *ℚ f i) ≡ sum_pairs f ks
sum_entries n f [] apart = sum-none n (λ i. zero_ℚ *ℚ f i) (λ i lt. ring_ℚ 1 (λ a. 𝟘 ⊗ a ≐ 𝟘) tt (f i)) ∙ sym (sum_pairs-nil f)
sum_entries n f (p ∷ ks) apart =
    let g : ℕ → ℚ = λ i. entry (p ∷ ks) i *ℚ f i in
    let h : ℕ → ℚ = λ i. entry ks i *ℚ f i in
    sum-change n p.0 h g apart.0 (λ i lt other. ap (λ e. e *ℚ f i) (entry-there p.0 i p.1 ks other))
    ∙ ap₂ (λ s t. s +ℚ (t *ℚ f p.0 -ℚ h p.0)) (sum_entries n f ks apart.2) (entry-here p.0 p.1 ks)
    ∙ ap (λ e. sum_pairs f ks +ℚ (p.1 *ℚ f p.0 -ℚ e *ℚ f p.0)) (lacks-entry p.0 ks apart.1)
    ∙ ring_ℚ 3 (λ s k a. s ⊕ (k ⊗ a ⊖ 𝟘 ⊗ a) ≐ k ⊗ a ⊕ s) tt (sum_pairs f ks) p.1 (f p.0)
    ∙ sym (sum_pairs-cons f p ks)

-- ---- the multipliers

module _ (n : ℕ) (u : Triangle) (upper : IsUpper n u) (r : ℕ) where
  -- the multiplier that is worked next
  next : List (ℕ × ℚ) → ℕ → ℚ
  next ks s = (multiplier u r ks s).answer

  next-is : (ks : List (ℕ × ℚ)) (s : ℕ) → next ks s ≡ (cell u r s -ℚ sum_pairs (λ i. cell u i s) ks) /ℚ diagonal u s
  unfolding next multiplier
  next-is ks s =
      answer-bind (less_multiples (λ i. cell u i s) (cell u r s) ks) (λ rest. quotient rest (diagonal u s))
      ∙ answer-quotient (less_multiples (λ i. cell u i s) (cell u r s) ks).answer (diagonal u s)
      ∙ ap (λ a. a /ℚ diagonal u s) (answer-less_multiples (λ i. cell u i s) (cell u r s) ks)

  step : (ks : List (ℕ × ℚ)) (s : ℕ) (ss : List ℕ) → (multipliers u r ks (s ∷ ss)).answer ≡ (multipliers u r (ks ++ stored_pair (row_of u s) (next ks s)) ss).answer
  unfolding next
  step ks s ss = answer-bind (multiplier u r ks s) (λ k. multipliers u r (ks ++ stored_pair (row_of u s) k) ss)

  none : (ks : List (ℕ × ℚ)) → (multipliers u r ks []).answer ≡ ks
  none ks = answer-done ks

  -- a sum that is 0 at the rows of the positions left stays
  pub multipliers-stay : (f : ℕ → ℚ) (ks : List (ℕ × ℚ)) (ss : List ℕ) → ((t : ℕ) → In t ss → f (row_of u t) ≡ zero_ℚ)
      → sum_pairs f (multipliers u r ks ss).answer ≡ sum_pairs f ks
  multipliers-stay f ks [] zeros = ap (sum_pairs f) (none ks)
  multipliers-stay f ks (s ∷ ss) zeros =
      let k = next ks s in
      ap (sum_pairs f) (step ks s ss)
      ∙ multipliers-stay f (ks ++ stored_pair (row_of u s) k) ss (λ t held. zeros t (inr held))
      ∙ sum_pairs-append f ks (stored_pair (row_of u s) k)
      ∙ ap (λ a. sum_pairs f ks +ℚ a) (sum_pairs-stored f (row_of u s) k)
      ∙ ring_ℚ 3 (λ a s k. k ⊙ a ≗ 𝟘 ⟹ s ⊕ k ⊗ a ≐ s) tt (f (row_of u s)) (sum_pairs f ks) k (zeros s (inl refl))

  -- what the multipliers take from row r in a column behind is all that is there
  pub multipliers-clear : (ks : List (ℕ × ℚ)) (ss : List ℕ) → Pairwise (ComesBefore u) ss → ((t : ℕ) → In t ss → t < n) → (s : ℕ) → In s ss
      → sum_pairs (λ i. cell u i s) (multipliers u r ks ss).answer ≡ cell u r s
  multipliers-clear ks [] before below s held = absurd held
  multipliers-clear ks (t ∷ ss) before below s held =
      let k = next ks t in
      let more = ks ++ stored_pair (row_of u t) k in
      ap (sum_pairs (λ i. cell u i s)) (step ks t ss)
      ∙ ⊎_elim
      (λ (same : s ≡ t).
      subst (λ j. sum_pairs (λ i. cell u i j) (multipliers u r more ss).answer ≡ cell u r j) (sym same)
      (multipliers-stay (λ i. cell u i t) more ss (λ q later. (before.0 q later).no_entry)
      ∙ sum_pairs-append (λ i. cell u i t) ks (stored_pair (row_of u t) k)
      ∙ ap (λ a. sum_pairs (λ i. cell u i t) ks +ℚ a) (sum_pairs-stored (λ i. cell u i t) (row_of u t) k ∙ ap (λ a. a *ℚ diagonal u t) (next-is ks t)
      ∙ /ℚ-*ℚ (cell u r t -ℚ sum_pairs (λ i. cell u i t) ks) (diagonal u t) (upper.nonzero t (below t (inl refl))))
      ∙ ring_ℚ 2 (λ s a. s ⊕ (a ⊖ s) ≐ a) tt (sum_pairs (λ i. cell u i t) ks) (cell u r t)))
      (λ (later : In s ss). multipliers-clear more ss before.1 (λ q h. below q (inr h)) s later)
      held

  pub multipliers-lack : (i : ℕ) (ks : List (ℕ × ℚ)) (ss : List ℕ) → Lacks i ks → ((t : ℕ) → In t ss → row_of u t ≢ i) → Lacks i (multipliers u r ks ss).answer
  multipliers-lack i ks [] lacks other = subst (Lacks i) (sym (none ks)) lacks
  multipliers-lack i ks (s ∷ ss) lacks other =
      let k = next ks s in
      subst (Lacks i) (sym (step ks s ss))
      (multipliers-lack i (ks ++ stored_pair (row_of u s) k) ss
      (lacks-append i ks (stored_pair (row_of u s) k) lacks (lacks-stored i (row_of u s) k (other s (inl refl)))) (λ t held. other t (inr held)))

  pub multipliers-apart : (ks : List (ℕ × ℚ)) (ss : List ℕ) → Pairwise (ComesBefore u) ss → ((t : ℕ) → In t ss → row_of u t < n)
      → ((t : ℕ) → In t ss → Lacks (row_of u t) ks) → AreApart n ks → AreApart n (multipliers u r ks ss).answer
  multipliers-apart ks [] before below lacks apart = subst (AreApart n) (sym (none ks)) apart
  multipliers-apart ks (s ∷ ss) before below lacks apart =
      let k = next ks s in
      subst (AreApart n) (sym (step ks s ss))
      (multipliers-apart (ks ++ stored_pair (row_of u s) k) ss before.1 (λ t held. below t (inr held))
      (λ t held. lacks-append (row_of u t) ks (stored_pair (row_of u s) k) (lacks t (inr held)) (lacks-stored (row_of u t) (row_of u s) k (before.0 t held).other_rows))
      (apart-more n ks (row_of u s) k (below s (inl refl)) (lacks s (inl refl)) apart))

-- What the elimination of one pivot leaves of a matrix, and the multipliers that it works.
use Rattle.std.proofs.Common.{◌≡◌, ◌≢◌, ℕ, ◌+◌, ◌<◌, ◌≤◌, Bool, true, false, ◌&&◌, cond, eqb, List, [], ◌∷◌, ◌++◌, length, ◌⊎◌, inl, inr, ⊎_elim, refl, sym, ◌∙◌, ap, ap₂, subst, arith, append_assoc, append-nil}
use Rattle.std.proofs.lemmas.Bool.{eq-eqb, ne_eqb, cond-true, cond-false}
use Rattle.rational.specs.Rational.{ℚ, zero_ℚ, ◌-ℚ◌, ◌*ℚ◌, ◌/ℚ◌, inverse, eq_ℚ}
use Rattle.rational.specs.Worked.{Worked, done, bind, less, quotient}
use Rattle.rational.proofs.AnswerLaws.{answer-bind, answer-done}
use Rattle.rational.proofs.Settling.{less_answer}
use Rattle.rational.proofs.FieldLaws.{/ℚ_is}
use Rattle.rational.proofs.OrderLaws.{eq_ℚ-decides, eq_ℚ-other}
use Rattle.rational.proofs.RationalRing.{ring_ℚ}
use Rattle.rational.proofs.Ring.{◌≐◌, ◌⊙◌≗◌⟹◌, ◌⊖◌, ◌⊗◌, 𝟘}
use Rattle.sparse_cols.specs.Sparse.{IsRising}
use Rattle.factor_model.specs.Vectors.{entry}
use Rattle.factor_model.specs.Upper.{In, Pairwise}
use Rattle.factor_model.specs.Factoring.{with_entry, less_row, eliminated_by, Eliminated, eliminate}
use Rattle.factor_model.proofs.LineLaws.{entry-here, entry-there}
use Rattle.factor_model.proofs.UpperLaws.{answer-quotient}

-- ---- the matrix with another entry

neither : (s : Bool) (x y : ℚ) → cond (s && false) x y ≡ y
neither true x y = refl
neither false x y = refl

module _ (a : ℕ → ℕ → ℚ) (i p : ℕ) (x : ℚ) where
  pub with_entry-here : with_entry a i p x i p ≡ x
  with_entry-here = ap₂ (λ s t. cond (s && t) x (a i p)) (eq-eqb i i refl) (eq-eqb p p refl)

  pub with_entry-row : (j q : ℕ) → j ≢ i → with_entry a i p x j q ≡ a j q
  with_entry-row j q ne = ap (λ s. cond (s && eqb q p) x (a j q)) (ne_eqb j i ne)

  pub with_entry-position : (j q : ℕ) → q ≢ p → with_entry a i p x j q ≡ a j q
  with_entry-position j q ne = ap (λ t. cond (eqb j i && t) x (a j q)) (ne_eqb q p ne) ∙ neither (eqb j i) x (a j q)

-- ---- a row less a multiple of another

module _ (r i : ℕ) (k : ℚ) where
  pub row-step : (a : ℕ → ℕ → ℚ) (p : ℕ) (ps : List ℕ) → (less_row a r i k (p ∷ ps)).answer ≡ (less_row (with_entry a i p (less (a i p) k (a r p)).answer) r i k ps).answer
  row-step a p ps = answer-bind (less (a i p) k (a r p)) (λ x. less_row (with_entry a i p x) r i k ps)

  row-others : (ps : List ℕ) (a : ℕ → ℕ → ℚ) (j q : ℕ) → j ≢ i → (less_row a r i k ps).answer j q ≡ a j q
  row-others [] a j q ne = ap (λ (m : ℕ → ℕ → ℚ). m j q) (answer-done a)
  row-others (p ∷ ps) a j q ne =
      let x = (less (a i p) k (a r p)).answer in
      ap (λ (m : ℕ → ℕ → ℚ). m j q) (row-step a p ps) ∙ row-others ps (with_entry a i p x) j q ne ∙ with_entry-row a i p x j q ne

  row-without : (ps : List ℕ) (a : ℕ → ℕ → ℚ) (q : ℕ) → ¬ In q ps → (less_row a r i k ps).answer i q ≡ a i q
  row-without [] a q out = ap (λ (m : ℕ → ℕ → ℚ). m i q) (answer-done a)
  row-without (p ∷ ps) a q out =
      let x = (less (a i p) k (a r p)).answer in
      ap (λ (m : ℕ → ℕ → ℚ). m i q) (row-step a p ps) ∙ row-without ps (with_entry a i p x) q (λ held. out (inr held))
      ∙ with_entry-position a i p x i q (λ e. out (inl e))

  row-within : i ≢ r → (ps : List ℕ) (a : ℕ → ℕ → ℚ) (q : ℕ) → Pairwise ◌≢◌ ps → In q ps → (less_row a r i k ps).answer i q ≡ a i q -ℚ k *ℚ a r q
  row-within apart [] a q distinct held = absurd held
  row-within apart (p ∷ ps) a q distinct held =
      let x = (less (a i p) k (a r p)).answer in
      ap (λ (m : ℕ → ℕ → ℚ). m i q) (row-step a p ps)
      ∙ ⊎_elim
      (λ (e : q ≡ p).
      subst (λ s. (less_row (with_entry a i p x) r i k ps).answer i s ≡ a i s -ℚ k *ℚ a r s) (sym e)
      (row-without ps (with_entry a i p x) p (λ later. distinct.0 p later refl) ∙ with_entry-here a i p x ∙ less_answer (a i p) k (a r p)))
      (λ (later : In q ps).
      row-within apart ps (with_entry a i p x) q distinct.1 later
      ∙ ap₂ (λ s t. s -ℚ k *ℚ t) (with_entry-position a i p x i q (λ e. distinct.0 q later (sym e))) (with_entry-row a i p x r q (λ e. apart (sym e))))
      held

-- ---- one row of the elimination

module _ (a : ℕ → ℕ → ℚ) (r c : ℕ) (ps : List ℕ) (i : ℕ) (k : ℚ) where
  by-is : (eliminated_by a r c ps i k).answer ≡ with_entry (less_row a r i k ps).answer i c zero_ℚ
  unfolding eliminated_by
  by-is = answer-bind (less_row a r i k ps) (λ b. done (with_entry b i c zero_ℚ)) ∙ answer-done (with_entry (less_row a r i k ps).answer i c zero_ℚ)

  pub by-others : (j q : ℕ) → j ≢ i → (eliminated_by a r c ps i k).answer j q ≡ a j q
  by-others j q ne =
      ap (λ (m : ℕ → ℕ → ℚ). m j q) by-is ∙ with_entry-row (less_row a r i k ps).answer i c zero_ℚ j q ne ∙ row-others r i k ps a j q ne

  by-pivot : (eliminated_by a r c ps i k).answer i c ≡ zero_ℚ
  by-pivot = ap (λ (m : ℕ → ℕ → ℚ). m i c) by-is ∙ with_entry-here (less_row a r i k ps).answer i c zero_ℚ

  by-position : (q : ℕ) → q ≢ c → (eliminated_by a r c ps i k).answer i q ≡ (less_row a r i k ps).answer i q
  by-position q ne = ap (λ (m : ℕ → ℕ → ℚ). m i q) by-is ∙ with_entry-position (less_row a r i k ps).answer i c zero_ℚ i q ne

-- ---- all rows of the elimination

-- the multipliers of the rows that have an entry in the pivot's position
abbrev pub taken : ℕ → ℕ → (ℕ → ℕ → ℚ) → List ℕ → List (ℕ × ℚ)
taken r c a [] = []
taken r c a (i ∷ rows) = cond (eq_ℚ (a i c) zero_ℚ) (taken r c a rows) ((i, a i c /ℚ a r c) ∷ taken r c a rows)

pub cases_ℚ : (x : ℚ) → (x ≡ zero_ℚ) ⊎ (x ≢ zero_ℚ)
cases_ℚ x = by_test (eq_ℚ x zero_ℚ) refl
  where
    by_test : (t : Bool) → eq_ℚ x zero_ℚ ≡ t → (x ≡ zero_ℚ) ⊎ (x ≢ zero_ℚ)
    by_test true e = inl ((eq_ℚ-decides x zero_ℚ).0 e)
    by_test false e = inr (λ none. let yes : eq_ℚ x zero_ℚ ≡ true = (eq_ℚ-decides x zero_ℚ).1 none in cc)

-- what is left of row i by the elimination: its multiple of row r is taken off in these positions, and it has no entry in position c
pub record IsSwept (r c : ℕ) (ps : List ℕ) (a b : ℕ → ℕ → ℚ) (i : ℕ) : Type 0 where
  pub within : (q : ℕ) → q ≢ c → In q ps → b i q ≡ a i q -ℚ (a i c /ℚ a r c) *ℚ a r q
  pub pivot : b i c ≡ zero_ℚ
  pub without : (q : ℕ) → q ≢ c → ¬ In q ps → b i q ≡ a i q

pub quotient_of_none : (x z : ℚ) → x ≡ zero_ℚ → x /ℚ z ≡ zero_ℚ
quotient_of_none x z none = /ℚ_is x z ∙ ap (λ y. y *ℚ inverse z) none ∙ ring_ℚ 1 (λ y. 𝟘 ⊗ y ≐ 𝟘) tt (inverse z)

module _ (r c : ℕ) where
  pub taken-none : (a : ℕ → ℕ → ℚ) (i : ℕ) (rows : List ℕ) → a i c ≡ zero_ℚ → taken r c a (i ∷ rows) ≡ taken r c a rows
  taken-none a i rows none = cond-true (eq_ℚ (a i c) zero_ℚ) _ _ ((eq_ℚ-decides (a i c) zero_ℚ).1 none)

  pub taken-some : (a : ℕ → ℕ → ℚ) (i : ℕ) (rows : List ℕ) → a i c ≢ zero_ℚ → taken r c a (i ∷ rows) ≡ (i, a i c /ℚ a r c) ∷ taken r c a rows
  taken-some a i rows some = cond-false (eq_ℚ (a i c) zero_ℚ) _ _ (eq_ℚ-other (a i c) some)

  taken-cong : (a b : ℕ → ℕ → ℚ) (rows : List ℕ) → b r c ≡ a r c → ((j : ℕ) → In j rows → b j c ≡ a j c) → taken r c b rows ≡ taken r c a rows
  taken-cong a b [] e same = refl
  taken-cong a b (i ∷ rows) e same =
      let rest = taken-cong a b rows e (λ j held. same j (inr held)) in
      ⊎_elim
      (λ (none : a i c ≡ zero_ℚ). taken-none b i rows (same i (inl refl) ∙ none) ∙ rest ∙ sym (taken-none a i rows none))
      (λ (some : a i c ≢ zero_ℚ).
      taken-some b i rows (λ none. some (sym (same i (inl refl)) ∙ none))
      ∙ ap₂ (λ k ks. (i, k) ∷ ks) (ap₂ (λ x y. x /ℚ y) (same i (inl refl)) e) rest
      ∙ sym (taken-some a i rows some))
      (cases_ℚ (a i c))

  pub taken-length : (a : ℕ → ℕ → ℚ) (rows : List ℕ) → length (taken r c a rows) ≤ length rows
  taken-length a [] = omega arith
  taken-length a (i ∷ rows) =
      let rest = taken-length a rows in
      ⊎_elim
      (λ (none : a i c ≡ zero_ℚ). subst (λ ks. length ks ≤ length (i ∷ rows)) (sym (taken-none a i rows none)) (omega (arith, rest)))
      (λ (some : a i c ≢ zero_ℚ). subst (λ ks. length ks ≤ length (i ∷ rows)) (sym (taken-some a i rows some)) (omega (arith, rest)))
      (cases_ℚ (a i c))

  pub taken-rising : (n from : ℕ) (a : ℕ → ℕ → ℚ) (rows : List ℕ) → Pairwise ◌<◌ rows → ((j : ℕ) → In j rows → (from ≤ j) × (j < n)) → IsRising n from (taken r c a rows)
  taken-rising n from a [] rise within = tt
  taken-rising n from a (i ∷ rows) rise within =
      ⊎_elim
      (λ (none : a i c ≡ zero_ℚ). subst (IsRising n from) (sym (taken-none a i rows none)) (taken-rising n from a rows rise.1 (λ j held. within j (inr held))))
      (λ (some : a i c ≢ zero_ℚ).
      subst (IsRising n from) (sym (taken-some a i rows some)) (
        (within i (inl refl)).0,
        (within i (inl refl)).1,
        taken-rising n (i + 1) a rows rise.1 (λ j held. (omega (arith, rise.0 j held), (within j (inr held)).1)),
      ))
      (cases_ℚ (a i c))

  pub taken-without : (a : ℕ → ℕ → ℚ) (rows : List ℕ) (j : ℕ) → ¬ In j rows → entry (taken r c a rows) j ≡ zero_ℚ
  taken-without a [] j out = refl
  taken-without a (i ∷ rows) j out =
      let rest = taken-without a rows j (λ held. out (inr held)) in
      ⊎_elim
      (λ (none : a i c ≡ zero_ℚ). ap (λ ks. entry ks j) (taken-none a i rows none) ∙ rest)
      (λ (some : a i c ≢ zero_ℚ).
      ap (λ ks. entry ks j) (taken-some a i rows some) ∙ entry-there i j (a i c /ℚ a r c) (taken r c a rows) (λ e. out (inl e)) ∙ rest)
      (cases_ℚ (a i c))

  pub taken-within : (a : ℕ → ℕ → ℚ) (rows : List ℕ) (j : ℕ) → Pairwise ◌<◌ rows → In j rows → entry (taken r c a rows) j ≡ a j c /ℚ a r c
  taken-within a [] j rise held = absurd held
  taken-within a (i ∷ rows) j rise (inl here) =
      subst (λ s. entry (taken r c a (i ∷ rows)) s ≡ a s c /ℚ a r c) (sym here)
      (⊎_elim
      (λ (none : a i c ≡ zero_ℚ).
      ap (λ ks. entry ks i) (taken-none a i rows none) ∙ taken-without a rows i (λ held. omega (arith, rise.0 i held))
      ∙ sym (quotient_of_none (a i c) (a r c) none))
      (λ (some : a i c ≢ zero_ℚ). ap (λ ks. entry ks i) (taken-some a i rows some) ∙ entry-here i (a i c /ℚ a r c) (taken r c a rows))
      (cases_ℚ (a i c)))
  taken-within a (i ∷ rows) j rise (inr later) =
      let rest = taken-within a rows j rise.1 later in
      ⊎_elim
      (λ (none : a i c ≡ zero_ℚ). ap (λ ks. entry ks j) (taken-none a i rows none) ∙ rest)
      (λ (some : a i c ≢ zero_ℚ).
      ap (λ ks. entry ks j) (taken-some a i rows some) ∙ entry-there i j (a i c /ℚ a r c) (taken r c a rows) (λ e. omega (arith, rise.0 j later)) ∙ rest)
      (cases_ℚ (a i c))

module _ (r c : ℕ) (ps : List ℕ) where
  -- a row without an entry in the pivot's position is passed over, and each other one is worked
  pub sweep-none : (a : ℕ → ℕ → ℚ) (ks : List (ℕ × ℚ)) (i : ℕ) (rows : List ℕ) → a i c ≡ zero_ℚ → eliminate r c ps a ks (i ∷ rows) ≡ eliminate r c ps a ks rows
  sweep-none a ks i rows none = cond-true (eq_ℚ (a i c) zero_ℚ) _ _ ((eq_ℚ-decides (a i c) zero_ℚ).1 none)

  sweep-some : (a : ℕ → ℕ → ℚ) (ks : List (ℕ × ℚ)) (i : ℕ) (rows : List ℕ) → a i c ≢ zero_ℚ
      → (eliminate r c ps a ks (i ∷ rows)).answer ≡ (eliminate r c ps (eliminated_by a r c ps i (a i c /ℚ a r c)).answer (ks ++ (i, a i c /ℚ a r c) ∷ []) rows).answer
  sweep-some a ks i rows some =
      let one = λ (k : ℚ). bind (eliminated_by a r c ps i k) (λ b. eliminate r c ps b (ks ++ (i, k) ∷ []) rows) in
      ap (λ (w : Worked Eliminated). w.answer) (cond-false (eq_ℚ (a i c) zero_ℚ) (eliminate r c ps a ks rows) (bind (quotient (a i c) (a r c)) one) (eq_ℚ-other (a i c) some))
      ∙ answer-bind (quotient (a i c) (a r c)) one
      ∙ ap (λ k. (one k).answer) (answer-quotient (a i c) (a r c))
      ∙ answer-bind (eliminated_by a r c ps i (a i c /ℚ a r c)) (λ b. eliminate r c ps b (ks ++ (i, a i c /ℚ a r c) ∷ []) rows)

  -- another row stays as it is
  pub sweep-others : (rows : List ℕ) (a : ℕ → ℕ → ℚ) (ks : List (ℕ × ℚ)) (j q : ℕ) → ¬ In j rows → (eliminate r c ps a ks rows).answer.0 j q ≡ a j q
  sweep-others [] a ks j q out = ap (λ (left : Eliminated). left.0 j q) (answer-done (a, ks))
  sweep-others (i ∷ rows) a ks j q out =
      ⊎_elim
      (λ (none : a i c ≡ zero_ℚ). ap (λ (w : Worked Eliminated). w.answer.0 j q) (sweep-none a ks i rows none) ∙ sweep-others rows a ks j q (λ held. out (inr held)))
      (λ (some : a i c ≢ zero_ℚ).
      let k = a i c /ℚ a r c in
      ap (λ (left : Eliminated). left.0 j q) (sweep-some a ks i rows some)
      ∙ sweep-others rows (eliminated_by a r c ps i k).answer (ks ++ (i, k) ∷ []) j q (λ held. out (inr held))
      ∙ by-others a r c ps i k j q (λ e. out (inl e)))
      (cases_ℚ (a i c))

  pub sweep-taken : (rows : List ℕ) (a : ℕ → ℕ → ℚ) (ks : List (ℕ × ℚ)) → Pairwise ◌<◌ rows → ¬ In r rows → (eliminate r c ps a ks rows).answer.1 ≡ ks ++ taken r c a rows
  sweep-taken [] a ks rise out = ap (λ (left : Eliminated). left.1) (answer-done (a, ks)) ∙ sym (append-nil ks)
  sweep-taken (i ∷ rows) a ks rise out =
      ⊎_elim
      (λ (none : a i c ≡ zero_ℚ).
      ap (λ (w : Worked Eliminated). w.answer.1) (sweep-none a ks i rows none) ∙ sweep-taken rows a ks rise.1 (λ held. out (inr held))
      ∙ ap (λ ts. ks ++ ts) (sym (taken-none r c a i rows none)))
      (λ (some : a i c ≢ zero_ℚ).
      let k = a i c /ℚ a r c in
      let b = (eliminated_by a r c ps i k).answer in
      ap (λ (left : Eliminated). left.1) (sweep-some a ks i rows some)
      ∙ sweep-taken rows b (ks ++ (i, k) ∷ []) rise.1 (λ held. out (inr held))
      ∙ ap (λ ts. (ks ++ (i, k) ∷ []) ++ ts)
      (taken-cong r c a b rows (by-others a r c ps i k r c (λ e. out (inl e))) (λ j held. by-others a r c ps i k j c (λ e. omega (arith, rise.0 j held))))
      ∙ append_assoc ks ((i, k) ∷ []) (taken r c a rows)
      ∙ ap (λ ts. ks ++ ts) (sym (taken-some r c a i rows some)))
      (cases_ℚ (a i c))

  pub sweep-row : Pairwise ◌≢◌ ps → (rows : List ℕ) (a : ℕ → ℕ → ℚ) (ks : List (ℕ × ℚ)) → Pairwise ◌<◌ rows → ¬ In r rows → (i : ℕ) → In i rows
      → IsSwept r c ps a (eliminate r c ps a ks rows).answer.0 i
  sweep-row distinct [] a ks rise out i held = absurd held
  sweep-row distinct (h ∷ rows) a ks rise out i held =
      ⊎_elim
      (λ (none : a h c ≡ zero_ℚ).
      subst (λ (w : Worked Eliminated). IsSwept r c ps a w.answer.0 i) (sym (sweep-none a ks h rows none))
      (⊎_elim
      (λ (here : i ≡ h).
      subst (IsSwept r c ps a (eliminate r c ps a ks rows).answer.0) (sym here)
      (let kept = λ (q : ℕ). sweep-others rows a ks h q (λ later. omega (arith, rise.0 h later)) in
      record {
        within = λ q ne inside. kept q ∙ ring_ℚ 3 (λ y k z. z ⊙ k ≗ 𝟘 ⟹ y ≐ y ⊖ k ⊗ z) tt (a h q) (a h c /ℚ a r c) (a r q) (quotient_of_none (a h c) (a r c) none);
        pivot = kept c ∙ none;
        without = λ q ne outside. kept q;
      }))
      (λ (later : In i rows). sweep-row distinct rows a ks rise.1 (λ s. out (inr s)) i later)
      held))
      (λ (some : a h c ≢ zero_ℚ).
      let k = a h c /ℚ a r c in
      let b = (eliminated_by a r c ps h k).answer in
      let apart : h ≢ r = λ e. out (inl (sym e)) in
      subst (λ (left : Eliminated). IsSwept r c ps a left.0 i) (sym (sweep-some a ks h rows some))
      (⊎_elim
      (λ (here : i ≡ h).
      subst (IsSwept r c ps a (eliminate r c ps b (ks ++ (h, k) ∷ []) rows).answer.0) (sym here)
      (let kept = λ (q : ℕ). sweep-others rows b (ks ++ (h, k) ∷ []) h q (λ later. omega (arith, rise.0 h later)) in
      record {
        within = λ q ne inside. kept q ∙ by-position a r c ps h k q ne ∙ row-within r h k apart ps a q distinct inside;
        pivot = kept c ∙ by-pivot a r c ps h k;
        without = λ q ne outside. kept q ∙ by-position a r c ps h k q ne ∙ row-without r h k ps a q outside;
      }))
      (λ (later : In i rows).
      let rest = sweep-row distinct rows b (ks ++ (h, k) ∷ []) rise.1 (λ s. out (inr s)) i later in
      let own = λ (q : ℕ). by-others a r c ps h k i q (λ e. omega (arith, rise.0 i later)) in
      let pivot = λ (q : ℕ). by-others a r c ps h k r q (λ e. apart (sym e)) in
      record {
        within = λ q ne inside. rest.within q ne inside ∙ ap₂ (λ x m. x -ℚ m) (own q) (ap₂ (λ x y. x *ℚ y) (ap₂ (λ x y. x /ℚ y) (own c) (pivot c)) (pivot q));
        pivot = rest.pivot;
        without = λ q ne outside. rest.without q ne outside ∙ own q;
      })
      held))
      (cases_ℚ (a h c))

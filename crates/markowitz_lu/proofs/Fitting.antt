-- When all worked values of a pivot fit: in the order of the definition, and in that of the links.
use Rattle.std.proofs.Common.{◌≡◌, ◌≢◌, ℕ, ◌<◌, Bool, true, false, ◌&&◌, cond, List, [], ◌∷◌, ◌++◌, Some, None, inl, inr, ⊎_elim, refl, sym, ap, ap₂, subst, ◌∙◌, arith}
use Rattle.std.specs.List.{list_all}
use Rattle.std.proofs.lemmas.Bool.{cond-true, cond-false}
use Rattle.std.proofs.lemmas.List.Folds.{list_all-append}
use Rattle.rational.specs.Rational.{ℚ, zero_ℚ, ◌/ℚ◌, eq_ℚ}
use Rattle.rational.specs.Width.{fits_width}
use Rattle.rational.specs.Worked.{Worked, done, bind, settle, less, quotient}
use Rattle.rational.proofs.OrderLaws.{eq_ℚ-other}
use Rattle.rational.proofs.Settling.{less-none}
use Rattle.factor_model.specs.Upper.{In, Pairwise}
use Rattle.factor_model.specs.Factoring.{with_entry, less_row, eliminated_by, eliminate}
use Rattle.factor_model.proofs.UpperLaws.{answer-quotient}
use Rattle.factor_model.proofs.PivotLaws.{with_entry-row, with_entry-position, by-others, sweep-none, cases_ℚ}

-- each worked value fits
abbrev pub AllFit : {A : Type 0} → ℕ → Worked A → Type 0
AllFit w c = list_all (fits_width w) c.values ≡ true

module _ (w : ℕ) where
  pub fit-done : {A : Type 0} (a : A) → AllFit w (done a)
  unfolding done
  fit-done a = refl

  both : (s t : Bool) → (s && t) ≡ true → (s ≡ true) × (t ≡ true)
  both true t e = (refl, e)
  both false t e = absurd cc

  module _ {A B : Type 0} (c : Worked A) (f : A → Worked B) where
    parts : list_all (fits_width w) (bind c f).values ≡ (list_all (fits_width w) c.values && list_all (fits_width w) (f c.answer).values)
    unfolding bind
    parts = list_all-append (fits_width w) c.values (f c.answer).values

    pub fit-bind : AllFit w c → AllFit w (f c.answer) → AllFit w (bind c f)
    fit-bind first rest = parts ∙ ap₂ (λ s t. s && t) first rest

    pub fit-first : AllFit w (bind c f) → AllFit w c
    fit-first all = (both _ _ (sym parts ∙ all)).0

    pub fit-rest : AllFit w (bind c f) → AllFit w (f c.answer)
    fit-rest all = (both _ _ (sym parts ∙ all)).1

  module _ {A : Type 0} (c : Worked A) where
    pub fit-settles : AllFit w c → settle w c ≡ Some c.answer
    unfolding settle
    fit-settles all = cond-true (list_all (fits_width w) c.values) (Some c.answer) None all

    pub unfit-none : (AllFit w c → ⊥) → settle w c ≡ None
    unfolding settle
    unfit-none some = by_test (list_all (fits_width w) c.values) refl
      where
        by_test : (t : Bool) → list_all (fits_width w) c.values ≡ t → cond (list_all (fits_width w) c.values) (Some c.answer) None ≡ None
        by_test true e = absurd (some e)
        by_test false e = cond-false (list_all (fits_width w) c.values) (Some c.answer) None e

    pub settled-fit : (a : A) → settle w c ≡ Some a → AllFit w c
    settled-fit a e = by_test (list_all (fits_width w) c.values) refl
      where
        by_test : (t : Bool) → list_all (fits_width w) c.values ≡ t → list_all (fits_width w) c.values ≡ true
        by_test true is = is
        by_test false is = let none : settle w c ≡ None = unfit-none (λ all. let no : true ≡ false = sym all ∙ is in cc) in absurd cc

    pub none-unfit : settle w c ≡ None → AllFit w c → ⊥
    none-unfit none all = let some = fit-settles all in cc

  pub fit-less_none : (x a b : ℚ) → b ≡ zero_ℚ → AllFit w (less x a b)
  fit-less_none x a b none = subst (AllFit w) (sym (less-none x a b (inr none))) (fit-done x)

  same-less : (x y k a b : ℚ) → x ≡ y → a ≡ b → AllFit w (less x k a) → AllFit w (less y k b)
  same-less x y k a b e f h = subst (λ (z : ℚ). AllFit w (less y k z)) f (subst (λ (z : ℚ). AllFit w (less z k a)) e h)

  -- ---- in the order of the definition

  module _ (r i : ℕ) (k : ℚ) (apart : i ≢ r) where
    pub row-fits : (ps : List ℕ) (a : ℕ → ℕ → ℚ) → Pairwise ◌≢◌ ps → ((p : ℕ) → In p ps → AllFit w (less (a i p) k (a r p))) → AllFit w (less_row a r i k ps)
    row-fits [] a distinct all = fit-done a
    row-fits (p ∷ ps) a distinct all =
        let x = (less (a i p) k (a r p)).answer in
        fit-bind (less (a i p) k (a r p)) (λ y. less_row (with_entry a i p y) r i k ps) (all p (inl refl))
        (row-fits ps (with_entry a i p x) distinct.1 (λ q held.
        same-less (a i q) (with_entry a i p x i q) k (a r q) (with_entry a i p x r q) (sym (with_entry-position a i p x i q (λ e. distinct.0 q held (sym e))))
        (sym (with_entry-row a i p x r q (λ e. apart (sym e)))) (all q (inr held))))

    pub row-fit : (ps : List ℕ) (a : ℕ → ℕ → ℚ) → Pairwise ◌≢◌ ps → AllFit w (less_row a r i k ps) → (p : ℕ) → In p ps → AllFit w (less (a i p) k (a r p))
    row-fit [] a distinct all p held = absurd held
    row-fit (q ∷ ps) a distinct all p (inl here) =
        subst (λ (s : ℕ). AllFit w (less (a i s) k (a r s))) (sym here) (fit-first (less (a i q) k (a r q)) (λ y. less_row (with_entry a i q y) r i k ps) all)
    row-fit (q ∷ ps) a distinct all p (inr later) =
        let x = (less (a i q) k (a r q)).answer in
        same-less (with_entry a i q x i p) (a i p) k (with_entry a i q x r p) (a r p) (with_entry-position a i q x i p (λ e. distinct.0 p later (sym e)))
        (with_entry-row a i q x r p (λ e. apart (sym e)))
        (row-fit ps (with_entry a i q x) distinct.1 (fit-rest (less (a i q) k (a r q)) (λ y. less_row (with_entry a i q y) r i k ps) all) p later)

  module _ (r c : ℕ) (ps : List ℕ) (distinct : Pairwise ◌≢◌ ps) where
    -- what is worked of row i fits
    pub record RowFits (a : ℕ → ℕ → ℚ) (i : ℕ) : Type 0 where
      pub multiplier : AllFit w (quotient (a i c) (a r c))
      pub items : (p : ℕ) → In p ps → AllFit w (less (a i p) (a i c /ℚ a r c) (a r p))

    RowFits-same : (a b : ℕ → ℕ → ℚ) (i : ℕ) → ((q : ℕ) → b i q ≡ a i q) → ((q : ℕ) → b r q ≡ a r q) → RowFits a i → RowFits b i
    RowFits-same a b i own pivot h = record {
      multiplier = subst (λ (y : ℚ). AllFit w (quotient (b i c) y)) (sym (pivot c)) (subst (λ (x : ℚ). AllFit w (quotient x (a r c))) (sym (own c)) h.multiplier);
      items = λ p held.
          subst (λ (k : ℚ). AllFit w (less (b i p) k (b r p))) (ap₂ (λ x y. x /ℚ y) (sym (own c)) (sym (pivot c)))
          (same-less (a i p) (b i p) (a i c /ℚ a r c) (a r p) (b r p) (sym (own p)) (sym (pivot p)) (h.items p held));
    }

    module _ (a : ℕ → ℕ → ℚ) (ks : List (ℕ × ℚ)) (i : ℕ) (rows : List ℕ) (some : a i c ≢ zero_ℚ) where
      sweep-parts : eliminate r c ps a ks (i ∷ rows)
          ≡ bind (quotient (a i c) (a r c)) (λ k. bind (eliminated_by a r c ps i k) (λ b. eliminate r c ps b (ks ++ (i, k) ∷ []) rows))
      sweep-parts = cond-false (eq_ℚ (a i c) zero_ℚ) _ _ (eq_ℚ-other (a i c) some)

    by-fits : (a : ℕ → ℕ → ℚ) (i : ℕ) (k : ℚ) → AllFit w (less_row a r i k ps) → AllFit w (eliminated_by a r c ps i k)
    unfolding eliminated_by
    by-fits a i k all = fit-bind (less_row a r i k ps) (λ b. done (with_entry b i c zero_ℚ)) all (fit-done (with_entry (less_row a r i k ps).answer i c zero_ℚ))

    by-fit : (a : ℕ → ℕ → ℚ) (i : ℕ) (k : ℚ) → AllFit w (eliminated_by a r c ps i k) → AllFit w (less_row a r i k ps)
    unfolding eliminated_by
    by-fit a i k all = fit-first (less_row a r i k ps) (λ b. done (with_entry b i c zero_ℚ)) all

    pub sweep-fits : (rows : List ℕ) (a : ℕ → ℕ → ℚ) (ks : List (ℕ × ℚ)) → Pairwise ◌<◌ rows → ¬ In r rows → ((i : ℕ) → In i rows → a i c ≢ zero_ℚ → RowFits a i)
        → AllFit w (eliminate r c ps a ks rows)
    sweep-fits [] a ks rise out all = fit-done (a, ks)
    sweep-fits (h ∷ rows) a ks rise out all =
        ⊎_elim
        (λ (none : a h c ≡ zero_ℚ).
        subst (AllFit w) (sym (sweep-none r c ps a ks h rows none)) (sweep-fits rows a ks rise.1 (λ held. out (inr held)) (λ i held. all i (inr held))))
        (λ (some : a h c ≢ zero_ℚ).
        let k = a h c /ℚ a r c in
        let b = (eliminated_by a r c ps h k).answer in
        let own = all h (inl refl) some in
        let apart : h ≢ r = λ e. out (inl (sym e)) in
        let k_is : (quotient (a h c) (a r c)).answer ≡ k = answer-quotient (a h c) (a r c) in
        let rest : AllFit w (bind (eliminated_by a r c ps h k) (λ m. eliminate r c ps m (ks ++ (h, k) ∷ []) rows)) =
        fit-bind (eliminated_by a r c ps h k) (λ m. eliminate r c ps m (ks ++ (h, k) ∷ []) rows) (by-fits a h k (row-fits r h k apart ps a distinct own.items))
        (sweep-fits rows b (ks ++ (h, k) ∷ []) rise.1 (λ held. out (inr held)) (λ i held some_i.
        let kept : (q : ℕ) → b i q ≡ a i q = λ q. by-others a r c ps h k i q (λ e. omega (arith, rise.0 i held)) in
        RowFits-same a b i kept (λ q. by-others a r c ps h k r q (λ e. apart (sym e))) (all i (inr held) (λ none. some_i (kept c ∙ none))))) in
        subst (AllFit w) (sym (sweep-parts a ks h rows some))
        (fit-bind (quotient (a h c) (a r c)) (λ x. bind (eliminated_by a r c ps h x) (λ m. eliminate r c ps m (ks ++ (h, x) ∷ []) rows)) own.multiplier
        (subst (λ (x : ℚ). AllFit w (bind (eliminated_by a r c ps h x) (λ m. eliminate r c ps m (ks ++ (h, x) ∷ []) rows))) (sym k_is) rest)))
        (cases_ℚ (a h c))

    pub sweep-fit : (rows : List ℕ) (a : ℕ → ℕ → ℚ) (ks : List (ℕ × ℚ)) → Pairwise ◌<◌ rows → ¬ In r rows → AllFit w (eliminate r c ps a ks rows)
        → (i : ℕ) → In i rows → a i c ≢ zero_ℚ → RowFits a i
    sweep-fit [] a ks rise out all i held some = absurd held
    sweep-fit (h ∷ rows) a ks rise out all i held some =
        ⊎_elim
        (λ (none : a h c ≡ zero_ℚ). ⊎_elim
        (λ (here : i ≡ h). absurd (some (ap (λ (j : ℕ). a j c) here ∙ none)))
        (λ (later : In i rows). sweep-fit rows a ks rise.1 (λ there. out (inr there)) (subst (AllFit w) (sweep-none r c ps a ks h rows none) all) i later some)
        held)
        (λ (some_h : a h c ≢ zero_ℚ).
        let k = a h c /ℚ a r c in
        let b = (eliminated_by a r c ps h k).answer in
        let apart : h ≢ r = λ e. out (inl (sym e)) in
        let k_is : (quotient (a h c) (a r c)).answer ≡ k = answer-quotient (a h c) (a r c) in
        let both_fit = subst (AllFit w) (sweep-parts a ks h rows some_h) all in
        let first = fit-first (quotient (a h c) (a r c)) (λ x. bind (eliminated_by a r c ps h x) (λ m. eliminate r c ps m (ks ++ (h, x) ∷ []) rows)) both_fit in
        let rest : AllFit w (bind (eliminated_by a r c ps h k) (λ m. eliminate r c ps m (ks ++ (h, k) ∷ []) rows)) =
        subst (λ (x : ℚ). AllFit w (bind (eliminated_by a r c ps h x) (λ m. eliminate r c ps m (ks ++ (h, x) ∷ []) rows))) k_is
        (fit-rest (quotient (a h c) (a r c)) (λ x. bind (eliminated_by a r c ps h x) (λ m. eliminate r c ps m (ks ++ (h, x) ∷ []) rows)) both_fit) in
        let later_fit = fit-rest (eliminated_by a r c ps h k) (λ m. eliminate r c ps m (ks ++ (h, k) ∷ []) rows) rest in
        ⊎_elim
        (λ (here : i ≡ h). subst (RowFits a) (sym here) (record {
          multiplier = first;
          items = row-fit r h k apart ps a distinct (by-fit a h k (fit-first (eliminated_by a r c ps h k) (λ m. eliminate r c ps m (ks ++ (h, k) ∷ []) rows) rest));
        }))
        (λ (later : In i rows).
        let kept : (q : ℕ) → b i q ≡ a i q = λ q. by-others a r c ps h k i q (λ e. omega (arith, rise.0 i later)) in
        RowFits-same b a i (λ q. sym (kept q)) (λ q. sym (by-others a r c ps h k r q (λ e. apart (sym e))))
        (sweep-fit rows b (ks ++ (h, k) ∷ []) rise.1 (λ there. out (inr there)) later_fit i later (λ none. some (sym (kept c) ∙ none))))
        held)
        (cases_ℚ (a h c))

-- The first value of a listing that does not fit, part by part.
use Rattle.std.proofs.Common.{◌≡◌, ℕ, zero, suc, ◌+◌, ◌<◌, ◌≤◌, List, [], ◌∷◌, ◌++◌, map, flat_map, Some, None, Bool, true, false, ◌&&◌, cond, refl, ◌∙◌, ap, arith}
use Rattle.std.specs.List.{list_all, range_with_len}
use Rattle.lp_model.specs.declared.Place.{Place}
use Rattle.rational.specs.Rational.{ℚ}
use Rattle.rational.specs.Width.{fits_width}
use Rattle.rational.specs.Sparse.{upto}
use Rattle.rational.specs.Worked.{Worked, placed, settle}
use Rattle.rational.proofs.SumLaws.{at_or_other}
use Rattle.lp_run.specs.Listing.{AllFit, Listed, first_unfit}

module _ (w : ℕ) where
  -- where the first part fits, the rest decides
  pub fit-append : (xs ys : List Listed) → AllFit w xs → first_unfit w (xs ++ ys) ≡ first_unfit w ys
  fit-append [] ys fits = refl
  fit-append ((here, v) ∷ xs) ys fits = by_test (fit-append xs ys) (fits_width w v) fits
    where
      by_test : (first_unfit w xs ≡ None → first_unfit w (xs ++ ys) ≡ first_unfit w ys) → (t : Bool) → cond t (first_unfit w xs) (Some here) ≡ None
          → cond t (first_unfit w (xs ++ ys)) (Some here) ≡ first_unfit w ys
      by_test further true e = further e
      by_test further false e = absurd (cc e)

  pub all-append : (xs ys : List Listed) → AllFit w xs → AllFit w ys → AllFit w (xs ++ ys)
  all-append xs ys left right = fit-append xs ys left ∙ right

  -- where the first part has a value that does not fit, it decides
  pub unfit-append : (xs ys : List Listed) (p : Place) → first_unfit w xs ≡ Some p → first_unfit w (xs ++ ys) ≡ Some p
  unfit-append [] ys p e = absurd (cc e)
  unfit-append ((here, v) ∷ xs) ys p e = by_test (unfit-append xs ys p) (fits_width w v) e
    where
      by_test : (first_unfit w xs ≡ Some p → first_unfit w (xs ++ ys) ≡ Some p) → (t : Bool) → cond t (first_unfit w xs) (Some here) ≡ Some p
          → cond t (first_unfit w (xs ++ ys)) (Some here) ≡ Some p
      by_test further true e = further e
      by_test further false e = e

  -- ── a calculation at one place ──

  settled_or : {A : Type 0} (here : Place) (vs : List ℚ) (a : A) (t : Bool) → list_all (fits_width w) vs ≡ t
      → first_unfit w (map (λ v. (here, v)) vs) ≡ cond t None (Some here)
  settled_or here [] a t e = ap (λ b. cond b None (Some here)) e
  settled_or here (v ∷ vs) a t e = by_test (settled_or here vs a t) (fits_width w v) e
    where
      by_test : (list_all (fits_width w) vs ≡ t → first_unfit w (map (λ v. (here, v)) vs) ≡ cond t None (Some here)) → (s : Bool) → (s && list_all (fits_width w) vs) ≡ t
          → cond s (first_unfit w (map (λ v. (here, v)) vs)) (Some here) ≡ cond t None (Some here)
      by_test further true h = further h
      by_test further false h = ap (λ b. cond b None (Some here)) h

  pub fit-placed : {A : Type 0} (here : Place) (c : Worked A) (a : A) → settle w c ≡ Some a → AllFit w (placed here c)
  unfolding settle
  fit-placed here c a e = by_test (list_all (fits_width w) c.values) refl
    where
      apart : (t : Bool) → t ≡ false → cond t (Some c.answer) None ≡ Some a → ⊥
      apart true p q = cc
      apart false p q = cc

      by_test : (t : Bool) → list_all (fits_width w) c.values ≡ t → first_unfit w (placed here c) ≡ None
      by_test true h = settled_or here c.values c.answer true h
      by_test false h = absurd (apart (list_all (fits_width w) c.values) h e)

  pub unfit-placed : {A : Type 0} (here : Place) (c : Worked A) → settle w c ≡ None → first_unfit w (placed here c) ≡ Some here
  unfolding settle
  unfit-placed here c e = by_test (list_all (fits_width w) c.values) refl
    where
      apart : (t : Bool) → t ≡ true → cond t (Some c.answer) None ≡ None → ⊥
      apart true p q = cc
      apart false p q = cc

      by_test : (t : Bool) → list_all (fits_width w) c.values ≡ t → first_unfit w (placed here c) ≡ Some here
      by_test true h = absurd (apart (list_all (fits_width w) c.values) h e)
      by_test false h = settled_or here c.values c.answer false h

  -- ── part after part, by an index ──

  all_from : (f : ℕ → List Listed) (a n : ℕ) → ((k : ℕ) → a ≤ k → k < a + n → AllFit w (f k)) → AllFit w (flat_map f (range_with_len a n))
  all_from f a zero each = refl
  all_from f a (suc n) each =
      all-append (f a) (flat_map f (range_with_len (a + 1) n)) (each a (omega arith) (omega arith)) (all_from f (a + 1) n (λ k from below. each k (omega arith) (omega arith)))

  pub all-flat_map : (f : ℕ → List Listed) (n : ℕ) → ((k : ℕ) → k < n → AllFit w (f k)) → AllFit w (flat_map f (upto n))
  all-flat_map f n each = all_from f 0 n (λ k from below. each k (omega arith))

  first_from : (f : ℕ → List Listed) (i a n : ℕ) (p : Place) → a ≤ i → i < a + n → ((k : ℕ) → a ≤ k → k < i → AllFit w (f k)) → first_unfit w (f i) ≡ Some p
      → first_unfit w (flat_map f (range_with_len a n)) ≡ Some p
  first_from f i a zero p from below before here = absurd (omega arith)
  first_from f i a (suc n) p from below before here =
      at_or_other (λ a. a ≤ i → i < a + suc n → ((k : ℕ) → a ≤ k → k < i → AllFit w (f k)) → first_unfit w (f a ++ flat_map f (range_with_len (a + 1) n)) ≡ Some p) i a
      (λ from below before. unfit-append (f i) (flat_map f (range_with_len (i + 1) n)) p here)
      (λ other from below before. fit-append (f a) (flat_map f (range_with_len (a + 1) n)) (before a (omega arith) (omega arith))
      ∙ first_from f i (a + 1) n p (omega arith) (omega arith) (λ k e g. before k (omega arith) g) here)
      from below before

  -- the first part that has a value that does not fit decides
  pub first-flat_map : (f : ℕ → List Listed) (n i : ℕ) (p : Place) → i < n → ((k : ℕ) → k < i → AllFit w (f k)) → first_unfit w (f i) ≡ Some p → first_unfit w (flat_map f (upto n)) ≡ Some p
  first-flat_map f n i p below before here = first_from f i 0 n p (omega arith) (omega arith) (λ k e g. before k g) here

  -- a list of single values is such a list of parts
  pub singles : (f : ℕ → Listed) (a n : ℕ) → map f (range_with_len a n) ≡ flat_map (λ k. f k ∷ []) (range_with_len a n)
  singles f a zero = refl
  singles f a (suc n) = ap (λ xs. f a ∷ xs) (singles f (a + 1) n)

  pub one-fits : (here : Place) (v : ℚ) → fits_width w v ≡ true → AllFit w ((here, v) ∷ [])
  one-fits here v e = ap (λ t. cond t None (Some here)) e

  pub one-unfit : (here : Place) (v : ℚ) → fits_width w v ≡ false → first_unfit w ((here, v) ∷ []) ≡ Some here
  one-unfit here v e = ap (λ t. cond t None (Some here)) e

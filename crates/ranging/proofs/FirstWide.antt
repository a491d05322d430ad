-- The first value of a listing of ranges that does not fit, part by part.
use Rattle.std.proofs.Common.{◌≡◌, ◌≢◌, ℕ, zero, suc, ◌+◌, ◌<◌, ◌≤◌, List, [], ◌∷◌, ◌++◌, map, flat_map, Option, Some, None, Bool, true, false, ◌&&◌, cond, refl, sym, ◌∙◌, ap, ap₂, arith}
use Rattle.std.specs.List.{list_all, range_with_len}
use Rattle.rational.specs.Rational.{ℚ}
use Rattle.rational.specs.Sparse.{upto}
use Rattle.rational.specs.Width.{fits_width}
use Rattle.rational.proofs.SumLaws.{at_or_other}
use Rattle.ranging.specs.declared.fault.RangePlace.{RangePlace}
use Rattle.ranging.specs.Listing.{Ranged, first_wide}

-- the first of two, where there is one
abbrev pub or_else : Option RangePlace → Option RangePlace → Option RangePlace
or_else None b = b
or_else (Some a) b = Some a

module _ (w : ℕ) where
  pub first-append : (xs ys : List Ranged) → first_wide w (xs ++ ys) ≡ or_else (first_wide w xs) (first_wide w ys)
  first-append [] ys = refl
  first-append ((here, v) ∷ xs) ys = by_test (first-append xs ys) (fits_width w v)
    where
      by_test : first_wide w (xs ++ ys) ≡ or_else (first_wide w xs) (first_wide w ys) → (t : Bool)
          → cond t (first_wide w (xs ++ ys)) (Some here) ≡ or_else (cond t (first_wide w xs) (Some here)) (first_wide w ys)
      by_test further true = further
      by_test further false = refl

  -- values that all stand at one place
  pub first-at : (here : RangePlace) (vs : List ℚ) (b : Bool) → list_all (fits_width w) vs ≡ b → first_wide w (map (λ v. (here, v)) vs) ≡ cond b None (Some here)
  first-at here [] b e = ap (λ b. cond b None (Some here)) e
  first-at here (v ∷ vs) b e = by_test (first-at here vs b) (fits_width w v) e
    where
      by_test : (list_all (fits_width w) vs ≡ b → first_wide w (map (λ v. (here, v)) vs) ≡ cond b None (Some here)) → (t : Bool) → (t && list_all (fits_width w) vs) ≡ b
          → cond t (first_wide w (map (λ v. (here, v)) vs)) (Some here) ≡ cond b None (Some here)
      by_test further true h = further h
      by_test further false h = ap (λ b. cond b None (Some here)) h

  -- ── part after part, by an index ──

  module _ (f : ℕ → List Ranged) where
    none_from : (a n : ℕ) → ((k : ℕ) → k < a + n → first_wide w (f k) ≡ None) → first_wide w (flat_map f (range_with_len a n)) ≡ None
    none_from a zero each = refl
    none_from a (suc n) each =
        first-append (f a) (flat_map f (range_with_len (a + 1) n)) ∙ ap₂ or_else (each a (omega arith)) (none_from (a + 1) n (λ k b. each k (omega arith)))

    pub none-flat : (n : ℕ) → ((k : ℕ) → k < n → first_wide w (f k) ≡ None) → first_wide w (flat_map f (upto n)) ≡ None
    none-flat n each = none_from 0 n (λ k b. each k (omega arith))

    module _ (i : ℕ) (here : RangePlace) (is : first_wide w (f i) ≡ Some here) where
      first_from : (a n : ℕ) → a ≤ i → i < a + n → ((k : ℕ) → k < i → first_wide w (f k) ≡ None) → first_wide w (flat_map f (range_with_len a n)) ≡ Some here
      first_from a zero from below before = absurd (omega arith)
      first_from a (suc n) from below before =
          at_or_other (λ a. a ≤ i → i < a + suc n → first_wide w (f a ++ flat_map f (range_with_len (a + 1) n)) ≡ Some here) i a
          (λ from below. first-append (f i) (flat_map f (range_with_len (i + 1) n)) ∙ ap (λ o. or_else o (first_wide w (flat_map f (range_with_len (i + 1) n)))) is)
          (λ other from below. first-append (f a) (flat_map f (range_with_len (a + 1) n))
          ∙ ap₂ or_else (before a (omega arith)) (first_from (a + 1) n (omega arith) (omega arith) before))
          from below

      pub first-flat : (n : ℕ) → i < n → ((k : ℕ) → k < i → first_wide w (f k) ≡ None) → first_wide w (flat_map f (upto n)) ≡ Some here
      first-flat n below before = first_from 0 n (omega arith) (omega arith) before

-- ── where all parts stand at one place, it is no matter which is the first ──

module _ (w : ℕ) (here : RangePlace) (f : ℕ → List ℚ) (p : ℕ) (wide : list_all (fits_width w) (f p) ≡ false) where
  part : ℕ → List Ranged
  part k = map (λ v. (here, v)) (f k)

  place_from : (a n : ℕ) → a ≤ p → p < a + n → first_wide w (flat_map part (range_with_len a n)) ≡ Some here
  unfolding part
  place_from a zero from below = absurd (omega arith)
  place_from a (suc n) from below =
      first-append w (part a) (flat_map part (range_with_len (a + 1) n)) ∙ by_test (λ past. place_from (a + 1) n (omega (arith, past, from)) (omega (arith, below))) (list_all (fits_width w) (f a)) refl
    where
      apart : true ≡ false → ⊥
      apart e = cc e

      other : list_all (fits_width w) (f a) ≡ true → (p ≡ a → ⊥)
      other e same = apart (sym e ∙ ap (λ k. list_all (fits_width w) (f k)) (sym same) ∙ wide)

      by_test : (p ≢ a → first_wide w (flat_map part (range_with_len (a + 1) n)) ≡ Some here) → (t : Bool) → list_all (fits_width w) (f a) ≡ t
          → or_else (first_wide w (part a)) (first_wide w (flat_map part (range_with_len (a + 1) n))) ≡ Some here
      by_test further false e = ap (λ o. or_else o (first_wide w (flat_map part (range_with_len (a + 1) n)))) (first-at w here (f a) false e)
      by_test further true e = ap (λ o. or_else o (first_wide w (flat_map part (range_with_len (a + 1) n)))) (first-at w here (f a) true e) ∙ further (other e)

  pub one-place : (n : ℕ) → p < n → first_wide w (flat_map (λ k. map (λ v. (here, v)) (f k)) (upto n)) ≡ Some here
  unfolding part
  one-place n below = place_from 0 n (omega arith) (omega arith)

-- ── plain lists of numbers, part after part ──

module _ (w : ℕ) where
  pub all-append : (xs ys : List ℚ) → list_all (fits_width w) (xs ++ ys) ≡ (list_all (fits_width w) xs && list_all (fits_width w) ys)
  all-append [] ys = refl
  all-append (v ∷ xs) ys = by_test (all-append xs ys) (fits_width w v)
    where
      by_test : list_all (fits_width w) (xs ++ ys) ≡ (list_all (fits_width w) xs && list_all (fits_width w) ys) → (t : Bool)
          → (t && list_all (fits_width w) (xs ++ ys)) ≡ ((t && list_all (fits_width w) xs) && list_all (fits_width w) ys)
      by_test further true = further
      by_test further false = refl

module _ (w : ℕ) (f : ℕ → List ℚ) where
  all_from : (a n : ℕ) → ((k : ℕ) → k < a + n → list_all (fits_width w) (f k) ≡ true) → list_all (fits_width w) (flat_map f (range_with_len a n)) ≡ true
  all_from a zero each = refl
  all_from a (suc n) each = all-append w (f a) (flat_map f (range_with_len (a + 1) n)) ∙ ap₂ ◌&&◌ (each a (omega arith)) (all_from (a + 1) n (λ k b. each k (omega arith)))

  pub all-flat : (n : ℕ) → ((k : ℕ) → k < n → list_all (fits_width w) (f k) ≡ true) → list_all (fits_width w) (flat_map f (upto n)) ≡ true
  all-flat n each = all_from 0 n (λ k b. each k (omega arith))

  and_false : (b : Bool) → (b && false) ≡ false
  and_false true = refl
  and_false false = refl

  wide_from : (i a n : ℕ) → a ≤ i → i < a + n → list_all (fits_width w) (f i) ≡ false → list_all (fits_width w) (flat_map f (range_with_len a n)) ≡ false
  wide_from i a zero from below is = absurd (omega arith)
  wide_from i a (suc n) from below is =
      all-append w (f a) (flat_map f (range_with_len (a + 1) n))
      ∙ at_or_other (λ a. a ≤ i → i < a + suc n → (list_all (fits_width w) (f a) && list_all (fits_width w) (flat_map f (range_with_len (a + 1) n))) ≡ false) i a
      (λ from below. ap (λ b. b && list_all (fits_width w) (flat_map f (range_with_len (i + 1) n))) is)
      (λ other from below. ap (λ b. list_all (fits_width w) (f a) && b) (wide_from i (a + 1) n (omega arith) (omega arith) is) ∙ and_false (list_all (fits_width w) (f a)))
      from below

  pub wide-flat : (i n : ℕ) → i < n → list_all (fits_width w) (f i) ≡ false → list_all (fits_width w) (flat_map f (upto n)) ≡ false
  wide-flat i n below is = wide_from i 0 n (omega arith) (omega arith) is

same_from : {A : Type 0} (f g : ℕ → List A) (a n : ℕ) → ((k : ℕ) → k < a + n → f k ≡ g k) → flat_map f (range_with_len a n) ≡ flat_map g (range_with_len a n)
same_from f g a zero each = refl
same_from f g a (suc n) each = ap₂ ◌++◌ (each a (omega arith)) (same_from f g (a + 1) n (λ k b. each k (omega arith)))

pub same-flat : {A : Type 0} (f g : ℕ → List A) (n : ℕ) → ((k : ℕ) → k < n → f k ≡ g k) → flat_map f (upto n) ≡ flat_map g (upto n)
same-flat f g n each = same_from f g 0 n (λ k b. each k (omega arith))

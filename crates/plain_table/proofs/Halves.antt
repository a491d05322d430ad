-- Rows in two halves: what they list one after the other, and what they become.
use Rattle.std.proofs.Common.{◌≡◌, ℕ, zero, suc, ◌+◌, ◌<◌, List, [], ◌++◌, length, get_or, flat_map, Bool, eqb, Result, Ok, Err, refl, sym, ◌∙◌, ap, ap₂, subst, arith}
use Rattle.std.specs.List.{range_with_len}
use Rattle.std.proofs.lemmas.List.{append_assoc, get_or_append_left, get_or-append-add, length-append}
use Rattle.lp_model.specs.declared.Place.{Place}
use Rattle.rational.specs.Rational.{ℚ}
use Rattle.exact_frac.specs.Count.{raised, unfit_after}
use Rattle.rational.specs.Sparse.{upto}
use Rattle.lp_run.specs.Listing.{Listed, first_unfit, Judges}
use Rattle.plain_table.specs.Inner.Rows.{AreWide, row_listing, rows_listing}
use Rattle.plain_table.proofs.Parts.{judged_first, judged_next, same_parts}

-- ── lists from two parts ──

parts_from : (f : ℕ → List Listed) (a m n : ℕ) → flat_map f (range_with_len a (m + n)) ≡ flat_map f (range_with_len a m) ++ flat_map f (range_with_len (a + m) n)
parts_from f a zero n = ap₂ (λ b k. flat_map f (range_with_len b k)) (omega arith) (omega arith)
parts_from f a (suc m) n =
    ap (λ k. flat_map f (range_with_len a k)) (more m n)
    ∙ ap (λ xs. f a ++ xs) (parts_from f (a + 1) m n ∙ ap (λ b. flat_map f (range_with_len (a + 1) m) ++ flat_map f (range_with_len b n)) (next a m))
    ∙ sym (append_assoc (f a) (flat_map f (range_with_len (a + 1) m)) (flat_map f (range_with_len (a + suc m) n)))
  where
    more : (m n : ℕ) → suc m + n ≡ suc (m + n)
    more m n = omega arith

    next : (a m : ℕ) → a + 1 + m ≡ a + suc m
    next a m = omega arith

moved_from : (f : ℕ → List Listed) (b a n : ℕ) → flat_map f (range_with_len (b + a) n) ≡ flat_map (λ i. f (b + i)) (range_with_len a n)
moved_from f b a zero = refl
moved_from f b a (suc n) = ap (λ xs. f (b + a) ++ xs) (ap (λ c. flat_map f (range_with_len c n)) (next b a) ∙ moved_from f b (a + 1) n)
  where
    next : (b a : ℕ) → b + a + 1 ≡ b + (a + 1)
    next b a = omega arith

parts : (f : ℕ → List Listed) (m n : ℕ) → flat_map f (upto (m + n)) ≡ flat_map f (upto m) ++ flat_map (λ i. f (m + i)) (upto n)
parts f m n = parts_from f 0 m n ∙ ap (λ xs. flat_map f (upto m) ++ xs) (ap (λ b. flat_map f (range_with_len b n)) (omega arith) ∙ moved_from f m 0 n)

-- what holds of the places below m and of those from m on
pub by_place : (P : ℕ → Type 0) (m : ℕ) → ((i : ℕ) → i < m → P i) → ((k : ℕ) → P (m + k)) → (i : ℕ) → P i
by_place P zero low high i = subst P (omega arith) (high i)
by_place P (suc m) low high zero = low 0 (omega arith)
by_place P (suc m) low high (suc i) = by_place (λ k. P (suc k)) m (λ k b. low (suc k) (omega arith)) (λ k. subst P (more m k) (high k)) i
  where
    more : (m k : ℕ) → suc m + k ≡ suc (m + k)
    more m k = omega arith

-- the count of a fresh arithmetic comes to another one
pub raised_after : {A E : Type 0} (count : ℕ) (r : Result A E) → raised count (unfit_after 0 r) ≡ unfit_after count r
raised_after count (Ok a) = omega arith
raised_after count (Err e) = omega arith

-- ── rows from two halves ──

pub wide_both : (n : ℕ) (low high : List (List ℚ)) → AreWide n low → AreWide n high → AreWide n (low ++ high)
wide_both n low high first second =
    by_place (λ k. k < length (low ++ high) → length (get_or (low ++ high) k []) ≡ n) (length low)
    (λ k b inside. ap (λ (xs : List ℚ). length xs) (get_or_append_left low high [] k b) ∙ first k b)
    (λ k inside. ap (λ (xs : List ℚ). length xs) (get_or-append-add low high k []) ∙ second k (omega (arith, inside, length-append low high)))

module _ (k p base q : ℕ) (by : List ℚ) (low high : List (List ℚ)) where
  listing_both : rows_listing k p base q by (low ++ high) ≡ rows_listing k p base q by low ++ rows_listing k p (length low + base) q by high
  listing_both =
      ap (λ n. flat_map (λ i. row_listing k (eqb (i + base) p) (i + base) q by (get_or (low ++ high) i [])) (upto n)) (length-append low high)
      ∙ parts (λ i. row_listing k (eqb (i + base) p) (i + base) q by (get_or (low ++ high) i [])) (length low) (length high)
      ∙ ap₂ (λ xs ys. xs ++ ys)
      (same_parts _ _ (length low) (λ i b. ap (λ row. row_listing k (eqb (i + base) p) (i + base) q by row) (get_or_append_left low high [] i b)))
      (same_parts _ _ (length high) (λ i b. ap₂ (λ n row. row_listing k (eqb n p) n q by row) (place_is i) (get_or-append-add low high i [])))
    where
      place_is : (i : ℕ) → length low + i + base ≡ i + (length low + base)
      place_is i = omega arith

  module _ (up : ℕ) (there : up ≡ length low + base) (rows : List (List ℚ)) (is : rows ≡ low ++ high) where
    listing_is : rows_listing k p base q by rows ≡ rows_listing k p base q by low ++ rows_listing k p up q by high
    listing_is = ap (rows_listing k p base q by) is ∙ listing_both ∙ ap (λ n. rows_listing k p base q by low ++ rows_listing k p n q by high) (sym there)

    -- the first half is refused
    pub first_refused : (w : ℕ) (here : Place) (r : Result (Unit {0}) Place) → r ≡ Err here → Judges w (rows_listing k p base q by low) r
        → Judges {A = Unit {0}} w (rows_listing k p base q by rows) (Err here)
    first_refused w here r refused h =
        ap (first_unfit w) listing_is
        ∙ judged_first w (rows_listing k p base q by low) (rows_listing k p up q by high) here (subst (λ r. Judges w (rows_listing k p base q by low) r) refused h)

    -- the first half is worked, and the second one decides
    pub second_judged : (w u : ℕ) (first r : Result (Unit {0}) Place) → u ≡ w → first ≡ Ok tt → Judges w (rows_listing k p base q by low) first
        → Judges u (rows_listing k p up q by high) r → Judges w (rows_listing k p base q by rows) r
    second_judged w u first r same worked fits h =
        subst (λ vs. Judges w vs r) (sym listing_is)
        (judged_next w (rows_listing k p base q by low) (rows_listing k p up q by high) r (subst (λ r. Judges w (rows_listing k p base q by low) r) worked fits)
        (subst (λ w. Judges w (rows_listing k p up q by high) r) same h))

    -- what holds of each half holds of all rows
    pub each_both : (Q : Bool → List ℚ → List ℚ → Type 0) (out low_out high_out : List (List ℚ)) → out ≡ low_out ++ high_out → length low_out ≡ length low
        → ((i : ℕ) → i < length low → Q (eqb (i + base) p) (get_or low i []) (get_or low_out i []))
        → ((i : ℕ) → i < length high → Q (eqb (i + up) p) (get_or high i []) (get_or high_out i []))
        → (i : ℕ) → i < length rows → Q (eqb (i + base) p) (get_or rows i []) (get_or out i [])
    each_both Q out low_out high_out are many first second =
        subst (λ rows. (i : ℕ) → i < length rows → AtPlace i (get_or rows i []) (get_or out i [])) (sym is)
        (subst (λ out. (i : ℕ) → i < length (low ++ high) → AtPlace i (get_or (low ++ high) i []) (get_or out i [])) (sym are)
        (by_place (λ i. i < length (low ++ high) → AtPlace i (get_or (low ++ high) i []) (get_or (low_out ++ high_out) i [])) (length low)
        (λ i b inside. subst (λ row. AtPlace i row (get_or (low_out ++ high_out) i [])) (sym (get_or_append_left low high [] i b))
        (subst (AtPlace i (get_or low i [])) (sym (get_or_append_left low_out high_out [] i (subst (λ n. i < n) (sym many) b))) (first i b)))
        (λ i inside. subst (λ row. AtPlace (length low + i) row (get_or (low_out ++ high_out) (length low + i) [])) (sym (get_or-append-add low high i []))
        (subst (AtPlace (length low + i) (get_or high i [])) (sym (ap (λ n. get_or (low_out ++ high_out) (n + i) []) (sym many) ∙ get_or-append-add low_out high_out i []))
        (subst (λ n. Q (eqb n p) (get_or high i []) (get_or high_out i [])) (place_is i) (second i (omega (arith, inside, length-append low high))))))))
      where
        AtPlace : ℕ → List ℚ → List ℚ → Type 0
        AtPlace i row worked = Q (eqb (i + base) p) row worked

        place_is : (i : ℕ) → i + up ≡ length low + i + base
        place_is i = omega (arith, there)

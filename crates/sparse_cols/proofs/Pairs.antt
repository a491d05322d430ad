-- What a search finds among rising pairs, and what an edit at that place does.
use Rattle.std.proofs.Common.{◌≡◌, ◌≢◌, ℕ, zero, suc, ◌+◌, ◌<◌, ◌≤◌, List, [], ◌∷◌, length, get_or, eqb, ltb, Some, None, Result, Ok, Err, IfOk, IfErr, refl, sym, ap, subst, ◌∙◌, ⊎_elim, arith}
use Rattle.std.specs.List.{insert, remove}
use Rattle.std.specs.List.Sorted.{IsSearchInRange, IsBinarySearchResult, IsNonDecreasingBy}
use Rattle.std.specs.Ordering.{nat_cmp, ordering_index}
use Rattle.std.proofs.lemmas.Cmp.{ranked}
use Rattle.std.proofs.lemmas.Bool.{cases_eq, cases_lt, eq-eqb, ne_eqb, lt-ltb, le-ltb, cond-true, cond-false}
use Rattle.std.proofs.lemmas.Bool.Decides.{nat_tests}
use Rattle.sparse_cols.specs.Sparse.{IsRising, value_at, insert_pair, remove_row, IsAt, IsGapFor}

module _ {V : Type 0} (len : ℕ) where
  -- every row is at least `from` and below len
  pub row_from : (from : ℕ) (ps : List (ℕ × V)) → IsRising len from ps → (j : ℕ) (d : ℕ × V) → j < length ps → from ≤ (get_or ps j d).0
  row_from from [] h j d lt = absurd (omega arith)
  row_from from (p ∷ ps) h zero d lt = h.0
  row_from from (p ∷ ps) h (suc j) d lt = omega (arith, h.0, row_from (p.0 + 1) ps h.2 j d (omega arith))

  pub row_below : (from : ℕ) (ps : List (ℕ × V)) → IsRising len from ps → (j : ℕ) (d : ℕ × V) → j < length ps → (get_or ps j d).0 < len
  row_below from [] h j d lt = absurd (omega arith)
  row_below from (p ∷ ps) h zero d lt = h.1
  row_below from (p ∷ ps) h (suc j) d lt = row_below (p.0 + 1) ps h.2 j d (omega arith)

  -- a later row is higher
  pub row_rises : (from : ℕ) (ps : List (ℕ × V)) → IsRising len from ps → (i j : ℕ) (d : ℕ × V) → i < j → j < length ps → (get_or ps i d).0 < (get_or ps j d).0
  row_rises from [] h i j d ij lt = absurd (omega arith)
  row_rises from (p ∷ ps) h i zero d ij lt = absurd (omega arith)
  row_rises from (p ∷ ps) h zero (suc j) d ij lt = omega (arith, row_from (p.0 + 1) ps h.2 j d (omega arith))
  row_rises from (p ∷ ps) h (suc i) (suc j) d ij lt = row_rises (p.0 + 1) ps h.2 i j d (omega arith) (omega arith)

  -- the value at a row that stands at place k
  pub value_at-found : (from : ℕ) (ps : List (ℕ × V)) → IsRising len from ps → (i k : ℕ) (d : ℕ × V) → k < length ps → (get_or ps k d).0 ≡ i → value_at ps i ≡ Some (get_or ps k d).1
  value_at-found from [] h i k d lt at = absurd (omega arith)
  value_at-found from (p ∷ ps) h i zero d lt at = cond-true (eqb p.0 i) _ _ (eq-eqb p.0 i at)
  value_at-found from (p ∷ ps) h i (suc k) d lt at =
      cond-false (eqb p.0 i) _ _ (ne_eqb p.0 i (λ e. omega (arith, row_from (p.0 + 1) ps h.2 k d (omega arith)))) ∙ value_at-found (p.0 + 1) ps h.2 i k d (omega arith) at

-- rows from a number on are rows from a lower one on
pub IsRising-weaker : {V : Type 0} (len from lower : ℕ) (ps : List (ℕ × V)) → lower ≤ from → IsRising len from ps → IsRising len lower ps
IsRising-weaker len from lower [] le h = tt
IsRising-weaker len from lower (p ∷ ps) le h = (omega (arith, h.0), h.1, h.2)

module _ {V : Type 0} where
  -- a row that no pair has
  pub value_at-absent : (ps : List (ℕ × V)) (i : ℕ) → ((j : ℕ) (d : ℕ × V) → j < length ps → (get_or ps j d).0 ≢ i) → value_at ps i ≡ None
  value_at-absent [] i other = refl
  value_at-absent (p ∷ ps) i other =
      cond-false (eqb p.0 i) _ _ (ne_eqb p.0 i (other 0 p (omega arith))) ∙ value_at-absent ps i (λ j d lt. other (suc j) d (omega arith))

  pub value_at-gap : (ps : List (ℕ × V)) (i k : ℕ) → IsGapFor ps i k → value_at ps i ≡ None
  value_at-gap ps i k gap =
      value_at-absent ps i (λ j d lt e. ⊎_elim (λ before. omega (arith, gap.lower_before j d before)) (λ after. omega (arith, gap.higher_after j d after lt)) (cases_lt j k))

  gap_tail : (p : ℕ × V) (ps : List (ℕ × V)) (i k : ℕ) → IsGapFor (p ∷ ps) i (suc k) → IsGapFor ps i k
  gap_tail p ps i k gap = record {
    in_range = omega (arith, gap.in_range);
    lower_before = λ j d lt. gap.lower_before (suc j) d (omega arith);
    higher_after = λ j d le lt. gap.higher_after (suc j) d (omega arith) (omega arith);
  }

  -- a pair more at its gap
  pub insert_pair-gap : (ps : List (ℕ × V)) (i k : ℕ) (v : V) → IsGapFor ps i k → insert_pair i v ps ≡ insert ps k (i, v)
  insert_pair-gap [] i zero v gap = refl
  insert_pair-gap [] i (suc k) v gap = absurd (omega (arith, gap.in_range))
  insert_pair-gap (p ∷ ps) i zero v gap = cond-true (ltb i p.0) _ _ (lt-ltb i p.0 (gap.higher_after 0 p (omega arith) (omega arith)))
  insert_pair-gap (p ∷ ps) i (suc k) v gap =
      cond-false (ltb i p.0) _ _ (le-ltb i p.0 (omega (arith, gap.lower_before 0 p (omega arith)))) ∙ ap (λ qs. p ∷ qs) (insert_pair-gap ps i k v (gap_tail p ps i k gap))

  -- a row without a value is no row of the first pair, and none of the others
  absent_head : (p : ℕ × V) (ps : List (ℕ × V)) (i : ℕ) → value_at (p ∷ ps) i ≡ None → p.0 ≢ i
  absent_head p ps i none e =
      let some : value_at (p ∷ ps) i ≡ Some p.1 = cond-true (eqb p.0 i) _ _ (eq-eqb p.0 i e) in
      cc

  absent_tail : (p : ℕ × V) (ps : List (ℕ × V)) (i : ℕ) → value_at (p ∷ ps) i ≡ None → value_at ps i ≡ None
  absent_tail p ps i none = sym (cond-false (eqb p.0 i) _ _ (ne_eqb p.0 i (absent_head p ps i none))) ∙ none

  pub IsRising-insert_pair : (len from : ℕ) (ps : List (ℕ × V)) (i : ℕ) (v : V) → IsRising len from ps → from ≤ i → i < len → value_at ps i ≡ None → IsRising len from (insert_pair i v ps)
  IsRising-insert_pair len from [] i v h le lt none = (le, lt, tt)
  IsRising-insert_pair len from (p ∷ ps) i v h le lt none =
      let to = λ (qs : List (ℕ × V)). IsRising len from qs in
      ⊎_elim
      (λ before. subst to (sym (cond-true (ltb i p.0) _ _ (lt-ltb i p.0 before))) (le, lt, (omega arith, h.1, h.2)))
      (λ after.
      let other = absent_head p ps i none in
      subst to (sym (cond-false (ltb i p.0) _ _ (le-ltb i p.0 after))) (h.0, h.1, IsRising-insert_pair len (p.0 + 1) ps i v h.2 (omega arith) lt (absent_tail p ps i none)))
      (cases_lt i p.0)

  -- a pair less
  pub remove_row-found : (len from : ℕ) (ps : List (ℕ × V)) → IsRising len from ps → (i k : ℕ) (d : ℕ × V) → k < length ps → (get_or ps k d).0 ≡ i → remove_row i ps ≡ remove ps k
  remove_row-found len from [] h i k d lt at = absurd (omega arith)
  remove_row-found len from (p ∷ ps) h i zero d lt at = cond-true (eqb p.0 i) _ _ (eq-eqb p.0 i at)
  remove_row-found len from (p ∷ ps) h i (suc k) d lt at =
      cond-false (eqb p.0 i) _ _ (ne_eqb p.0 i (λ e. omega (arith, row_from len (p.0 + 1) ps h.2 k d (omega arith)))) ∙ ap (λ qs. p ∷ qs) (remove_row-found len (p.0 + 1) ps h.2 i k d (omega arith) at)

  pub remove_row-absent : (ps : List (ℕ × V)) (i : ℕ) → value_at ps i ≡ None → remove_row i ps ≡ ps
  remove_row-absent [] i none = refl
  remove_row-absent (p ∷ ps) i none =
      cond-false (eqb p.0 i) _ _ (ne_eqb p.0 i (absent_head p ps i none)) ∙ ap (λ qs. p ∷ qs) (remove_row-absent ps i (absent_tail p ps i none))

  pub IsRising-remove_row : (len from : ℕ) (ps : List (ℕ × V)) (i : ℕ) → IsRising len from ps → IsRising len from (remove_row i ps)
  IsRising-remove_row len from [] i h = tt
  IsRising-remove_row len from (p ∷ ps) i h =
      let to = λ (qs : List (ℕ × V)). IsRising len from qs in
      ⊎_elim
      (λ same. subst to (sym (cond-true (eqb p.0 i) _ _ (eq-eqb p.0 i same))) (IsRising-weaker len (p.0 + 1) from ps (omega (arith, h.0)) h.2))
      (λ other. subst to (sym (cond-false (eqb p.0 i) _ _ (ne_eqb p.0 i other))) (h.0, h.1, IsRising-remove_row len (p.0 + 1) ps i h.2))
      (cases_eq p.0 i)

-- a search by row ends at the row, or at the gap for it
module _ {V : Type 0} (len from : ℕ) (ps : List (ℕ × V)) (rising : IsRising len from ps) (i : ℕ) where
  comparisons_rise : IsNonDecreasingBy (λ p. ordering_index (nat_cmp p.0 i)) ps
  comparisons_rise j k d le lt =
      let rows_rise : (get_or ps j d).0 ≤ (get_or ps k d).0 =
      ⊎_elim (λ (e : j ≡ k). rw e (omega arith)) (λ (e : j ≢ k). omega (arith, row_rises len from ps rising j k d (omega arith) lt)) (cases_eq j k) in
      grind (arith, nat_tests)

  pub searched : (r : Result ℕ ℕ) → IsSearchInRange r (length ps) → IsBinarySearchResult (λ p. nat_cmp p.0 i) ps r → record { found : IfOk r (IsAt ps i); absent : IfErr r (IsGapFor ps i) }
  searched (Ok k) in_range equal = record { found = record { in_range = in_range; has_row = λ d. ranked _ i _ (sym (equal d)) }; absent = tt }
  searched (Err k) in_range parted = record {
    found = tt;
    absent = record {
      in_range = in_range;
      lower_before = λ j d lt. ranked _ i _ (sym ((parted comparisons_rise).0 j d (omega arith) lt));
      higher_after = λ j d le lt. ranked _ i _ (sym ((parted comparisons_rise).1 j d le lt));
    };
  }

-- What a sorted list of pairs says of rows out of range and of rows that stand twice.
use Rattle.std.proofs.Common.{◌≡◌, ◌≢◌, ℕ, suc, ◌+◌, ◌<◌, ◌≤◌, List, [], ◌∷◌, length, get_or, drop, cond, eqb, ltb, Some, None, refl, sym, ap, subst, zero-add, ◌∙◌, ⊎_elim, arith}
use Rattle.std.specs.List.{All}
use Rattle.std.specs.List.Sorted.{IsNonDecreasingBy, IsPermutation}
use Rattle.std.proofs.lemmas.List.{at_drop_more, drop_more}
use Rattle.std.proofs.lemmas.List.Elements.{All-nil, All-cons}
use Rattle.std.proofs.lemmas.List.Sorted.{All-permutation, sum_by-IsPermutation}
use Rattle.std.proofs.lemmas.List.Sums.{sum_by-cons}
use Rattle.std.proofs.lemmas.Bool.{cases_eq, cases_lt, eq-eqb, ne_eqb, lt-ltb, le-ltb, cond-true, cond-false}
use Rattle.sparse_cols.specs.Sparse.{IsRising}
use Rattle.sparse_cols.specs.Fault.{first_beyond, first_repeated, row_count, IsLeastRepeated}

module _ {V : Type 0} where
  -- a row out of range, one pair on
  pub first_beyond-below : (len : ℕ) (p : ℕ × V) (ps : List (ℕ × V)) → p.0 < len → first_beyond len (p ∷ ps) ≡ first_beyond len ps
  first_beyond-below len p ps lt = cond-true (ltb p.0 len) _ _ (lt-ltb p.0 len lt)

  pub first_beyond-here : (len : ℕ) (p : ℕ × V) (ps : List (ℕ × V)) → len ≤ p.0 → first_beyond len (p ∷ ps) ≡ Some p.0
  first_beyond-here len p ps le = cond-false (ltb p.0 len) _ _ (le-ltb p.0 len le)

  all_below : (len : ℕ) (ps : List (ℕ × V)) → first_beyond len ps ≡ None → All (λ p. p.0 < len) ps
  all_below len [] none = All-nil (λ p. p.0 < len)
  all_below len (p ∷ ps) none =
      ⊎_elim
      (λ lt. All-cons (λ q. q.0 < len) p ps lt (all_below len ps (sym (first_beyond-below len p ps lt) ∙ none)))
      (λ le. let some = first_beyond-here len p ps le in absurd cc)
      (cases_lt p.0 len)

  -- neighbours
  pub first_repeated-short : (ps : List (ℕ × V)) → length ps ≤ 1 → first_repeated ps ≡ None
  first_repeated-short [] le = refl
  first_repeated-short (p ∷ []) le = refl
  first_repeated-short (p ∷ (q ∷ ps)) le = absurd (omega arith)

  neighbours : (ps : List (ℕ × V)) (j : ℕ) (d : ℕ × V) → j + 1 < length ps → first_repeated (drop j ps) ≡ cond (eqb (get_or ps j d).0 (get_or ps (j + 1) d).0)
      (Some (get_or ps j d).0) (first_repeated (drop (j + 1) ps))
  neighbours ps j d lt =
      let here = at_drop_more first_repeated ps j d (omega arith) in
      let next = drop_more ps (j + 1) d lt in
      here ∙ subst (λ (qs : List (ℕ × V)). first_repeated (get_or ps j d ∷ qs) ≡ cond (eqb (get_or ps j d).0 (get_or ps (j + 1) d).0) (Some (get_or ps j d).0) (first_repeated qs)) (sym next) refl

  pub neighbours_same : (ps : List (ℕ × V)) (j k : ℕ) (d : ℕ × V) → j + 1 ≡ k → k < length ps → (get_or ps j d).0 ≡ (get_or ps k d).0 → first_repeated (drop j ps) ≡ Some (get_or ps k d).0
  neighbours_same ps j k d at lt e =
      let P = λ (n : ℕ). n < length ps → (get_or ps j d).0 ≡ (get_or ps n d).0 → first_repeated (drop j ps) ≡ Some (get_or ps n d).0 in
      subst P at (λ within same. neighbours ps j d within ∙ cond-true (eqb (get_or ps j d).0 (get_or ps (j + 1) d).0) _ _ (eq-eqb _ _ same) ∙ ap (λ (n : ℕ). Some n) same) lt e

  pub neighbours_differ : (ps : List (ℕ × V)) (j k : ℕ) (d : ℕ × V) → j + 1 ≡ k → k < length ps → (get_or ps j d).0 ≢ (get_or ps k d).0 → first_repeated (drop j ps) ≡ first_repeated (drop k ps)
  neighbours_differ ps j k d at lt ne =
      let P = λ (n : ℕ). n < length ps → (get_or ps j d).0 ≢ (get_or ps n d).0 → first_repeated (drop j ps) ≡ first_repeated (drop n ps) in
      subst P at (λ within other. neighbours ps j d within ∙ cond-false (eqb (get_or ps j d).0 (get_or ps (j + 1) d).0) _ _ (ne_eqb _ _ other)) lt ne

  -- sorted pairs
  sorted_tail : (p : ℕ × V) (ps : List (ℕ × V)) → IsNonDecreasingBy (λ q. q.0) (p ∷ ps) → IsNonDecreasingBy (λ q. q.0) ps
  sorted_tail p ps up i j d le lt = up (suc i) (suc j) d (omega arith) (omega arith)

  sorted_next : (p q : ℕ × V) (ps : List (ℕ × V)) → IsNonDecreasingBy (λ r. r.0) (p ∷ (q ∷ ps)) → p.0 ≤ q.0
  sorted_next p q ps up = up 0 1 p (omega arith) (omega arith)

  row_count-cons : (i : ℕ) (p : ℕ × V) (ps : List (ℕ × V)) → row_count i (p ∷ ps) ≡ cond (eqb p.0 i) 1 0 + row_count i ps
  row_count-cons i p ps = sum_by-cons (λ (q : ℕ × V). cond (eqb q.0 i) 1 0) p ps

  row_count-here : (i : ℕ) (p : ℕ × V) (ps : List (ℕ × V)) → p.0 ≡ i → row_count i (p ∷ ps) ≡ 1 + row_count i ps
  row_count-here i p ps e = row_count-cons i p ps ∙ ap (λ (n : ℕ). n + row_count i ps) (cond-true (eqb p.0 i) 1 0 (eq-eqb p.0 i e))

  row_count-other : (i : ℕ) (p : ℕ × V) (ps : List (ℕ × V)) → p.0 ≢ i → row_count i (p ∷ ps) ≡ row_count i ps
  row_count-other i p ps ne = row_count-cons i p ps ∙ ap (λ (n : ℕ). n + row_count i ps) (cond-false (eqb p.0 i) 1 0 (ne_eqb p.0 i ne)) ∙ zero-add (row_count i ps)

  -- a row below the first of sorted pairs stands nowhere
  row_count-low : (ps : List (ℕ × V)) (j : ℕ) → ((k : ℕ) (d : ℕ × V) → k < length ps → j < (get_or ps k d).0) → row_count j ps ≡ 0
  row_count-low [] j low = refl
  row_count-low (p ∷ ps) j low =
      row_count-other j p ps (λ e. omega (arith, low 0 p (omega arith))) ∙ row_count-low ps j (λ k d lt. low (suc k) d (omega arith))

  low_before : (q : ℕ × V) (ps : List (ℕ × V)) (j : ℕ) → IsNonDecreasingBy (λ r. r.0) (q ∷ ps) → j < q.0 → row_count j (q ∷ ps) ≡ 0
  low_before q ps j up lt = row_count-low (q ∷ ps) j (λ k d within. omega (arith, up 0 k d (omega arith) within))

  sorted_repeat : (ps : List (ℕ × V)) (i : ℕ) → IsNonDecreasingBy (λ p. p.0) ps → first_repeated ps ≡ Some i → IsLeastRepeated ps i
  sorted_repeat [] i up some = absurd cc
  sorted_repeat (p ∷ []) i up some = absurd cc
  sorted_repeat (p ∷ (q ∷ ps)) i up some =
      let le = sorted_next p q ps up in
      ⊎_elim
      (λ (same : p.0 ≡ q.0).
      let here : p.0 ≡ i = (let e = sym (cond-true (eqb p.0 q.0) _ _ (eq-eqb p.0 q.0 same)) ∙ some in cc) in
      record {
        twice = omega (arith, row_count-here i p (q ∷ ps) here, row_count-here i q ps (sym same ∙ here));
        least = λ j lt. omega (arith, low_before p (q ∷ ps) j up (omega arith));
      })
      (λ (other : p.0 ≢ q.0).
      let later = sorted_repeat (q ∷ ps) i (sorted_tail p (q ∷ ps) up) (sym (cond-false (eqb p.0 q.0) _ _ (ne_eqb p.0 q.0 other)) ∙ some) in
      record {
        twice = ⊎_elim (λ e. omega (arith, row_count-here i p (q ∷ ps) e, later.twice)) (λ ne. omega (arith, row_count-other i p (q ∷ ps) ne, later.twice)) (cases_eq p.0 i);
        least = λ j lt.
            ⊎_elim
            (λ (e : p.0 ≡ j). omega (arith, row_count-here j p (q ∷ ps) e, low_before q ps j (sorted_tail p (q ∷ ps) up) (omega arith)))
            (λ (ne : p.0 ≢ j). omega (arith, row_count-other j p (q ∷ ps) ne, later.least j lt))
            (cases_eq p.0 j);
      })
      (cases_eq p.0 q.0)

  sorted_rising : (len from : ℕ) (ps : List (ℕ × V)) → IsNonDecreasingBy (λ p. p.0) ps → All (λ p. p.0 < len) ps
      → ((d : ℕ × V) → 0 < length ps → from ≤ (get_or ps 0 d).0) → first_repeated ps ≡ None → IsRising len from ps
  sorted_rising len from [] up below low none = tt
  sorted_rising len from (p ∷ []) up below low none = (low p (omega arith), below 0 p (omega arith), tt)
  sorted_rising len from (p ∷ (q ∷ ps)) up below low none =
      let le = sorted_next p q ps up in
      ⊎_elim
      (λ (same : p.0 ≡ q.0). let some = cond-true (eqb p.0 q.0) (Some p.0) (first_repeated (q ∷ ps)) (eq-eqb p.0 q.0 same) in absurd cc)
      (λ (other : p.0 ≢ q.0). (
        low p (omega arith),
        below 0 p (omega arith),
        sorted_rising len (p.0 + 1) (q ∷ ps) (sorted_tail p (q ∷ ps) up) (λ k d lt. below (suc k) d (omega arith))
            (λ d lt. omega arith) (sym (cond-false (eqb p.0 q.0) _ _ (ne_eqb p.0 q.0 other)) ∙ none),
      ))
      (cases_eq p.0 q.0)

  -- what was sorted
  pub repeated : (xs ys : List (ℕ × V)) (i : ℕ) → IsPermutation xs ys → IsNonDecreasingBy (λ p. p.0) ys → first_repeated ys ≡ Some i → IsLeastRepeated xs i
  repeated xs ys i moved up some =
      let of_sorted = sorted_repeat ys i up some in
      let same = λ (j : ℕ). sum_by-IsPermutation (λ (p : ℕ × V). cond (eqb p.0 j) 1 0) xs ys moved in
      record { twice = omega (arith, same i, of_sorted.twice); least = λ j lt. omega (arith, same j, of_sorted.least j lt) }

  pub rising : (len : ℕ) (xs ys : List (ℕ × V)) → first_beyond len xs ≡ None → IsPermutation xs ys → IsNonDecreasingBy (λ p. p.0) ys → first_repeated ys ≡ None → IsRising len 0 ys
  rising len xs ys within moved up none =
      sorted_rising len 0 ys up (All-permutation (λ p. p.0 < len) xs ys moved (all_below len xs within)) (λ d lt. omega arith) none

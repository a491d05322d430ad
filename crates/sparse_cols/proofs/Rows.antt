-- Work rows: what a write, a column and an emptied list of rows make of them.
use Rattle.std.proofs.Common.{◌≡◌, ◌≢◌, ℕ, ◌+◌, ◌<◌, ◌≤◌, List, [], ◌∷◌, ◌++◌, length, get_or, set, drop, replicate, true, false, cond, eqb, count_by, is_some, Option, Some, None, refl, sym, ap, subst, ◌∙◌, ⊎_elim, arith}
use Rattle.std.specs.List.{All}
use Rattle.std.proofs.lemmas.List.{length-set, length-replicate, get_or-replicate, get_or-set_same, get_or-set_other, get_or_append_left, get_or_push, get_or_read, length_push, ext_get_or, at_drop_more}
use Rattle.std.proofs.lemmas.List.Elements.{All-push, All-nil}
use Rattle.std.proofs.lemmas.List.Folds.{sum_by-replicate}
use Rattle.std.proofs.lemmas.List.Sums.{sum_by-set, count_by-le-length}
use Rattle.std.proofs.lemmas.Bool.{cases_eq, eq-eqb, ne_eqb, cond-true, cond-false}
use Rattle.sparse_cols.specs.Sparse.{IsRising, value_at}
use Rattle.sparse_cols.specs.Work.{value_in, or_else, gathered_from, IsFilledAt}
use Rattle.sparse_cols.proofs.Pairs.{row_from, value_at-absent, IsRising-weaker}

module _ {V : Type 0} where
  -- one more row has a value
  count-set : (row : List (Option V)) (i : ℕ) (v : V) → i < length row → value_in row i ≡ None → count_by is_some (set row i (Some v)) ≡ count_by is_some row + 1
  count-set row i v lt none =
      let f : Option V → ℕ = λ x. cond (is_some x) 1 0 in
      let before : f (value_in row i) ≡ 0 = ap f none in
      omega (arith, sum_by-set f row i (Some v) None lt, before)

  pub room_left : (row : List (Option V)) (filled : List ℕ) (room i : ℕ) (v : V) → IsFilledAt row filled room → i < length row → value_in row i ≡ None → length filled < room
  room_left row filled room i v h lt none =
      omega (arith, h.counted, h.has_room, count-set row i v lt none, count_by-le-length is_some (set row i (Some v)), length-set row i (Some v))

  pub IsFilledAt-more : (row : List (Option V)) (filled : List ℕ) (room i : ℕ) (v : V) → IsFilledAt row filled room → i < length row → value_in row i ≡ None
      → IsFilledAt (set row i (Some v)) (filled ++ i ∷ []) room
  IsFilledAt-more row filled room i v h lt none = record {
    in_range = subst (λ (n : ℕ). All (λ k. k < n) (filled ++ i ∷ [])) (sym (length-set row i (Some v))) (All-push (λ k. k < length row) filled i h.in_range lt);
    empty_elsewhere = λ j all.
        let elsewhere = λ (k d : ℕ) (within : k < length filled). subst (λ (n : ℕ). n ≢ j) (get_or_append_left filled (i ∷ []) d k within) (all k d (omega (arith, length_push filled i))) in
        let other : i ≢ j = subst (λ (n : ℕ). n ≢ j) (get_or_push filled i 0 (length filled) refl) (all (length filled) 0 (omega (arith, length_push filled i))) in
        get_or-set_other row i j (Some v) None (λ e. other (sym e)) ∙ h.empty_elsewhere j elsewhere;
    counted = count-set row i v lt none ∙ omega (arith, h.counted, length_push filled i);
    has_room = omega (arith, length-set row i (Some v), h.has_room);
  }

  -- another value at a row that has one
  pub IsFilledAt-again : (row : List (Option V)) (filled : List ℕ) (room i : ℕ) (u v : V) → IsFilledAt row filled room → i < length row
      → value_in row i ≡ Some u → IsFilledAt (set row i (Some v)) filled room
  IsFilledAt-again row filled room i u v h lt some =
      let f : Option V → ℕ = λ x. cond (is_some x) 1 0 in
      let before : f (value_in row i) ≡ 1 = ap f some in
      record {
        in_range = subst (λ (n : ℕ). All (λ k. k < n) filled) (sym (length-set row i (Some v))) h.in_range;
        empty_elsewhere = λ j all.
            let none = h.empty_elsewhere j all in
            let other : j ≢ i = λ e. (let here : value_in row i ≡ None = subst (λ (n : ℕ). value_in row n ≡ None) e none in cc) in
            get_or-set_other row i j (Some v) None other ∙ none;
        counted = omega (arith, sum_by-set f row i (Some v) None lt, before, h.counted);
        has_room = omega (arith, length-set row i (Some v), h.has_room);
      }

  -- what a read of row i says of it
  none_from : (x : Option V) → is_some x ≡ false → x ≡ None
  none_from None e = refl
  none_from (Some v) e = absurd cc

  some_from : (x : Option V) → is_some x ≡ true → (v : V) × (x ≡ Some v)
  some_from None e = absurd cc
  some_from (Some v) e = (v, refl)

  pub empty_read : (row : List (Option V)) (i : ℕ) (x : Option V) → i < length row → x ≡ get_or row i x → is_some x ≡ false → value_in row i ≡ None
  empty_read row i x lt at e = sym (get_or_read row i x lt at None) ∙ none_from x e

  pub IsFilledAt-written : (row : List (Option V)) (filled : List ℕ) (room i : ℕ) (x : Option V) (v : V) → IsFilledAt row filled room → i < length row
      → x ≡ get_or row i x → is_some x ≡ true → IsFilledAt (set row i (Some v)) filled room
  IsFilledAt-written row filled room i x v h lt at e =
      let there = some_from x e in
      IsFilledAt-again row filled room i there.0 v h lt (sym (get_or_read row i x lt at None) ∙ there.1)

  -- the last row of the list is emptied
  pub emptied : (row : List (Option V)) (filled rest : List ℕ) (i : ℕ) → filled ≡ rest ++ i ∷ [] → i < length row
      → ((j : ℕ) → All (λ k. k ≢ j) filled → value_in row j ≡ None) → (j : ℕ) → All (λ k. k ≢ j) rest → value_in (set row i None) j ≡ None
  emptied row filled rest i e lt empty j all =
      ⊎_elim
      (λ (same : j ≡ i). rw same (get_or-set_same row i None None lt))
      (λ (other : j ≢ i).
      get_or-set_other row i j None None other ∙ empty j (subst (λ (ks : List ℕ). All (λ k. k ≢ j) ks) (sym e) (All-push (λ k. k ≢ j) rest i all (λ back. other (sym back)))))
      (cases_eq j i)

  -- no row is left
  pub all_empty : (row : List (Option V)) (filled : List ℕ) → filled ≡ [] → ((j : ℕ) → All (λ k. k ≢ j) filled → value_in row j ≡ None) → row ≡ replicate (length row) None
  all_empty row filled e empty =
      let emptied = subst (λ (ks : List ℕ). (j : ℕ) → All (λ k. k ≢ j) ks → value_in row j ≡ None) e empty in
      ext_get_or None row (replicate (length row) None) (sym (length-replicate (length row) None)) (λ i lt. emptied i (All-nil (λ k. k ≢ i)) ∙ sym (get_or-replicate (length row) i None None lt))

  pub IsFilledAt-none : (row : List (Option V)) (filled rest : List ℕ) (room : ℕ) → filled ≡ [] → rest ≡ []
      → ((j : ℕ) → All (λ k. k ≢ j) filled → value_in row j ≡ None) → length row ≤ room → IsFilledAt row rest room
  IsFilledAt-none row filled rest room e none empty le =
      let f : Option V → ℕ = λ x. cond (is_some x) 1 0 in
      let uncounted : count_by is_some row ≡ 0 = ap (λ (r : List (Option V)). count_by is_some r) (all_empty row filled e empty) ∙ omega (arith, sum_by-replicate f (length row) None) in
      record {
        in_range = subst (λ (ks : List ℕ). All (λ k. k < length row) ks) (sym none) (All-nil (λ k. k < length row));
        empty_elsewhere = subst (λ (ks : List ℕ). (j : ℕ) → All (λ k. k ≢ j) ks → value_in row j ≡ None) (e ∙ sym none) empty;
        counted = uncounted ∙ ap (λ (ks : List ℕ). length ks) (sym none);
        has_room = le;
      }

  -- the column of a row
  pub IsRising-gathered : (len from : ℕ) (row : List (Option V)) → from + length row ≤ len → IsRising len from (gathered_from from row)
  IsRising-gathered len from [] le = tt
  IsRising-gathered len from (None ∷ row) le = IsRising-weaker len (from + 1) from (gathered_from (from + 1) row) (omega arith) (IsRising-gathered len (from + 1) row (omega arith))
  IsRising-gathered len from (Some v ∷ row) le = (omega arith, omega arith, IsRising-gathered len (from + 1) row (omega arith))

  -- a row after its column's pairs were stored, first to last
  abbrev pub scattered : List (ℕ × V) → List (Option V) → List (Option V)
  scattered [] row = row
  scattered (p ∷ ps) row = scattered ps (set row p.0 (Some p.1))

  pub length-scattered : (ps : List (ℕ × V)) (row : List (Option V)) → length (scattered ps row) ≡ length row
  length-scattered [] row = refl
  length-scattered (p ∷ ps) row = length-scattered ps (set row p.0 (Some p.1)) ∙ length-set row p.0 (Some p.1)

  pub scattered-next : (ps : List (ℕ × V)) (row next : List (Option V)) (k : ℕ) (p : ℕ × V) → k < length ps → get_or ps k p ≡ p → next ≡ set row p.0 (Some p.1)
      → scattered (drop (k + 1) ps) next ≡ scattered (drop k ps) row
  scattered-next ps row next k p lt at e =
      let step = at_drop_more (λ (qs : List (ℕ × V)). scattered qs row) ps k p lt in
      ap (λ (r : List (Option V)). scattered (drop (k + 1) ps) r) e ∙ sym (step ∙ ap (λ (q : ℕ × V). scattered (drop (k + 1) ps) (set row q.0 (Some q.1))) at)

  pub value_in-scattered : (from : ℕ) (ps : List (ℕ × V)) (row : List (Option V)) → IsRising (length row) from ps → (i : ℕ) → value_in (scattered ps row) i ≡ or_else (value_at ps i) (value_in row i)
  value_in-scattered from [] row h i = refl
  value_in-scattered from (p ∷ ps) row h i =
      let next = set row p.0 (Some p.1) in
      let rest = subst (λ (n : ℕ). IsRising n (p.0 + 1) ps) (sym (length-set row p.0 (Some p.1))) h.2 in
      value_in-scattered (p.0 + 1) ps next rest i ∙
      ⊎_elim
      (λ (same : p.0 ≡ i).
      let absent = value_at-absent ps i (λ j d lt e. omega (arith, row_from (length row) (p.0 + 1) ps h.2 j d lt)) in
      let here : value_in next i ≡ Some p.1 = subst (λ (n : ℕ). value_in next n ≡ Some p.1) same (get_or-set_same row p.0 (Some p.1) None h.1) in
      ap (λ (x : Option V). or_else x (value_in next i)) absent ∙ here ∙ ap (λ (x : Option V). or_else x (value_in row i)) (sym (cond-true (eqb p.0 i) (Some p.1) (value_at ps i) (eq-eqb p.0 i same))))
      (λ (other : p.0 ≢ i).
      ap (λ (x : Option V). or_else (value_at ps i) x) (get_or-set_other row p.0 i (Some p.1) None (λ e. other (sym e)))
      ∙ ap (λ (x : Option V). or_else x (value_in row i)) (sym (cond-false (eqb p.0 i) (Some p.1) (value_at ps i) (ne_eqb p.0 i other))))
      (cases_eq p.0 i)

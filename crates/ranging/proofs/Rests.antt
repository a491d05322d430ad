-- What the columns at rest leave of the right sides, as it is worked.
use Rattle.std.proofs.Common.{◌≡◌, ℕ, zero, suc, ◌+◌, ◌<◌, ◌≤◌, List, [], ◌∷◌, drop, length, map, set, eqb, ne_eqb, None, Some, refl, sym, ◌∙◌, ap, ap₂, subst, arith}
use Rattle.std.specs.List.{range_with_len}
use Rattle.std.proofs.lemmas.List.{at_drop_all, at_drop_more, length-map}
use Rattle.std.proofs.lemmas.List.FromFn.{get_or-range_with_len, length-range_with_len}
use Rattle.rational.specs.Lines.{subtract}
use Rattle.rational.specs.Rational.{ℚ, zero_ℚ, ◌+ℚ◌, ◌-ℚ◌, ◌*ℚ◌}
use Rattle.rational.specs.Sparse.{upto}
use Rattle.rational.specs.Sum.{at, sum_ℚ}
use Rattle.rational.specs.Worked.{Worked, bind, done, less, settle}
use Rattle.rational.proofs.AnswerLaws.{answer-bind, answer-done}
use Rattle.rational.proofs.RationalRing.{ring_ℚ}
use Rattle.rational.proofs.Ring.{◌≐◌, ◌⊙◌≗◌⟹◌, ◌⊕◌, ◌⊖◌, ◌⊗◌, 𝟘, 𝟙}
use Rattle.rational.proofs.Settling.{less_unless-in, settle-bind, settle-bind_none, settle-done}
use Rattle.rational.proofs.SumLaws.{sum-cong, sum-shift, sum-zero_terms}
use Rattle.rational.proofs.VectorLaws.{get-map-upto, length-map-upto, same_vectors}
use Rattle.sparse_cols.specs.Sparse.{IsRising, Sparse}
use Rattle.sparse_cols.specs.Work.{gathered, gathered_from}
use Rattle.sparse_cols.proofs.Rows.{IsRising-gathered}
use Rattle.lp_run.specs.Instance.{Instance, IsWellFormed, coefficient, column_count, column_kind, row_count}
use Rattle.lp_run.specs.Solution.{Values, basis_entry, right_left}
use Rattle.lp_run.specs.State.{State, rest}
use Rattle.bland_ratio.specs.Pricing.{kind_entries}
use Rattle.bland_ratio.proofs.Priced.{rising_entries}
use Rattle.factor_model.specs.Factors.{IsSolution}
use Rattle.factor_model.specs.Vectors.{entry, vector}
use Rattle.factor_model.proofs.LineLaws.{answer-subtract, entry-here, entry-there, length-subtract, other-other}
use Rattle.factor_run.proofs.Bases.{entries_are}
use Rattle.ranging.specs.Causes.{less_rests, rests_taken}

-- ── a column of one entry ──

module _ (w m i : ℕ) (e x : ℚ) (v : List ℚ) (below : i < m) where
  one_part : subtract m x v ((i, e) ∷ []) ≡ bind (less (at v i) e x) (λ item. done (set v i item))
  one_part = ap (λ (c : Worked ℚ). bind c (λ item. done (set v i item))) (less_unless-in (eqb i m) (at v i) e x (ne_eqb i m (λ h. omega (arith, below, h))))

  pub one_taken : (a : ℚ) → settle w (less (at v i) e x) ≡ Some a → settle w (subtract m x v ((i, e) ∷ [])) ≡ Some (set v i a)
  one_taken a h = ap (settle w) one_part ∙ settle-bind w (less (at v i) e x) (λ item. done (set v i item)) a h ∙ settle-done w (set v i a)

  pub one_refused : settle w (less (at v i) e x) ≡ None → settle w (subtract m x v ((i, e) ∷ [])) ≡ None
  one_refused h = ap (settle w) one_part ∙ settle-bind_none w (less (at v i) e x) (λ item. done (set v i item)) h

from_zero : (k : ℕ) → 0 + k ≡ k
from_zero k = omega arith

-- ── column after column ──

module _ (inst : Instance) (s : State) where
  abbrev pub one_rest : ℕ → List ℚ → Worked (List ℚ)
  one_rest j v = subtract (row_count inst) (rest inst s j) v (kind_entries inst (column_kind inst j))

  pub rests_more : (j : ℕ) (v : List ℚ) → j < column_count inst
      → less_rests inst s (drop j (upto (column_count inst))) v ≡ bind (one_rest j v) (λ left. less_rests inst s (drop (j + 1) (upto (column_count inst))) left)
  rests_more j v b =
      at_drop_more (λ js. less_rests inst s js v) (upto (column_count inst)) j 0 (subst (λ n. j < n) (sym (length-range_with_len 0 (column_count inst))) b)
      ∙ ap (λ k. bind (one_rest k v) (λ left. less_rests inst s (drop (j + 1) (upto (column_count inst))) left)) (get_or-range_with_len 0 (column_count inst) j 0 b ∙ from_zero j)

  pub rests_end : (j : ℕ) (v : List ℚ) → column_count inst ≤ j → less_rests inst s (drop j (upto (column_count inst))) v ≡ done v
  rests_end j v all = at_drop_all (λ js. less_rests inst s js v) (upto (column_count inst)) j (subst (λ n. n ≤ j) (sym (length-range_with_len 0 (column_count inst))) all)

  -- ── what it comes to ──

  pub rests_length : (js : List ℕ) (v : List ℚ) → length (less_rests inst s js v).answer ≡ length v
  rests_length [] v = ap length (answer-done v)
  rests_length (j ∷ js) v =
      ap length (answer-bind (one_rest j v) (less_rests inst s js)) ∙ rests_length js (one_rest j v).answer
      ∙ length-subtract (row_count inst) (rest inst s j) v (kind_entries inst (column_kind inst j))

  module _ (formed : IsWellFormed inst) (i : ℕ) (below : i < row_count inst) where
    abbrev share : ℕ → ℚ
    share j = rest inst s j *ℚ coefficient inst i j

    one_left : (j : ℕ) (v : List ℚ) → j < column_count inst → length v ≡ row_count inst → at (one_rest j v).answer i ≡ at v i -ℚ share j
    one_left j v b long =
        answer-subtract 0 (row_count inst) (rest inst s j) v (kind_entries inst (column_kind inst j))
        (subst (λ n. IsRising n 0 (kind_entries inst (column_kind inst j))) (sym long) (rising_entries inst formed j b)) i
        ∙ ap (λ e. at v i -ℚ e *ℚ rest inst s j) (other-other (row_count inst) (kind_entries inst (column_kind inst j)) i (λ h. omega (arith, below, h)) ∙ entries_are inst j i)
        ∙ ring_ℚ 3 (λ a e x. a ⊖ e ⊗ x ≐ a ⊖ x ⊗ e) tt (at v i) (coefficient inst i j) (rest inst s j)

    left_from : (n from : ℕ) (v : List ℚ) → from + n ≤ column_count inst → length v ≡ row_count inst
        → at (less_rests inst s (range_with_len from n) v).answer i ≡ at v i -ℚ sum_ℚ n (λ k. share (from + k))
    left_from zero from v all long =
        ap (λ u. at u i) (answer-done v)
        ∙ ring_ℚ 2 (λ a z. 𝟙 ⊙ z ≗ 𝟘 ⟹ a ≐ a ⊖ z) tt (at v i) (sum_ℚ 0 (λ k. share (from + k))) (sum-zero_terms (λ k. share (from + k)))
    left_from (suc n) from v all long =
        let next = (one_rest from v).answer in
        let rest_sum = sum_ℚ n (λ k. share (from + 1 + k)) in
        let shifted : sum_ℚ n (λ k. share (from + suc k)) ≡ rest_sum = sum-cong n _ _ (λ k b. ap share (moved from k)) in
        ap (λ u. at u i) (answer-bind (one_rest from v) (less_rests inst s (range_with_len (from + 1) n)))
        ∙ left_from n (from + 1) next (omega arith) (length-subtract (row_count inst) (rest inst s from) v (kind_entries inst (column_kind inst from)) ∙ long)
        ∙ ap (λ a. a -ℚ rest_sum) (one_left from v (omega arith) long)
        ∙ ring_ℚ 3 (λ a f s. (a ⊖ f) ⊖ s ≐ a ⊖ (f ⊕ s)) tt (at v i) (share from) rest_sum
        ∙ ap (λ z. at v i -ℚ z) (sym (sum-shift n (λ k. share (from + k)) ∙ ap₂ ◌+ℚ◌ (ap share (same from)) shifted))
      where
        moved : (from k : ℕ) → from + suc k ≡ from + 1 + k
        moved from k = omega arith

        same : (from : ℕ) → from + 0 ≡ from
        same from = omega arith

    pub left_is : at (rests_taken inst s).answer i ≡ right_left inst s i
    left_is =
        left_from (column_count inst) 0 inst.right (omega arith) refl
        ∙ ap (λ z. at inst.right i -ℚ z) (sum-cong (column_count inst) _ _ (λ k b. ap share (from_zero k)))

-- ── the basic values that it gives ──

-- no entry stands before the first row
entry_before : (from : ℕ) (v : List ℚ) (j : ℕ) → j < from → entry (gathered_from from (map Some v)) j ≡ zero_ℚ
entry_before from [] j b = refl
entry_before from (x ∷ v) j b = entry-there from j x (gathered_from (from + 1) (map Some v)) (λ e. omega (arith, b, e)) ∙ entry_before (from + 1) v j (omega (arith, b))

-- a column that stores each item of a vector has it as its entry
stored_entry : (from : ℕ) (v : List ℚ) (k j : ℕ) → from + k ≡ j → entry (gathered_from from (map Some v)) j ≡ at v k
stored_entry from [] k j e = refl
stored_entry from (x ∷ v) zero j e =
    ap (λ i. entry ((from, x) ∷ gathered_from (from + 1) (map Some v)) i) (sym e ∙ more_zero from) ∙ entry-here from x (gathered_from (from + 1) (map Some v))
  where
    more_zero : (n : ℕ) → n + 0 ≡ n
    more_zero n = omega arith
stored_entry from (x ∷ v) (suc k) j e =
    entry-there from j x (gathered_from (from + 1) (map Some v)) (λ h. omega (arith, e, h)) ∙ stored_entry (from + 1) v k j (omega (arith, e))

module _ (inst : Instance) (s : State) (column : Sparse ℚ) (is : column ≡ gathered (map Some (rests_taken inst s).answer)) where
  left_length : length (rests_taken inst s).answer ≡ row_count inst
  left_length = rests_length inst s (upto (column_count inst)) inst.right

  -- the column has the numbers that are left
  entry_left : (i : ℕ) → entry column.pairs i ≡ at (rests_taken inst s).answer i
  entry_left i = ap (λ (c : Sparse ℚ). entry c.pairs i) is ∙ stored_entry 0 (rests_taken inst s).answer i i (from_zero i)

  pub left_rising : (n : ℕ) → n ≡ row_count inst → IsRising n 0 column.pairs
  left_rising n size =
      subst (λ (c : Sparse ℚ). IsRising n 0 c.pairs) (sym is)
      (IsRising-gathered n 0 (map Some (rests_taken inst s).answer) (omega (arith, length-map (rests_taken inst s).answer Some, left_length, size)))

  pub left_vector : (n : ℕ) → n ≡ row_count inst → vector n (entry column.pairs) ≡ (rests_taken inst s).answer
  left_vector n size =
      same_vectors (vector n (entry column.pairs)) (rests_taken inst s).answer n (length-map-upto (entry column.pairs) n) (left_length ∙ sym size)
      (λ i b. get-map-upto (entry column.pairs) zero_ℚ n i b ∙ entry_left i)

  pub left_values : IsWellFormed inst → (x : List ℚ) → length x ≡ row_count inst → IsSolution (row_count inst) (basis_entry inst s) (entry column.pairs) x → Values inst s x
  left_values formed x each h = record { one_each = each; solves = λ i b. h i b ∙ entry_left i ∙ left_is inst s formed i b }

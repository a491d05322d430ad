-- An elimination on the way: what its matrix, its operations and its pivots are, and that a pivot more keeps it.
use Rattle.std.proofs.Common.{◌≡◌, ◌≢◌, ℕ, zero, suc, ◌+◌, ◌*◌, ◌-◌, pos, ◌<◌, ◌≤◌, List, [], ◌∷◌, ◌++◌, length, map, ◌⊎◌, inl, inr, ⊎_elim, refl, sym, ◌∙◌, ap, ap₂, subst, arith}
use Rattle.std.specs.List.{AllByRecursion, range_with_len}
use Rattle.std.specs.List.Sorted.{IsPermutation}
use Rattle.std.proofs.lemmas.Bool.{cases_eq}
use Rattle.std.proofs.lemmas.List.{length-append, map-append}
use Rattle.std.proofs.lemmas.List.FromFn.{length-range_with_len}
use Rattle.std.proofs.lemmas.List.Sorted.{IsPermutation-refl, IsPermutation-trans, IsPermutation-to_front, IsPermutation-pop_more, length_permutation}
use Rattle.std.proofs.lemmas.List.Sums.{sum_by-append}
use Rattle.rational.specs.Rational.{ℚ, zero_ℚ, ◌-ℚ◌, ◌*ℚ◌, ◌/ℚ◌}
use Rattle.rational.specs.Sum.{at}
use Rattle.rational.specs.Worked.{done}
use Rattle.rational.proofs.AnswerLaws.{answer-bind, answer-done}
use Rattle.rational.proofs.FieldLaws.{/ℚ-*ℚ}
use Rattle.rational.proofs.RationalRing.{ring_ℚ}
use Rattle.rational.proofs.Ring.{◌≐◌, ◌⊙◌≗◌⟹◌, ◌⊕◌, ◌⊖◌, ◌⊗◌, 𝟘, 𝟙, literal, ring_ℤ, of_pos}
use Rattle.rational.proofs.VectorLaws.{get-map-upto, length-map-upto}
use Rattle.sparse_cols.specs.Sparse.{IsRising}
use Rattle.factor_model.specs.declared.Op.{Op}
use Rattle.factor_model.specs.declared.Op.TheVariants.{Column, Row}
use Rattle.factor_model.specs.Vectors.{other_entry, matrix_column}
use Rattle.factor_model.specs.Eta.{operate, apply, IsOp, entries, stored}
use Rattle.factor_model.specs.Upper.{In, Pairwise}
use Rattle.factor_model.specs.Represents.{made}
use Rattle.factor_model.specs.Factoring.{Elimination, Eliminated, eliminate, others, with_pivot, pivoted, start}
use Rattle.factor_model.proofs.LineLaws.{answer-subtract, other-skip, other-other}
use Rattle.factor_model.proofs.EtaLaws.{answer-apply, apply-append, length-apply}
use Rattle.factor_model.proofs.Orders.{in_append, in_right, in_whole, whole_below}
use Rattle.factor_model.proofs.EditLaws.{in_others, others_in, moved-permutes, Pairwise-map, Pairwise-others}
use Rattle.factor_model.proofs.PivotLaws.{IsSwept, taken, taken-length, taken-rising, taken-without, taken-within, sweep-others, sweep-taken, sweep-row}

-- ---- all items of a list

module _ {A : Type 0} where
  pub all_push : (P : A → Type 0) (xs : List A) (x : A) → AllByRecursion P xs → P x → AllByRecursion P (xs ++ x ∷ [])
  all_push P [] x all one = (one, tt)
  all_push P (y ∷ xs) x all one = (all.0, all_push P xs x all.1 one)

  pub all_with : (P Q R : A → Type 0) → ((x : A) → P x → Q x → R x) → (xs : List A) → AllByRecursion P xs → AllByRecursion Q xs → AllByRecursion R xs
  all_with P Q R h [] p q = tt
  all_with P Q R h (x ∷ xs) p q = (h x p.0 q.0, all_with P Q R h xs p.1 q.1)

  pub all_map : (P R : A → Type 0) → ((x : A) → P x → R x) → (xs : List A) → AllByRecursion P xs → AllByRecursion R xs
  all_map P R h xs p = all_with P P R (λ x held held'. h x held) xs p p

-- ---- lists of numbers

pub in_or_out : (x : ℕ) (xs : List ℕ) → In x xs ⊎ (¬ In x xs)
in_or_out x [] = inr (λ held. held)
in_or_out x (y ∷ ys) =
    ⊎_elim (λ (e : x ≡ y). inl (inl e))
    (λ (ne : x ≢ y).
    ⊎_elim (λ (held : In x ys). inl (inr held)) (λ (out : ¬ In x ys). inr (λ held. ⊎_elim ne out held)) (in_or_out x ys))
    (cases_eq x y)

pub range_from : (a n y : ℕ) → In y (range_with_len a n) → a ≤ y
range_from a zero y held = absurd held
range_from a (suc n) y (inl here) = omega arith
range_from a (suc n) y (inr later) = omega (arith, range_from (a + 1) n y later)

range_rises : (a n : ℕ) → Pairwise ◌<◌ (range_with_len a n)
range_rises a zero = tt
range_rises a (suc n) = (λ y held. omega (arith, range_from (a + 1) n y held), range_rises (a + 1) n)

pub apart_of : (xs : List ℕ) → Pairwise ◌<◌ xs → Pairwise ◌≢◌ xs
apart_of xs rise = Pairwise-map ◌<◌ ◌≢◌ xs (λ x y held held' lt e. omega arith) rise

-- a list is one of its items and the others
module _ (x : ℕ) (xs : List ℕ) (rise : Pairwise ◌<◌ xs) (held : In x xs) where
  pub others-permutes : IsPermutation xs (x ∷ others x xs)
  others-permutes =
      IsPermutation-trans xs (others x xs ++ x ∷ []) (x ∷ others x xs) (moved-permutes x xs held (apart_of xs rise)) (IsPermutation-to_front (others x xs) x)

  pub others-length : suc (length (others x xs)) ≡ length xs
  others-length = omega (arith, length_permutation xs (x ∷ others x xs) others-permutes)

-- ---- pivots in order

-- the rows of pivots, and their positions
abbrev pub rows_done : List (ℕ × ℕ) → List ℕ
rows_done pivots = map (λ pivot. pivot.0) pivots

abbrev pub positions_done : List (ℕ × ℕ) → List ℕ
positions_done pivots = map (λ pivot. pivot.1) pivots

-- a later pivot stands in another row and position, and its row has no entry in the position of the earlier
pub record Follows (a : ℕ → ℕ → ℚ) (first next : ℕ × ℕ) : Type 0 where
  pub row : next.0 ≢ first.0
  pub position : next.1 ≢ first.1
  pub none : a next.0 first.1 ≡ zero_ℚ

-- no pivot is 0, and each later one follows each earlier
abbrev pub IsStaircase : (ℕ → ℕ → ℚ) → List (ℕ × ℕ) → Type 0
IsStaircase a [] = Unit {0}
IsStaircase a (pivot ∷ pivots) = (a pivot.0 pivot.1 ≢ zero_ℚ) × AllByRecursion (Follows a pivot) pivots × IsStaircase a pivots

staircase-push : (a : ℕ → ℕ → ℚ) (pivots : List (ℕ × ℕ)) (new : ℕ × ℕ) → IsStaircase a pivots → AllByRecursion (λ pivot. Follows a pivot new) pivots → a new.0 new.1 ≢ zero_ℚ
    → IsStaircase a (pivots ++ new ∷ [])
staircase-push a [] new stairs follows nonzero = (nonzero, tt, tt)
staircase-push a (pivot ∷ pivots) new stairs follows nonzero = (
  stairs.0,
  all_push (Follows a pivot) pivots new stairs.1 follows.0,
  staircase-push a pivots new stairs.2 follows.1 nonzero,
)

-- b has the rows of the pivots as they are in a
staircase-kept : (a b : ℕ → ℕ → ℚ) (pivots : List (ℕ × ℕ)) → AllByRecursion (λ pivot. (q : ℕ) → b pivot.0 q ≡ a pivot.0 q) pivots → IsStaircase a pivots → IsStaircase b pivots
staircase-kept a b [] same stairs = tt
staircase-kept a b (pivot ∷ pivots) same stairs = (
  λ none. stairs.0 (sym (same.0 pivot.1) ∙ none),
  all_with (λ (next : ℕ × ℕ). (q : ℕ) → b next.0 q ≡ a next.0 q) (Follows a pivot) (Follows b pivot)
      (λ next kept follows. record { row = follows.row; position = follows.position; none = kept pivot.1 ∙ follows.none })
      pivots same.1 stairs.1,
  staircase-kept a b pivots same.1 stairs.2,
)

-- what stays true of a pivot: it stands apart from the rows and positions left, and none of these rows has an entry in its position
pub record IsDone (a : ℕ → ℕ → ℚ) (rows positions : List ℕ) (pivot : ℕ × ℕ) : Type 0 where
  pub row : (i : ℕ) → In i rows → i ≢ pivot.0
  pub none : (i : ℕ) → In i rows → a i pivot.1 ≡ zero_ℚ
  pub position : (p : ℕ) → In p positions → p ≢ pivot.1

-- a column operation of another row
abbrev pub IsElsewhere : ℕ → Op → Type 0
IsElsewhere i (Column p k) = p ≢ i
IsElsewhere i (Row p k) = ⊥

-- ---- an elimination on the way

-- it has come so far from the matrix b of n rows
pub record IsReached (n : ℕ) (b : ℕ → ℕ → ℚ) (e : Elimination) : Type 0 where
  pub matrix_made : (i p : ℕ) → i < n → p < n → e.matrix i p ≡ made n e.ops b i p
  pub within : AllByRecursion (IsOp n) e.ops
  pub elsewhere : (i : ℕ) → In i e.rows → AllByRecursion (IsElsewhere i) e.ops
  pub rows_rise : Pairwise ◌<◌ e.rows
  pub positions_rise : Pairwise ◌<◌ e.positions
  pub rows_split : IsPermutation (range_with_len 0 n) (rows_done e.pivots ++ e.rows)
  pub positions_split : IsPermutation (range_with_len 0 n) (positions_done e.pivots ++ e.positions)
  pub stairs : IsStaircase e.matrix e.pivots
  pub left : AllByRecursion (IsDone e.matrix e.rows e.positions) e.pivots
  pub count : length e.ops ≡ length e.pivots
  pub few : 2 * stored e.ops + length e.rows * (length e.rows - 1) ≤ n * (n - 1)

pub start-reached : (n : ℕ) (b : ℕ → ℕ → ℚ) → IsReached n b (start n b)
start-reached n b = record {
  matrix_made = λ i p lt below. sym (ap (λ v. at v i) (answer-done (matrix_column n b p)) ∙ get-map-upto (λ j. b j p) zero_ℚ n i lt);
  within = tt;
  elsewhere = λ i held. tt;
  rows_rise = range_rises 0 n;
  positions_rise = range_rises 0 n;
  rows_split = IsPermutation-refl (range_with_len 0 n);
  positions_split = IsPermutation-refl (range_with_len 0 n);
  stairs = tt;
  left = tt;
  count = refl;
  few = subst (λ m. 2 * 0 + m * (m - 1) ≤ n * (n - 1)) (sym (length-range_with_len 0 n)) (omega arith);
}

-- a position in which there is a pivot
pub done_in : (P : ℕ × ℕ → Type 0) (p : ℕ) (pivots : List (ℕ × ℕ)) → AllByRecursion P pivots → In p (positions_done pivots) → (pivot : ℕ × ℕ) × (p ≡ pivot.1) × P pivot
done_in P p [] all held = absurd held
done_in P p (pivot ∷ pivots) all (inl here) = (pivot, here, all.0)
done_in P p (pivot ∷ pivots) all (inr later) = done_in P p pivots all.1 later

one_row_less : (m : ℕ) → m * (m - 1) + 2 * m ≡ suc m * (suc m - 1)
one_row_less zero = refl
one_row_less (suc m) =
    let product : (m + 1) * m + 2 * (m + 1) ≡ (m + 2) * (m + 1) = of_pos (ring_ℤ 1 (λ x. (x ⊕ 𝟙) ⊗ x ⊕ literal (pos 2) ⊗ (x ⊕ 𝟙) ≐ (x ⊕ literal (pos 2)) ⊗ (x ⊕ 𝟙)) tt (pos m)) in
    let one : m + 1 ≡ suc m = omega arith in
    let two : m + 2 ≡ suc (suc m) = omega arith in
    let less : m ≡ suc m - 1 = omega arith in
    let less_two : m + 1 ≡ suc (suc m) - 1 = omega arith in
    ap₂ (λ x y. x * y + 2 * x) (sym one) (sym less) ∙ product ∙ ap₂ (λ x y. x * y) two less_two

module _ (n : ℕ) (b : ℕ → ℕ → ℚ) (e : Elimination) (reached : IsReached n b e) where
  pub row_left-below : (i : ℕ) → In i e.rows → i < n
  row_left-below i held = whole_below n (rows_done e.pivots ++ e.rows) reached.rows_split i (in_right i (rows_done e.pivots) e.rows held)

  -- each position is left, or no row left has an entry there
  pub position_cases : (p : ℕ) → p < n → In p e.positions ⊎ ((pivot : ℕ × ℕ) × (p ≡ pivot.1) × IsDone e.matrix e.rows e.positions pivot)
  position_cases p lt =
      ⊎_elim
      (λ (held : In p (positions_done e.pivots)). inr (done_in (IsDone e.matrix e.rows e.positions) p e.pivots reached.left held))
      (λ (held : In p e.positions). inl held)
      (in_append p (positions_done e.pivots) e.positions (in_whole n (positions_done e.pivots ++ e.positions) reached.positions_split p lt))

  module _ (pivot : ℕ × ℕ) (row_held : In pivot.0 e.rows) (position_held : In pivot.1 e.positions) (nonzero : e.matrix pivot.0 pivot.1 ≢ zero_ℚ) where
    abbrev pub rest : Eliminated
    rest = (eliminate pivot.0 pivot.1 (others pivot.1 e.positions) e.matrix [] (others pivot.0 e.rows)).answer

    abbrev pub next : Elimination
    next = with_pivot n e pivot rest

    pub next-is : (pivoted n e pivot).answer ≡ next
    unfolding pivoted
    next-is =
        answer-bind (eliminate pivot.0 pivot.1 (others pivot.1 e.positions) e.matrix [] (others pivot.0 e.rows))
        (λ left. done (with_pivot n e pivot left))
        ∙ answer-done next

    rows_rise : Pairwise ◌<◌ (others pivot.0 e.rows)
    rows_rise = Pairwise-others ◌<◌ pivot.0 e.rows reached.rows_rise

    own-out : ¬ In pivot.0 (others pivot.0 e.rows)
    own-out held = (in_others pivot.0 pivot.0 e.rows held).1 refl

    pub taken-is : rest.1 ≡ taken pivot.0 pivot.1 e.matrix (others pivot.0 e.rows)
    taken-is = sweep-taken pivot.0 pivot.1 (others pivot.1 e.positions) (others pivot.0 e.rows) e.matrix [] rows_rise own-out

    pub swept : (i : ℕ) → In i (others pivot.0 e.rows) → IsSwept pivot.0 pivot.1 (others pivot.1 e.positions) e.matrix rest.0 i
    swept i held =
        sweep-row pivot.0 pivot.1 (others pivot.1 e.positions) (apart_of (others pivot.1 e.positions) (Pairwise-others ◌<◌ pivot.1 e.positions reached.positions_rise))
        (others pivot.0 e.rows) e.matrix [] rows_rise own-out i held

    pub kept : (i p : ℕ) → ¬ In i (others pivot.0 e.rows) → rest.0 i p ≡ e.matrix i p
    kept i p out = sweep-others pivot.0 pivot.1 (others pivot.1 e.positions) (others pivot.0 e.rows) e.matrix [] i p out

    rising : IsRising n 0 rest.1
    rising =
        subst (IsRising n 0) (sym taken-is)
        (taken-rising pivot.0 pivot.1 n 0 e.matrix (others pivot.0 e.rows) rows_rise (λ j held. (omega arith, row_left-below j (in_others pivot.0 j e.rows held).0)))

    -- each row is less its multiple of the pivot's row
    eliminated-row : (i p : ℕ) → p < n → rest.0 i p ≡ e.matrix i p -ℚ other_entry pivot.0 rest.1 i *ℚ e.matrix pivot.0 p
    eliminated-row i p lt =
        subst (λ ks. rest.0 i p ≡ e.matrix i p -ℚ other_entry pivot.0 ks i *ℚ e.matrix pivot.0 p) (sym taken-is)
        (⊎_elim
        (λ (held : In i (others pivot.0 e.rows)).
        let there = in_others pivot.0 i e.rows held in
        let k = e.matrix i pivot.1 /ℚ e.matrix pivot.0 pivot.1 in
        let k-is : other_entry pivot.0 (taken pivot.0 pivot.1 e.matrix (others pivot.0 e.rows)) i ≡ k =
        other-other pivot.0 (taken pivot.0 pivot.1 e.matrix (others pivot.0 e.rows)) i there.1
        ∙ taken-within pivot.0 pivot.1 e.matrix (others pivot.0 e.rows) i rows_rise held in
        (⊎_elim
        (λ (same : p ≡ pivot.1).
        subst (λ q. rest.0 i q ≡ e.matrix i q -ℚ k *ℚ e.matrix pivot.0 q) (sym same)
        ((swept i held).pivot ∙ sym (ap (λ x. e.matrix i pivot.1 -ℚ x) (/ℚ-*ℚ (e.matrix i pivot.1) (e.matrix pivot.0 pivot.1) nonzero) ∙ ring_ℚ 1 (λ x. x ⊖ x ≐ 𝟘) tt (e.matrix i pivot.1))))
        (λ (ne : p ≢ pivot.1).
        ⊎_elim
        (λ (inside : In p e.positions). (swept i held).within p ne (others_in pivot.1 p e.positions inside ne))
        (λ (done : (before : ℕ × ℕ) × (p ≡ before.1) × IsDone e.matrix e.rows e.positions before).
        (swept i held).without p ne (λ later. done.2.position p (in_others pivot.1 p e.positions later).0 done.1)
        ∙ ring_ℚ 3 (λ x k y. k ⊙ y ≗ 𝟘 ⟹ x ≐ x ⊖ k ⊗ y) tt (e.matrix i p) k (e.matrix pivot.0 p)
        (ap (e.matrix pivot.0) done.1 ∙ done.2.none pivot.0 row_held))
        (position_cases p lt))
        (cases_eq p pivot.1))
        ∙ ap (λ x. e.matrix i p -ℚ x *ℚ e.matrix pivot.0 p) (sym k-is))
        (λ (out : ¬ In i (others pivot.0 e.rows)).
        kept i p out
        ∙ ring_ℚ 3 (λ x k y. y ⊙ k ≗ 𝟘 ⟹ x ≐ x ⊖ k ⊗ y) tt (e.matrix i p) (other_entry pivot.0 (taken pivot.0 pivot.1 e.matrix (others pivot.0 e.rows)) i) (e.matrix pivot.0 p)
        (⊎_elim
        (λ (same : i ≡ pivot.0).
        subst (λ j. other_entry pivot.0 (taken pivot.0 pivot.1 e.matrix (others pivot.0 e.rows)) j ≡ zero_ℚ) (sym same)
        (other-skip pivot.0 (taken pivot.0 pivot.1 e.matrix (others pivot.0 e.rows))))
        (λ (ne : i ≢ pivot.0).
        other-other pivot.0 (taken pivot.0 pivot.1 e.matrix (others pivot.0 e.rows)) i ne ∙ taken-without pivot.0 pivot.1 e.matrix (others pivot.0 e.rows) i out)
        (cases_eq i pivot.0)))
        (in_or_out i (others pivot.0 e.rows)))

    made-next : (i p : ℕ) → i < n → p < n → rest.0 i p ≡ made n (e.ops ++ Column pivot.0 (record { length = n; pairs = rest.1 }) ∷ []) b i p
    made-next i p lt below =
        let op = Column pivot.0 (record { length = n; pairs = rest.1 }) in
        let v = (apply (matrix_column n b p) e.ops).answer in
        let len : length v ≡ n = length-apply (matrix_column n b p) e.ops ∙ length-map-upto (λ j. b j p) n in
        eliminated-row i p below
        ∙ ap₂ (λ x y. x -ℚ other_entry pivot.0 rest.1 i *ℚ y) (reached.matrix_made i p lt below) (reached.matrix_made pivot.0 p (row_left-below pivot.0 row_held) below)
        ∙ sym (answer-subtract 0 pivot.0 (at v pivot.0) v rest.1 (subst (λ m. IsRising m 0 rest.1) (sym len) rising) i)
        ∙ sym (ap (λ w. at w i) (apply-append (matrix_column n b p) e.ops (op ∷ []) ∙ answer-apply v op [] ∙ answer-done (operate op v).answer))

    follows : (before : ℕ × ℕ) → IsDone e.matrix e.rows e.positions before → Follows rest.0 before pivot
    follows before done = record {
      row = done.row pivot.0 row_held;
      position = done.position pivot.1 position_held;
      none = kept pivot.0 before.1 own-out ∙ done.none pivot.0 row_held;
    }

    done-next : (before : ℕ × ℕ) → IsDone e.matrix e.rows e.positions before → IsDone rest.0 (others pivot.0 e.rows) (others pivot.1 e.positions) before
    done-next before done = record {
      row = λ i held. done.row i (in_others pivot.0 i e.rows held).0;
      none = λ i held.
          (swept i held).without before.1 (λ same. done.position pivot.1 position_held (sym same))
          (λ later. done.position before.1 (in_others pivot.1 before.1 e.positions later).0 refl)
          ∙ done.none i (in_others pivot.0 i e.rows held).0;
      position = λ p held. done.position p (in_others pivot.1 p e.positions held).0;
    }

    few-next : 2 * stored next.ops + length next.rows * (length next.rows - 1) ≤ n * (n - 1)
    few-next =
        let m = length (others pivot.0 e.rows) in
        let more : stored next.ops ≡ stored e.ops + (0 + length rest.1) = sum_by-append entries e.ops (Column pivot.0 (record { length = n; pairs = rest.1 }) ∷ []) in
        let at_most : length rest.1 ≤ m = subst (λ ks. length ks ≤ m) (sym taken-is) (taken-length pivot.0 pivot.1 e.matrix (others pivot.0 e.rows)) in
        let before : 2 * stored e.ops + suc m * (suc m - 1) ≤ n * (n - 1) =
        subst (λ l. 2 * stored e.ops + l * (l - 1) ≤ n * (n - 1)) (sym (others-length pivot.0 e.rows reached.rows_rise row_held)) reached.few in
        omega (arith, one_row_less m, more, at_most, before)

    next-reached : IsReached n b next
    next-reached = record {
      matrix_made = made-next;
      within = all_push (IsOp n) e.ops (Column pivot.0 (record { length = n; pairs = rest.1 })) reached.within (row_left-below pivot.0 row_held, rising);
      elsewhere = λ i held.
          let there = in_others pivot.0 i e.rows held in
          all_push (IsElsewhere i) e.ops (Column pivot.0 (record { length = n; pairs = rest.1 })) (reached.elsewhere i there.0) (λ same. there.1 (sym same));
      rows_rise = rows_rise;
      positions_rise = Pairwise-others ◌<◌ pivot.1 e.positions reached.positions_rise;
      rows_split =
          subst (λ done. IsPermutation (range_with_len 0 n) (done ++ others pivot.0 e.rows)) (sym (map-append (λ (x : ℕ × ℕ). x.0) e.pivots (pivot ∷ [])))
          (IsPermutation-pop_more (range_with_len 0 n) (rows_done e.pivots) e.rows (others pivot.0 e.rows) pivot.0 reached.rows_split
          (others-permutes pivot.0 e.rows reached.rows_rise row_held));
      positions_split =
          subst (λ done. IsPermutation (range_with_len 0 n) (done ++ others pivot.1 e.positions)) (sym (map-append (λ (x : ℕ × ℕ). x.1) e.pivots (pivot ∷ [])))
          (IsPermutation-pop_more (range_with_len 0 n) (positions_done e.pivots) e.positions (others pivot.1 e.positions) pivot.1 reached.positions_split
          (others-permutes pivot.1 e.positions reached.positions_rise position_held));
      stairs =
          staircase-push rest.0 e.pivots pivot
          (staircase-kept e.matrix rest.0 e.pivots
          (all_map (IsDone e.matrix e.rows e.positions) (λ before. (q : ℕ) → rest.0 before.0 q ≡ e.matrix before.0 q)
          (λ before done q. kept before.0 q (λ held. done.row before.0 (in_others pivot.0 before.0 e.rows held).0 refl)) e.pivots reached.left)
          reached.stairs)
          (all_map (IsDone e.matrix e.rows e.positions) (λ before. Follows rest.0 before pivot) follows e.pivots reached.left)
          (λ none. nonzero (sym (kept pivot.0 pivot.1 own-out) ∙ none));
      left =
          all_push (IsDone rest.0 (others pivot.0 e.rows) (others pivot.1 e.positions)) e.pivots pivot
          (all_map (IsDone e.matrix e.rows e.positions) (IsDone rest.0 (others pivot.0 e.rows) (others pivot.1 e.positions)) done-next e.pivots reached.left)
          (record {
            row = λ i held. (in_others pivot.0 i e.rows held).1;
            none = λ i held. (swept i held).pivot;
            position = λ p held. (in_others pivot.1 p e.positions held).1;
          });
      count = length-append e.ops (Column pivot.0 (record { length = n; pairs = rest.1 }) ∷ []) ∙ ap (λ m. m + 1) reached.count ∙ sym (length-append e.pivots (pivot ∷ []));
      few = few-next;
    }

    -- a pivot more keeps all of it, and there is one row less
    pub pivoted-reached : IsReached n b (pivoted n e pivot).answer
    pivoted-reached = subst (IsReached n b) (sym next-is) next-reached

    pub pivoted-rows : suc (length (pivoted n e pivot).answer.rows) ≡ length e.rows
    pivoted-rows = ap (λ (x : Elimination). suc (length x.rows)) next-is ∙ others-length pivot.0 e.rows reached.rows_rise row_held

-- What the sums come to.
use Rattle.std.proofs.Common.{◌≡◌, ℕ, zero, suc, ◌+◌, ◌<◌, Bool, true, false, cond, eqb, List, [], ◌∷◌, ◌++◌, length, map, Option, Some, None, ◌⊎◌, inl, inr, refl, sym, ◌∙◌, ap, ap₂, arith}
use Rattle.std.specs.List.{list_all, range_with_len}
use Rattle.std.specs.Option.{unwrap_or}
use Rattle.std.specs.declared.cmp.Ordering.{Ordering}
use Rattle.std.specs.declared.cmp.Ordering.TheVariants.{Less, Equal, Greater}
use Rattle.std.proofs.lemmas.Bool.{and_parts, ne_eqb, or_cases}
use Rattle.std.proofs.lemmas.List.{append-nil}
use Rattle.lp_model.specs.Certificate.{column_greatest, greatest, logical_greatest, reduced_cost, weighted_column, weighted_right}
use Rattle.lp_model.specs.Deck.{Deck, Interval, IsDeck, activity, column, cost_at, entry, logical_bounds, objective, row}
use Rattle.rational.specs.Lines.{gather}
use Rattle.rational.specs.Rational.{ℚ, zero_ℚ, ◌+ℚ◌, ◌-ℚ◌, ◌*ℚ◌, cmp_ℚ, eq_ℚ}
use Rattle.rational.specs.Sparse.{IsSparse, entry_at, upto}
use Rattle.rational.specs.Sum.{at, sum_ℚ}
use Rattle.rational.specs.Worked.{Worked, done, is_skipped, less_unless, more, work}
use Rattle.rational.proofs.AnswerLaws.{answer-bind, answer-done, answer-work}
use Rattle.rational.proofs.OrderLaws.{eq_ℚ-decides}
use Rattle.rational.proofs.RationalRing.{ring_ℚ}
use Rattle.rational.proofs.Ring.{◌≐◌, ◌⊙◌≗◌⟹◌, ◌⊕◌, ◌⊖◌, ◌⊗◌, ⊝◌, 𝟘, 𝟙}
use Rattle.rational.proofs.Settling.{less_answer, less_unless-in, more_answer}
use Rattle.rational.proofs.SumLaws.{sum-change, sum-cong, sum-none, sum-suc, sum-zero_terms}
use Rattle.cert_check.specs.Sums.{activity_sum, added, all_parts, column_part, cost_sum, cost_terms, entry_terms, from_start, greatest_sum, logical_part, objective_sum, parts_sum, plus, product, reduced_sum, right_sum, weighted_sum}
use Rattle.cert_check.specs.Inner.Groups.{scaled, with_part}
use Rattle.cert_check.proofs.Scatter.{entry-before, entry-other, entry-own}

-- ── the parts of a calculation ──

skipped-zero : (a b : ℚ) → is_skipped a b ≡ true → a *ℚ b ≡ zero_ℚ
unfolding is_skipped
skipped-zero a b e = by_case (or_cases (eq_ℚ a zero_ℚ) (eq_ℚ b zero_ℚ) e)
  where
    by_case : (eq_ℚ a zero_ℚ ≡ true) ⊎ (eq_ℚ b zero_ℚ ≡ true) → a *ℚ b ≡ zero_ℚ
    by_case (inl h) = ring_ℚ 2 (λ a b. b ⊙ a ≗ 𝟘 ⟹ a ⊗ b ≐ 𝟘) tt a b ((eq_ℚ-decides a zero_ℚ).0 h)
    by_case (inr h) = ring_ℚ 2 (λ a b. a ⊙ b ≗ 𝟘 ⟹ a ⊗ b ≐ 𝟘) tt a b ((eq_ℚ-decides b zero_ℚ).0 h)

-- ── sums over indices ──

module _ (f : ℕ → ℚ × ℚ) where
  abbrev pub product_at : ℕ → ℚ
  product_at k = (f k).0 *ℚ (f k).1

  answer-from : (start : ℚ) (j n : ℕ) (s : ℚ) → s ≡ start +ℚ sum_ℚ j product_at → (added s (map f (range_with_len j n))).answer ≡ start +ℚ sum_ℚ (j + n) product_at
  answer-from start j zero s e =
      let same : j ≡ j + 0 = omega arith in
      answer-done s ∙ e ∙ ap (λ k. start +ℚ sum_ℚ k product_at) same
  answer-from start j (suc n) s e =
      let after : suc j ≡ j + 1 = omega arith in
      let last : j + 1 + n ≡ j + suc n = omega arith in
      let step = more s (f j).0 (f j).1 in
      answer-bind step (λ next. added next (map f (range_with_len (j + 1) n)))
      ∙ answer-from start (j + 1) n step.answer
      (more_answer s (f j).0 (f j).1 ∙ ap (λ v. v +ℚ product_at j) e ∙ ring_ℚ 3 (λ a s p. a ⊕ s ⊕ p ≐ a ⊕ (s ⊕ p)) tt start (sum_ℚ j product_at) (product_at j)
      ∙ ap (λ v. start +ℚ v) (sym (sum-suc j product_at) ∙ ap (λ k. sum_ℚ k product_at) after))
      ∙ ap (λ k. start +ℚ sum_ℚ k product_at) last

  pub answer-added : (start : ℚ) (n : ℕ) → (added start (map f (upto n))).answer ≡ start +ℚ sum_ℚ n product_at
  answer-added start n =
      let same : 0 + n ≡ n = omega arith in
      answer-from start 0 n start (ring_ℚ 1 (λ s. s ≐ s ⊕ 𝟘) tt start ∙ ap (λ v. start +ℚ v) (sym (sum-zero_terms product_at)))
      ∙ ap (λ k. start +ℚ sum_ℚ k product_at) same

  pub answer-from_zero : (n : ℕ) → (added zero_ℚ (map f (upto n))).answer ≡ sum_ℚ n product_at
  answer-from_zero n = answer-added zero_ℚ n ∙ ring_ℚ 1 (λ s. 𝟘 ⊕ s ≐ s) tt (sum_ℚ n product_at)

-- ── sums over the entries of a column ──

module _ (m : ℕ) (y : List ℚ) where
  abbrev pub weights : List (ℕ × ℚ) → ℚ
  weights pairs = sum_ℚ m (λ i. at y i *ℚ entry_at pairs i)

  weights-none : weights [] ≡ zero_ℚ
  weights-none = sum-none m (λ i. at y i *ℚ zero_ℚ) (λ i lt. ring_ℚ 1 (λ a. a ⊗ 𝟘 ≐ 𝟘) tt (at y i))

  weights-more : (from k : ℕ) (e : ℚ) (pairs : List (ℕ × ℚ)) → IsSparse m from ((k, e) ∷ pairs) → weights ((k, e) ∷ pairs) ≡ e *ℚ at y k +ℚ weights pairs
  weights-more from k e pairs sparse =
      let f : ℕ → ℚ = λ i. at y i *ℚ entry_at pairs i in
      let g : ℕ → ℚ = λ i. at y i *ℚ entry_at ((k, e) ∷ pairs) i in
      sum-change m k f g sparse.1 (λ i lt other. ap (λ v. at y i *ℚ v) (entry-other k i e pairs (λ same. other (sym same))))
      ∙ ap₂ (λ a b. sum_ℚ m f +ℚ (a -ℚ b)) (ap (λ v. at y k *ℚ v) (entry-own k e pairs)) (ap (λ v. at y k *ℚ v) (entry-before m (k + 1) pairs k sparse.3 (omega arith)))
      ∙ ring_ℚ 3 (λ s y e. s ⊕ (y ⊗ e ⊖ y ⊗ 𝟘) ≐ e ⊗ y ⊕ s) tt (sum_ℚ m f) (at y k) e

  pub answer-weighted : (from : ℕ) (s : ℚ) (pairs : List (ℕ × ℚ)) → IsSparse m from pairs → (added s (entry_terms y pairs)).answer ≡ s +ℚ weights pairs
  answer-weighted from s [] sparse = answer-done s ∙ ring_ℚ 1 (λ s. s ≐ s ⊕ 𝟘) tt s ∙ ap (λ v. s +ℚ v) (sym weights-none)
  answer-weighted from s ((k, e) ∷ pairs) sparse =
      let step = more s e (at y k) in
      answer-bind step (λ next. added next (entry_terms y pairs))
      ∙ answer-weighted (k + 1) step.answer pairs sparse.3
      ∙ ap (λ v. v +ℚ weights pairs) (more_answer s e (at y k))
      ∙ ring_ℚ 3 (λ s p r. s ⊕ p ⊕ r ≐ s ⊕ (p ⊕ r)) tt s (e *ℚ at y k) (weights pairs)
      ∙ ap (λ v. s +ℚ v) (sym (weights-more from k e pairs sparse))

  pub answer-gathered : (from : ℕ) (r : ℚ) (pairs : List (ℕ × ℚ)) → IsSparse m from pairs → (gather m y r pairs).answer ≡ r -ℚ weights pairs
  answer-gathered from r [] sparse = answer-done r ∙ ring_ℚ 1 (λ r. r ≐ r ⊖ 𝟘) tt r ∙ ap (λ v. r -ℚ v) (sym weights-none)
  answer-gathered from r ((k, e) ∷ pairs) sparse =
      let step = less_unless (eqb k m) r e (at y k) in
      let step_is : step.answer ≡ r -ℚ e *ℚ at y k = ap (λ (c : Worked ℚ). c.answer)
      (less_unless-in (eqb k m) r e (at y k) (ne_eqb k m (λ same. omega (arith, same, sparse.1)))) ∙ less_answer r e (at y k) in
      answer-bind step (λ rest. gather m y rest pairs)
      ∙ answer-gathered (k + 1) step.answer pairs sparse.3
      ∙ ap (λ v. v -ℚ weights pairs) step_is
      ∙ ring_ℚ 3 (λ r p s. r ⊖ p ⊖ s ≐ r ⊖ (p ⊕ s)) tt r (e *ℚ at y k) (weights pairs)
      ∙ ap (λ v. r -ℚ v) (sym (weights-more from k e pairs sparse))

  -- where all are skipped, they come to 0
  pub weights-skipped : (from : ℕ) (pairs : List (ℕ × ℚ)) → IsSparse m from pairs → list_all (λ term. is_skipped term.0 term.1) (entry_terms y pairs) ≡ true → weights pairs ≡ zero_ℚ
  weights-skipped from [] sparse e = weights-none
  weights-skipped from ((k, v) ∷ pairs) sparse e =
      let parts = and_parts (is_skipped v (at y k)) (list_all (λ term. is_skipped term.0 term.1) (entry_terms y pairs)) e in
      weights-more from k v pairs sparse ∙ ap₂ ◌+ℚ◌ (skipped-zero v (at y k) parts.0) (weights-skipped (k + 1) pairs sparse.3 parts.1) ∙ ring_ℚ 0 (𝟘 ⊕ 𝟘 ≐ 𝟘) tt

-- a sum whose products are all skipped is its start
added-skipped : (s : ℚ) (terms : List (ℚ × ℚ)) → list_all (λ term. is_skipped term.0 term.1) terms ≡ true → (added s terms).answer ≡ s
added-skipped s [] e = answer-done s
added-skipped s ((a, b) ∷ terms) e =
    let parts = and_parts (is_skipped a b) (list_all (λ term. is_skipped term.0 term.1) terms) e in
    let step = more s a b in
    answer-bind step (λ next. added next terms) ∙ added-skipped step.answer terms parts.1
    ∙ more_answer s a b ∙ ap (λ v. s +ℚ v) (skipped-zero a b parts.0) ∙ ring_ℚ 1 (λ s. s ⊕ 𝟘 ≐ s) tt s

pub answer-from_start : (start : ℚ) (terms : List (ℚ × ℚ)) (sum : Worked ℚ) (v : ℚ) → sum.answer ≡ v → (list_all (λ term. is_skipped term.0 term.1) terms ≡ true → v ≡ start)
    → (from_start start terms sum).answer ≡ v
answer-from_start start terms sum v is alone = by_test (list_all (λ term. is_skipped term.0 term.1) terms) refl
  where
    by_test : (t : Bool) → list_all (λ term. is_skipped term.0 term.1) terms ≡ t → (cond t (work start) sum).answer ≡ v
    by_test true e = answer-work start ∙ sym (alone e)
    by_test false e = is

-- ── the sums of a deck ──

module _ (d : Deck) (v : List ℚ) where
  pub answer-activity : (i : ℕ) → (activity_sum d v i).answer ≡ activity d v i
  answer-activity i = answer-from_zero (λ j. (entry d i j, at v j)) (length d.columns)

  pub answer-cost : (cost_sum d v).answer ≡ cost_at d v
  answer-cost = answer-from_zero (λ j. ((column d j).cost, at v j)) (length d.columns)

  pub answer-objective : (objective_sum d v).answer ≡ objective d v
  answer-objective =
      let sum = added d.constant (cost_terms d v) in
      let is = answer-added (λ j. ((column d j).cost, at v j)) d.constant (length d.columns) in
      answer-from_start d.constant (cost_terms d v) sum (objective d v) is (λ e. sym is ∙ added-skipped d.constant (cost_terms d v) e)

  pub answer-right : (right_sum d v).answer ≡ weighted_right d v
  answer-right =
      answer-from_zero (λ i. ((row d i).right, at v i)) (length d.rows)
      ∙ sum-cong (length d.rows) (λ i. (row d i).right *ℚ at v i) (λ i. at v i *ℚ (row d i).right) (λ i lt. ring_ℚ 2 (λ b y. b ⊗ y ≐ y ⊗ b) tt (row d i).right (at v i))

  module _ (is_deck : IsDeck d) (j : ℕ) (lt : j < length d.columns) where
    pub answer-weighted_column : (weighted_sum d v j).answer ≡ weighted_column d v j
    answer-weighted_column =
        answer-weighted (length d.rows) v 0 zero_ℚ (column d j).entries (is_deck.sparse j lt) ∙ ring_ℚ 1 (λ s. 𝟘 ⊕ s ≐ s) tt (weighted_column d v j)

    pub answer-reduced : (reduced_sum d v j).answer ≡ reduced_cost d v j
    answer-reduced =
        answer-from_start (column d j).cost (entry_terms v (column d j).entries) (gather (length d.rows) v (column d j).cost (column d j).entries) (reduced_cost d v j)
        (answer-gathered (length d.rows) v 0 (column d j).cost (column d j).entries (is_deck.sparse j lt))
        (λ e. ap (λ w. (column d j).cost -ℚ w) (weights-skipped (length d.rows) v 0 (column d j).entries (is_deck.sparse j lt) e) ∙ ring_ℚ 1 (λ c. c ⊖ 𝟘 ≐ c) tt (column d j).cost)

-- ── the greatest values ──

answer-product : (a b : ℚ) → (product a b).answer ≡ a *ℚ b
answer-product a b = by_test (is_skipped a b) refl
  where
    by_test : (t : Bool) → is_skipped a b ≡ t → (cond t (done zero_ℚ) (work (a *ℚ b))).answer ≡ a *ℚ b
    by_test true e = answer-done zero_ℚ ∙ sym (skipped-zero a b e)
    by_test false e = answer-work (a *ℚ b)

pub answer-greatest : (c : ℚ) (i : Interval) → (greatest_sum c i).answer ≡ greatest c i
answer-greatest c i = by_order (cmp_ℚ c zero_ℚ)
  where
    times : Option ℚ → Option ℚ
    times None = None
    times (Some v) = Some (c *ℚ v)

    answer-scaled : (o : Option ℚ) → (scaled c o).answer ≡ times o
    answer-scaled None = answer-done None
    answer-scaled (Some v) = answer-bind (product c v) (λ p. done (Some p)) ∙ answer-done (Some (product c v).answer) ∙ ap Some (answer-product c v)

    by_order : (o : Ordering) → (let sum : Worked (Option ℚ) = elim o [ Less ↦ scaled c i.lower | Equal ↦ done (Some zero_ℚ) | Greater ↦ scaled c i.upper ] in sum.answer)
        ≡ elim o [ Less ↦ times i.lower | Equal ↦ Some zero_ℚ | Greater ↦ times i.upper ]
    by_order Less = answer-scaled i.lower
    by_order Equal = answer-done (Some zero_ℚ)
    by_order Greater = answer-scaled i.upper

answer-plus : (s a : ℚ) → (plus s a).answer ≡ s +ℚ a
answer-plus s a = by_test (eq_ℚ a zero_ℚ) refl
  where
    by_test : (t : Bool) → eq_ℚ a zero_ℚ ≡ t → (cond t (done s) (work (s +ℚ a))).answer ≡ s +ℚ a
    by_test true e = answer-done s ∙ ring_ℚ 2 (λ s a. (⊝ 𝟙) ⊙ a ≗ 𝟘 ⟹ s ≐ s ⊕ a) tt s a ((eq_ℚ-decides a zero_ℚ).0 e)
    by_test false e = answer-work (s +ℚ a)

module _ (f : ℕ → Worked (Option ℚ)) (later : List (Worked (Option ℚ))) where
  abbrev pub value_at : ℕ → ℚ
  value_at k = unwrap_or (f k).answer zero_ℚ

  parts-from : (start : ℚ) (j n : ℕ) (s : ℚ) → s ≡ start +ℚ sum_ℚ j value_at → (parts_sum s (map f (range_with_len j n) ++ later)).answer ≡ (parts_sum (start +ℚ sum_ℚ (j + n) value_at) later).answer
  parts-from start j zero s e =
      let same : j ≡ j + 0 = omega arith in
      ap (λ v. (parts_sum v later).answer) (e ∙ ap (λ k. start +ℚ sum_ℚ k value_at) same)
  parts-from start j (suc n) s e =
      let after : suc j ≡ j + 1 = omega arith in
      let last : j + 1 + n ≡ j + suc n = omega arith in
      let step = with_part s (f j) in
      answer-bind step (λ next. parts_sum next (map f (range_with_len (j + 1) n) ++ later))
      ∙ parts-from start (j + 1) n step.answer
      (answer-bind (f j) (λ g. plus s (unwrap_or g zero_ℚ)) ∙ answer-plus s (value_at j) ∙ ap (λ v. v +ℚ value_at j) e
      ∙ ring_ℚ 3 (λ a s p. a ⊕ s ⊕ p ≐ a ⊕ (s ⊕ p)) tt start (sum_ℚ j value_at) (value_at j)
      ∙ ap (λ v. start +ℚ v) (sym (sum-suc j value_at) ∙ ap (λ k. sum_ℚ k value_at) after))
      ∙ ap (λ k. (parts_sum (start +ℚ sum_ℚ k value_at) later).answer) last

  pub answer-parts : (start : ℚ) (n : ℕ) → (parts_sum start (map f (upto n) ++ later)).answer ≡ (parts_sum (start +ℚ sum_ℚ n value_at) later).answer
  answer-parts start n =
      let same : 0 + n ≡ n = omega arith in
      parts-from start 0 n start (ring_ℚ 1 (λ s. s ≐ s ⊕ 𝟘) tt start ∙ ap (λ v. start +ℚ v) (sym (sum-zero_terms value_at)))
      ∙ ap (λ k. (parts_sum (start +ℚ sum_ℚ k value_at) later).answer) same

module _ (d : Deck) (y : List ℚ) (is_deck : IsDeck d) where
  pub answer-column_part : (j : ℕ) → j < length d.columns → (column_part d y j).answer ≡ column_greatest d y j
  answer-column_part j lt =
      answer-bind (weighted_sum d y j) (λ c. greatest_sum c (column d j).bounds) ∙ answer-greatest (weighted_sum d y j).answer (column d j).bounds
      ∙ ap (λ c. greatest c (column d j).bounds) (answer-weighted_column d y is_deck j lt)

  pub answer-logical_part : (i : ℕ) → (logical_part d y i).answer ≡ logical_greatest d y i
  answer-logical_part i = answer-greatest (at y i) (logical_bounds (row d i))

  -- all greatest contributions together
  pub answer-all_parts : (parts_sum zero_ℚ (all_parts d y)).answer
      ≡ sum_ℚ (length d.columns) (λ j. unwrap_or (column_greatest d y j) zero_ℚ) +ℚ sum_ℚ (length d.rows) (λ i. unwrap_or (logical_greatest d y i) zero_ℚ)
  answer-all_parts =
      let C = sum_ℚ (length d.columns) (λ j. unwrap_or (column_part d y j).answer zero_ℚ) in
      let L = sum_ℚ (length d.rows) (λ i. unwrap_or (logical_part d y i).answer zero_ℚ) in
      let logicals = map (logical_part d y) (upto (length d.rows)) in
      answer-parts (column_part d y) logicals zero_ℚ (length d.columns)
      ∙ ap (λ ps. (parts_sum (zero_ℚ +ℚ C) ps).answer) (sym (append-nil logicals))
      ∙ answer-parts (logical_part d y) [] (zero_ℚ +ℚ C) (length d.rows)
      ∙ answer-done (zero_ℚ +ℚ C +ℚ L)
      ∙ ring_ℚ 2 (λ c l. 𝟘 ⊕ c ⊕ l ≐ c ⊕ l) tt C L
      ∙ ap₂ ◌+ℚ◌
      (sum-cong (length d.columns) (λ j. unwrap_or (column_part d y j).answer zero_ℚ) (λ j. unwrap_or (column_greatest d y j) zero_ℚ) (λ j lt. ap (λ o. unwrap_or o zero_ℚ) (answer-column_part j lt)))
      (sum-cong (length d.rows) (λ i. unwrap_or (logical_part d y i).answer zero_ℚ) (λ i. unwrap_or (logical_greatest d y i) zero_ℚ) (λ i lt. ap (λ o. unwrap_or o zero_ℚ) (answer-logical_part i)))

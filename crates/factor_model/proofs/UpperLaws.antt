-- A triangular form solves for columns and for rows.
use Rattle.std.proofs.Common.{◌≡◌, ◌≢◌, ℕ, ◌<◌, List, [], ◌∷◌, length, set, replicate, reverse, ◌⊎◌, inl, inr, ⊎_elim, Some, refl, sym, ◌∙◌, ap, ap₂, subst, arith}
use Rattle.std.specs.List.{range_with_len}
use Rattle.std.proofs.lemmas.List.{length-set, get_or-set_same, get_or-set_other, length-replicate}
use Rattle.std.proofs.lemmas.List.Sorted.{IsPermutation-trans, IsPermutation-reverse}
use Rattle.std.proofs.lemmas.List.FromFn.{get_or-map-range_with_len}
use Rattle.std.proofs.lemmas.Bool.{cases_eq}
use Rattle.rational.specs.Rational.{ℚ, zero_ℚ, ◌+ℚ◌, ◌-ℚ◌, ◌*ℚ◌, ◌/ℚ◌}
use Rattle.rational.proofs.AnswerLaws.{answer-bind, answer-done, answer-work}
use Rattle.rational.proofs.RationalRing.{ring_ℚ}
use Rattle.rational.proofs.Ring.{◌≐◌, ◌⊙◌≗◌⟹◌, ◌⊕◌, ◌⊖◌, ◌⊗◌, 𝟘, 𝟙}
use Rattle.rational.specs.Sum.{at, sum_ℚ}
use Rattle.rational.specs.Worked.{done, quotient, settle}
use Rattle.rational.proofs.Settling.{settle-answer}
use Rattle.rational.specs.Lines.{gather, subtract}
use Rattle.rational.proofs.FieldLaws.{/ℚ-*ℚ}
use Rattle.rational.proofs.SumLaws.{sum-cong, sum-change}
use Rattle.sparse_cols.specs.Sparse.{IsRising}
use Rattle.factor_model.specs.Vectors.{other_entry}
use Rattle.factor_model.specs.Upper.{Triangle, IsUpper, ComesBefore, In, Pairwise, column, row_of, cell, diagonal, place_one, solve_one, solve_rows, by_position, solve, back_item, solve_positions, solve_back, Solves, SolvesBack}
use Rattle.factor_model.proofs.LineLaws.{answer-gather, answer-subtract, length-subtract, other-skip, other-other}
use Rattle.factor_model.proofs.Orders.{in_reverse, sum_over, sum_over-cons, sum_over-none, sum_over-cong, sum_whole, whole_below, Pairwise-reverse}
use Rattle.factor_model.proofs.UpperShape.{row_below, position_of_row, order_below, in_order}

pub answer-quotient : (a b : ℚ) → (quotient a b).answer ≡ a /ℚ b
unfolding quotient
answer-quotient a b = answer-work (a /ℚ b)

-- ---- one step in rows

module _ (n : ℕ) (u : Triangle) (upper : IsUpper n u) where
  -- x, the new item of p's row
  new_item : List ℚ → ℕ → ℚ
  new_item v p = at v (row_of u p) /ℚ diagonal u p

  one_is : (v : List ℚ) (p : ℕ) → (solve_one u v p).answer ≡ set (subtract (row_of u p) (at v (row_of u p) /ℚ diagonal u p) v (column u p)).answer (row_of u p) (at v (row_of u p) /ℚ diagonal u p)
  unfolding solve_one place_one
  one_is v p =
      answer-bind (quotient (at v (row_of u p)) (diagonal u p)) (place_one u v p)
      ∙ ap (λ x. (place_one u v p x).answer) (answer-quotient (at v (row_of u p)) (diagonal u p))
      ∙ answer-bind (subtract (row_of u p) (at v (row_of u p) /ℚ diagonal u p) v (column u p)) (λ rest. done (set rest (row_of u p) (at v (row_of u p) /ℚ diagonal u p)))
      ∙ answer-done (set (subtract (row_of u p) (at v (row_of u p) /ℚ diagonal u p) v (column u p)).answer (row_of u p) (at v (row_of u p) /ℚ diagonal u p))

  length_one : (v : List ℚ) (p : ℕ) → length (solve_one u v p).answer ≡ length v
  length_one v p =
      let x = at v (row_of u p) /ℚ diagonal u p in
      ap length (one_is v p) ∙ length-set (subtract (row_of u p) x v (column u p)).answer (row_of u p) x ∙ length-subtract (row_of u p) x v (column u p)

  -- the row of p holds x, and each other row is less its cell times x
  one_here : (v : List ℚ) (p : ℕ) → length v ≡ n → p < n → at (solve_one u v p).answer (row_of u p) ≡ at v (row_of u p) /ℚ diagonal u p
  one_here v p e lt =
      let x = at v (row_of u p) /ℚ diagonal u p in
      let rest = (subtract (row_of u p) x v (column u p)).answer in
      ap (λ w. at w (row_of u p)) (one_is v p)
      ∙ get_or-set_same rest (row_of u p) x zero_ℚ (omega (arith, row_below n u upper p lt, length-subtract (row_of u p) x v (column u p), e))

  one_there : (v : List ℚ) (p r : ℕ) → length v ≡ n → r ≢ row_of u p → at (solve_one u v p).answer r ≡ at v r -ℚ cell u r p *ℚ (at v (row_of u p) /ℚ diagonal u p)
  one_there v p r e other =
      let x = at v (row_of u p) /ℚ diagonal u p in
      let rest = (subtract (row_of u p) x v (column u p)).answer in
      ap (λ w. at w r) (one_is v p)
      ∙ get_or-set_other rest (row_of u p) r x zero_ℚ other
      ∙ answer-subtract 0 (row_of u p) x v (column u p) (subst (λ m. IsRising m 0 (column u p)) (sym e) (upper.rising p)) r
      ∙ ap (λ c. at v r -ℚ c *ℚ x) (other-other (row_of u p) (column u p) r other)

  -- ---- all steps in rows

  length_rows : (v : List ℚ) (ps : List ℕ) → length (solve_rows u v ps).answer ≡ length v
  length_rows v [] = ap length (answer-done v)
  length_rows v (p ∷ ps) =
      ap length (answer-bind (solve_one u v p) (λ rest. solve_rows u rest ps)) ∙ length_rows (solve_one u v p).answer ps ∙ length_one v p

  -- later positions of the walk come before in the order
  abbrev Walk : List ℕ → Type 0
  Walk ps = Pairwise (λ p q. ComesBefore u q p) ps

  -- a row of no position left, in which none of their columns has an entry, stays
  untouched : (v : List ℚ) (ps : List ℕ) (r : ℕ) → length v ≡ n → ((q : ℕ) → In q ps → (r ≢ row_of u q) × (cell u r q ≡ zero_ℚ)) → at (solve_rows u v ps).answer r ≡ at v r
  untouched v [] r e none = ap (λ w. at w r) (answer-done v)
  untouched v (p ∷ ps) r e none =
      let x = at v (row_of u p) /ℚ diagonal u p in
      let here = none p (inl refl) in
      ap (λ w. at w r) (answer-bind (solve_one u v p) (λ rest. solve_rows u rest ps))
      ∙ untouched (solve_one u v p).answer ps r (length_one v p ∙ e) (λ q held. none q (inr held))
      ∙ one_there v p r e here.0
      ∙ ring_ℚ 3 (λ a c x. x ⊙ 𝟘 ≗ c ⟹ a ⊖ c ⊗ x ≐ a) tt (at v r) (cell u r p) x (sym here.1)

  nothing : (a b : ℚ) → a ≡ zero_ℚ → a *ℚ b ≡ zero_ℚ
  nothing a b e = ring_ℚ 2 (λ a b. b ⊙ a ≗ 𝟘 ⟹ a ⊗ b ≐ 𝟘) tt a b e

  whole_item : (d x a : ℚ) → x *ℚ d ≡ a → d *ℚ x +ℚ zero_ℚ ≡ a
  whole_item d x a e = ring_ℚ 3 (λ d x a. 𝟙 ⊙ x ⊗ d ≗ a ⟹ d ⊗ x ⊕ 𝟘 ≐ a) tt d x a e

  -- each row of a position left is the sum of its cells times the items found
  solves_left : (v : List ℚ) (ps : List ℕ) → length v ≡ n → ((q : ℕ) → In q ps → q < n) → Walk ps → (p : ℕ) → In p ps
      → sum_over (λ q. cell u (row_of u p) q *ℚ at (solve_rows u v ps).answer (row_of u q)) ps ≡ at v (row_of u p)
  solves_left v [] e below walk p held = absurd held
  solves_left v (s ∷ ps) e below walk p held =
      let x = at v (row_of u s) /ℚ diagonal u s in
      let next = (solve_one u v s).answer in
      let rows = (solve_rows u next ps).answer in
      let all : (solve_rows u v (s ∷ ps)).answer ≡ rows = answer-bind (solve_one u v s) (λ rest. solve_rows u rest ps) in
      let f : ℕ → ℚ = λ q. cell u (row_of u p) q *ℚ at rows (row_of u q) in
      let kept : at rows (row_of u s) ≡ x =
      untouched next ps (row_of u s) (length_one v s ∙ e) (λ q h. (λ same. (walk.0 q h).other_rows (sym same), (walk.0 q h).no_entry)) ∙ one_here v s e (below s (inl refl)) in
      sum_over-cong (λ q. cell u (row_of u p) q *ℚ at (solve_rows u v (s ∷ ps)).answer (row_of u q)) f (s ∷ ps) (λ q h. ap (λ w. cell u (row_of u p) q *ℚ at w (row_of u q)) all)
      ∙ sum_over-cons f s ps
      ∙ ⊎_elim
      (λ (same : p ≡ s).
      subst (λ k. cell u (row_of u k) s *ℚ at rows (row_of u s) +ℚ sum_over (λ q. cell u (row_of u k) q *ℚ at rows (row_of u q)) ps ≡ at v (row_of u k)) (sym same)
      (ap₂ (λ a b. diagonal u s *ℚ a +ℚ b) kept (sum_over-none (λ q. cell u (row_of u s) q *ℚ at rows (row_of u q)) ps
      (λ q h. nothing (cell u (row_of u s) q) (at rows (row_of u q)) (walk.0 q h).no_entry))
      ∙ whole_item (diagonal u s) x (at v (row_of u s)) (/ℚ-*ℚ (at v (row_of u s)) (diagonal u s) (upper.nonzero s (below s (inl refl))))))
      (λ (later : In p ps).
      ap₂ (λ a b. cell u (row_of u p) s *ℚ a +ℚ b) kept
      (solves_left next ps (length_one v s ∙ e) (λ q h. below q (inr h)) walk.1 p later
      ∙ one_there v s (row_of u p) e (walk.0 p later).other_rows)
      ∙ ring_ℚ 3 (λ c x a. c ⊗ x ⊕ (a ⊖ c ⊗ x) ≐ a) tt (cell u (row_of u p) s) x (at v (row_of u p)))
      held

  -- U·x = v, row by row
  pub solves_row : (v : List ℚ) → length v ≡ n → (r : ℕ) → r < n → sum_ℚ n (λ p. cell u r p *ℚ at (solve u v).answer p) ≡ at v r
  solves_row v e r lt =
      let rows = (solve_rows u v (reverse u.order)).answer in
      let back = IsPermutation-trans (range_with_len 0 n) u.order (reverse u.order) upper.whole (IsPermutation-reverse u.order) in
      let there = position_of_row n u upper r lt in
      let f : ℕ → ℚ = λ p. cell u r p *ℚ at rows (row_of u p) in
      sum-cong n (λ p. cell u r p *ℚ at (solve u v).answer p) f
      (λ p below.
      ap (λ a. cell u r p *ℚ a)
      (ap (λ w. at w p) (answer-bind (solve_rows u v (reverse u.order)) (λ z. done (by_position u z)) ∙ answer-done (by_position u rows))
      ∙ get_or-map-range_with_len (λ q. at rows (row_of u q)) 0 (length u.rows) p p zero_ℚ (omega (arith, upper.row_count, below)) (omega arith)))
      ∙ sym (sum_whole n f (reverse u.order) back)
      ∙ subst (λ k. sum_over (λ q. cell u k q *ℚ at rows (row_of u q)) (reverse u.order) ≡ at v k) (sym there.2)
      (solves_left v (reverse u.order) e (λ q held. whole_below n (reverse u.order) back q held)
      (Pairwise-reverse (ComesBefore u) u.order upper.triangular) there.0 (in_reverse there.0 u.order there.1))

  -- ---- solving for a row

  item_is : (c z : List ℚ) (p : ℕ) → (back_item u c z p).answer ≡ (at c p -ℚ sum_ℚ n (λ i. other_entry (row_of u p) (column u p) i *ℚ at z i)) /ℚ diagonal u p
  unfolding back_item
  item_is c z p =
      answer-bind (gather (row_of u p) z (at c p) (column u p)) (λ rest. quotient rest (diagonal u p))
      ∙ answer-quotient (gather (row_of u p) z (at c p) (column u p)).answer (diagonal u p)
      ∙ ap (λ a. a /ℚ diagonal u p) (answer-gather n 0 (row_of u p) z (at c p) (column u p) (upper.rising p))

  -- a row that changes is that of a position left
  changed : (c z : List ℚ) (ps : List ℕ) (r : ℕ) → (at (solve_positions u c z ps).answer r ≡ at z r) ⊎ ((q : ℕ) × In q ps × (r ≡ row_of u q))
  changed c z [] r = inl (ap (λ w. at w r) (answer-done z))
  changed c z (p ∷ ps) r =
      let item = (back_item u c z p).answer in
      let all = ap (λ (w : List ℚ). at w r) (answer-bind (back_item u c z p) (λ a. solve_positions u c (set z (row_of u p) a) ps)) in
      ⊎_elim
      (λ (here : r ≡ row_of u p). inr (p, inl refl, here))
      (λ (other : r ≢ row_of u p).
      ⊎_elim
      (λ (kept : at (solve_positions u c (set z (row_of u p) item) ps).answer r ≡ at (set z (row_of u p) item) r).
      inl (all ∙ kept ∙ get_or-set_other z (row_of u p) r item zero_ℚ other))
      (λ (later : (q : ℕ) × In q ps × (r ≡ row_of u q)). inr (later.0, inr later.1, later.2))
      (changed c (set z (row_of u p) item) ps r))
      (cases_eq r (row_of u p))

  agree : (a b k l : ℚ) → l ≡ k → (a ≡ b) ⊎ (k ≡ zero_ℚ) → a *ℚ k ≡ l *ℚ b
  agree a b k l e (inl same) = ap₂ (λ x y. x *ℚ y) same (sym e) ∙ ring_ℚ 2 (λ b l. b ⊗ l ≐ l ⊗ b) tt b l
  agree a b k l e (inr none) = ap₂ (λ x y. x *ℚ y) refl none ∙ ring_ℚ 2 (λ a b. a ⊗ 𝟘 ≐ 𝟘 ⊗ b) tt a b ∙ ap (λ x. x *ℚ b) (sym (e ∙ none))

  whole_row : (s a y g f b : ℚ) → g ≡ y → f ≡ zero_ℚ *ℚ b → y ≡ a -ℚ s → s +ℚ (g -ℚ f) ≡ a
  whole_row s a y g f b p q h =
      ap₂ (λ u v. s +ℚ (u -ℚ v)) (p ∙ h) q ∙ ring_ℚ 3 (λ s a b. s ⊕ (a ⊖ s ⊖ 𝟘 ⊗ b) ≐ a) tt s a b

  stays : (c z : List ℚ) (s : ℕ) (ps : List ℕ) → length z ≡ n → row_of u s < n → ((q : ℕ) → In q ps → ComesBefore u s q)
      → at (solve_positions u c (set z (row_of u s) (back_item u c z s).answer) ps).answer (row_of u s) ≡ (back_item u c z s).answer
  stays c z s ps e lt before =
      ⊎_elim
      (λ (kept : at (solve_positions u c (set z (row_of u s) (back_item u c z s).answer) ps).answer (row_of u s) ≡ at (set z (row_of u s) (back_item u c z s).answer) (row_of u s)).
      kept ∙ get_or-set_same z (row_of u s) (back_item u c z s).answer zero_ℚ (omega (arith, lt, e)))
      (λ (later : (q : ℕ) × In q ps × (row_of u s ≡ row_of u q)). absurd ((before later.0 later.1).other_rows later.2))
      (changed c (set z (row_of u s) (back_item u c z s).answer) ps (row_of u s))

  -- the product with the column of each position left is its item
  back_left : (c z : List ℚ) (ps : List ℕ) → length z ≡ n → ((q : ℕ) → In q ps → q < n) → Pairwise (ComesBefore u) ps → (p : ℕ) → In p ps
      → sum_ℚ n (λ r. at (solve_positions u c z ps).answer r *ℚ cell u r p) ≡ at c p
  back_left c z [] e below walk p held = absurd held
  back_left c z (s ∷ ps) e below walk p held =
      let item = (back_item u c z s).answer in
      let next = set z (row_of u s) item in
      let found = (solve_positions u c next ps).answer in
      let all : (solve_positions u c z (s ∷ ps)).answer ≡ found = answer-bind (back_item u c z s) (λ a. solve_positions u c (set z (row_of u s) a) ps) in
      let row = row_of u s in
      let row_lt = row_below n u upper s (below s (inl refl)) in
      let f : ℕ → ℚ = λ i. other_entry row (column u s) i *ℚ at z i in
      let g : ℕ → ℚ = λ i. at found i *ℚ cell u i s in
      sum-cong n (λ r. at (solve_positions u c z (s ∷ ps)).answer r *ℚ cell u r p) (λ r. at found r *ℚ cell u r p) (λ r lt. ap (λ w. at w r *ℚ cell u r p) all)
      ∙ ⊎_elim
      (λ (same : p ≡ s).
      subst (λ k. sum_ℚ n (λ i. at found i *ℚ cell u i k) ≡ at c k) (sym same)
      (sum-change n row f g row_lt
      (λ i lt other.
      agree (at found i) (at z i) (cell u i s) (other_entry row (column u s) i) (other-other row (column u s) i other)
      (⊎_elim
      (λ (kept : at found i ≡ at next i). inl (kept ∙ get_or-set_other z row i item zero_ℚ other))
      (λ (later : (q : ℕ) × In q ps × (i ≡ row_of u q)). inr (subst (λ k. cell u k s ≡ zero_ℚ) (sym later.2) (walk.0 later.0 later.1).no_entry))
      (changed c next ps i)))
      ∙ whole_row (sum_ℚ n f) (at c s) (item *ℚ diagonal u s) (g row) (f row) (at z row)
      (ap (λ a. a *ℚ diagonal u s) (stays c z s ps e row_lt walk.0))
      (ap (λ a. a *ℚ at z row) (other-skip row (column u s)))
      (ap (λ a. a *ℚ diagonal u s) (item_is c z s) ∙ /ℚ-*ℚ (at c s -ℚ sum_ℚ n f) (diagonal u s) (upper.nonzero s (below s (inl refl))))))
      (λ (later : In p ps). back_left c next ps (length-set z row item ∙ e) (λ q h. below q (inr h)) walk.1 p later)
      held

  length_positions : (c z : List ℚ) (ps : List ℕ) → length (solve_positions u c z ps).answer ≡ length z
  length_positions c z [] = ap length (answer-done z)
  length_positions c z (p ∷ ps) =
      let item = (back_item u c z p).answer in
      ap length (answer-bind (back_item u c z p) (λ a. solve_positions u c (set z (row_of u p) a) ps))
      ∙ length_positions c (set z (row_of u p) item) ps ∙ length-set z (row_of u p) item

  pub length-solve_back : (c : List ℚ) → length (solve_back u c).answer ≡ n
  length-solve_back c =
      length_positions c (replicate (length u.rows) zero_ℚ) u.order ∙ length-replicate (length u.rows) zero_ℚ ∙ upper.row_count

  -- z·U = c, position by position
  pub solves_position : (c : List ℚ) (p : ℕ) → p < n → sum_ℚ n (λ r. at (solve_back u c).answer r *ℚ cell u r p) ≡ at c p
  solves_position c p lt =
      back_left c (replicate (length u.rows) zero_ℚ) u.order (length-replicate (length u.rows) zero_ℚ ∙ upper.row_count)
      (λ q held. order_below n u upper q held) upper.triangular p (in_order n u upper p lt)

module _ (w : ℕ) (u : Triangle) (upper : IsUpper (length u.rows) u) where
  pub solve_solves : (v x : List ℚ) → length v ≡ length u.rows → settle w (solve u v) ≡ Some x → Solves u x v
  solve_solves v x e settled =
      subst (λ y. Solves u y v) (settle-answer w (solve u v) x settled) (solves_row (length u.rows) u upper v e)

  pub solve_back_solves : (c z : List ℚ) → settle w (solve_back u c) ≡ Some z → SolvesBack u z c
  solve_back_solves c z settled =
      subst (λ y. SolvesBack u y c) (settle-answer w (solve_back u c) z settled) (solves_position (length u.rows) u upper c)

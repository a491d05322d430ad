-- What factoring answers: factors of the matrix, or a combination of its rows that is 0; the first exactly where the matrix is regular.
use Rattle.std.proofs.Common.{◌≡◌, ◌≢◌, ℕ, ◌*◌, ◌-◌, ◌<◌, ◌≤◌, eqb, List, [], ◌∷◌, ◌++◌, length, map, pos, reverse, ◌⊎◌, inl, inr, ⊎_elim, refl, sym, ◌∙◌, ap, ap₂, subst, arith, append-nil}
use Rattle.std.specs.List.{AllByRecursion, range_with_len}
use Rattle.std.specs.List.Sorted.{IsPermutation}
use Rattle.std.proofs.lemmas.Bool.{cases_lt, eq-eqb, ne_eqb, cond-true, cond-false}
use Rattle.std.proofs.lemmas.List.{get_or_past, length-append, length-map, nil_from_length}
use Rattle.std.proofs.lemmas.List.Elements.{All-from_recursion}
use Rattle.std.proofs.lemmas.List.FromFn.{length-range_with_len}
use Rattle.std.proofs.lemmas.List.Sorted.{length_permutation}
use Rattle.rational.specs.Rational.{ℚ, zero_ℚ, one_ℚ, ◌*ℚ◌}
use Rattle.rational.specs.Matrix.{IsRegular}
use Rattle.rational.specs.Sparse.{at_index}
use Rattle.rational.specs.Sum.{at}
use Rattle.rational.specs.Worked.{done}
use Rattle.rational.proofs.AnswerLaws.{answer-bind, answer-done}
use Rattle.rational.proofs.SparseLaws.{at_index-same}
use Rattle.rational.proofs.SumLaws.{sum-cong}
use Rattle.rational.proofs.VectorLaws.{get-map-upto, length-map-upto}
use Rattle.sparse_cols.specs.Sparse.{Sparse, IsRising}
use Rattle.factor_model.specs.declared.Op.{Op}
use Rattle.factor_model.specs.declared.Op.TheVariants.{Column, Row}
use Rattle.factor_model.specs.Vectors.{entry, matrix_column, unit_vector, sparse}
use Rattle.factor_model.specs.Eta.{apply, apply_back, transposed, IsOp, stored}
use Rattle.factor_model.specs.Upper.{Triangle, IsUpper, ComesBefore, In, Pairwise, column, row_of, cell, diagonal}
use Rattle.factor_model.specs.Represents.{Represents}
use Rattle.factor_model.specs.Factoring.{Elimination, Factored, whole, singular, IsDependence, row_paired, form_of, factored_by, eliminated, start, factored}
use Rattle.factor_model.proofs.EtaLaws.{length-apply, back-first, transposes}
use Rattle.factor_model.proofs.Orders.{in_whole, whole_below}
use Rattle.factor_model.proofs.UpdateLaws.{row-other}
use Rattle.factor_model.proofs.SparseLaws.{sparse-entry, sparse-rising}
use Rattle.factor_model.proofs.FactorLaws.{unit-product, factors-regular}
use Rattle.factor_model.proofs.FactorReaches.{all_with, all_map, rows_done, positions_done, IsStaircase, Follows, IsDone, IsElsewhere, IsReached, start-reached, row_left-below, position_cases, done_in}
use Rattle.factor_model.proofs.FactorStands.{IsEnd, reaches}

-- ---- pivots and the rows paired with their positions

paired-rows : (a : ℕ → ℕ → ℚ) (pivots : List (ℕ × ℕ)) → IsStaircase a pivots → AllByRecursion (λ pivot. row_paired pivots pivot.1 ≡ pivot.0) pivots
paired-rows a [] stairs = tt
paired-rows a (pivot ∷ pivots) stairs = (
  cond-true (eqb pivot.1 pivot.1) _ _ (eq-eqb pivot.1 pivot.1 refl),
  all_with (Follows a pivot) (λ x. row_paired pivots x.1 ≡ x.0) (λ x. row_paired (pivot ∷ pivots) x.1 ≡ x.0)
      (λ x follows paired. cond-false (eqb pivot.1 x.1) _ _ (ne_eqb pivot.1 x.1 (λ e. follows.position (sym e))) ∙ paired)
      pivots stairs.1 (paired-rows a pivots stairs.2),
)

nonzero-pivots : (a : ℕ → ℕ → ℚ) (pivots : List (ℕ × ℕ)) → IsStaircase a pivots → AllByRecursion (λ pivot. a pivot.0 pivot.1 ≢ zero_ℚ) pivots
nonzero-pivots a [] stairs = tt
nonzero-pivots a (pivot ∷ pivots) stairs = (stairs.0, nonzero-pivots a pivots stairs.2)

all_positions : (P : ℕ → Type 0) (pivots : List (ℕ × ℕ)) → ((p : ℕ) → In p (positions_done pivots) → P p) → AllByRecursion (λ pivot. P pivot.1) pivots
all_positions P [] h = tt
all_positions P (pivot ∷ pivots) h = (h pivot.1 (inl refl), all_positions P pivots (λ p held. h p (inr held)))

all_rows : (P : ℕ → Type 0) (pivots : List (ℕ × ℕ)) → ((r : ℕ) → In r (rows_done pivots) → P r) → AllByRecursion (λ pivot. P pivot.0) pivots
all_rows P [] h = tt
all_rows P (pivot ∷ pivots) h = (h pivot.0 (inl refl), all_rows P pivots (λ p held. h p (inr held)))

rows-mapped : (f : ℕ → ℕ) (pivots : List (ℕ × ℕ)) → AllByRecursion (λ pivot. f pivot.1 ≡ pivot.0) pivots → map f (positions_done pivots) ≡ rows_done pivots
rows-mapped f [] same = refl
rows-mapped f (pivot ∷ pivots) same = ap₂ (λ r rs. r ∷ rs) same.0 (rows-mapped f pivots same.1)

length-rows : (pivots : List (ℕ × ℕ)) → length (rows_done pivots) ≡ length pivots
length-rows pivots = length-map pivots (λ (pivot : ℕ × ℕ). pivot.0)

length-positions : (pivots : List (ℕ × ℕ)) → length (positions_done pivots) ≡ length pivots
length-positions pivots = length-map pivots (λ (pivot : ℕ × ℕ). pivot.1)

-- ---- where each row has a pivot

module _ (n : ℕ) (b : ℕ → ℕ → ℚ) (e : Elimination) (reached : IsReached n b e) (all : e.rows ≡ []) where
  rows-whole : IsPermutation (range_with_len 0 n) (rows_done e.pivots)
  rows-whole = subst (IsPermutation (range_with_len 0 n)) (ap (λ rows. rows_done e.pivots ++ rows) all ∙ append-nil (rows_done e.pivots)) reached.rows_split

  pub pivots-count : length e.pivots ≡ n
  pivots-count = sym (length-rows e.pivots) ∙ length_permutation (range_with_len 0 n) (rows_done e.pivots) rows-whole ∙ length-range_with_len 0 n

  pub none-left : e.positions ≡ []
  none-left =
      nil_from_length e.positions
      (omega (
        arith,
        pivots-count,
        length-positions e.pivots,
        length-append (positions_done e.pivots) e.positions,
        length_permutation (range_with_len 0 n) (positions_done e.pivots ++ e.positions) reached.positions_split,
        length-range_with_len 0 n,
      ))

  order-whole : IsPermutation (range_with_len 0 n) (positions_done e.pivots)
  order-whole =
      subst (IsPermutation (range_with_len 0 n)) (ap (λ positions. positions_done e.pivots ++ positions) none-left ∙ append-nil (positions_done e.pivots)) reached.positions_split

  -- the form has the matrix's entries, and its rows are those of the pivots
  form-column : (p : ℕ) → p < n → column (form_of n e) p ≡ (sparse (matrix_column n e.matrix p)).pairs
  form-column p lt = ap (λ (c : Sparse ℚ). c.pairs) (get-map-upto (λ q. sparse (matrix_column n e.matrix q)) (record { length = 0; pairs = [] }) n p lt)

  form-cell : (i p : ℕ) → i < n → p < n → cell (form_of n e) i p ≡ e.matrix i p
  form-cell i p below lt = ap (λ ps. entry ps i) (form-column p lt) ∙ sparse-entry (matrix_column n e.matrix p) i ∙ get-map-upto (λ j. e.matrix j p) zero_ℚ n i below

  form-row : (p : ℕ) → p < n → row_of (form_of n e) p ≡ row_paired e.pivots p
  form-row p lt = get-map-upto (row_paired e.pivots) 0 n p lt

  -- what the form has of a pivot
  record InForm (pivot : ℕ × ℕ) : Type 0 where
    row : row_of (form_of n e) pivot.1 ≡ pivot.0
    row_below : pivot.0 < n
    position_below : pivot.1 < n
    nonzero : e.matrix pivot.0 pivot.1 ≢ zero_ℚ

  in-form : AllByRecursion InForm e.pivots
  in-form =
      all_with (λ pivot. (row_paired e.pivots pivot.1 ≡ pivot.0) × (pivot.0 < n)) (λ pivot. (pivot.1 < n) × (e.matrix pivot.0 pivot.1 ≢ zero_ℚ)) InForm
      (λ pivot paired below. record { row = form-row pivot.1 below.0 ∙ paired.0; row_below = paired.1; position_below = below.0; nonzero = below.1 }) e.pivots
      (all_with (λ pivot. row_paired e.pivots pivot.1 ≡ pivot.0) (λ pivot. pivot.0 < n) (λ pivot. (row_paired e.pivots pivot.1 ≡ pivot.0) × (pivot.0 < n))
      (λ pivot p q. (p, q)) e.pivots (paired-rows e.matrix e.pivots reached.stairs)
      (all_rows (λ r. r < n) e.pivots (λ r held. whole_below n (rows_done e.pivots) rows-whole r held)))
      (all_with (λ pivot. pivot.1 < n) (λ pivot. e.matrix pivot.0 pivot.1 ≢ zero_ℚ) (λ pivot. (pivot.1 < n) × (e.matrix pivot.0 pivot.1 ≢ zero_ℚ))
      (λ pivot p q. (p, q)) e.pivots (all_positions (λ p. p < n) e.pivots (λ p held. whole_below n (positions_done e.pivots) order-whole p held))
      (nonzero-pivots e.matrix e.pivots reached.stairs))

  comes-before : (first next : ℕ × ℕ) → InForm first → InForm next → Follows e.matrix first next → ComesBefore (form_of n e) first.1 next.1
  comes-before first next one other follows = record {
    apart = λ same. follows.position (sym same);
    other_rows = λ same. follows.row (sym other.row ∙ sym same ∙ one.row);
    no_entry = ap (λ r. cell (form_of n e) r first.1) other.row ∙ form-cell next.0 first.1 other.row_below one.position_below ∙ follows.none;
  }

  triangular : (pivots : List (ℕ × ℕ)) → AllByRecursion InForm pivots → IsStaircase e.matrix pivots → Pairwise (ComesBefore (form_of n e)) (positions_done pivots)
  triangular [] within stairs = tt
  triangular (pivot ∷ pivots) within stairs = (
    λ q held.
        let there = done_in (λ next. ComesBefore (form_of n e) pivot.1 next.1) q pivots
        (all_with InForm (Follows e.matrix pivot) (λ next. ComesBefore (form_of n e) pivot.1 next.1)
        (λ next inside follows. comes-before pivot next within.0 inside follows) pivots within.1 stairs.1) held in
        subst (ComesBefore (form_of n e) pivot.1) (sym there.1) there.2,
    triangular pivots within.1 stairs.2,
  )

  form-nonzero : (p : ℕ) → p < n → diagonal (form_of n e) p ≢ zero_ℚ
  form-nonzero p lt =
      let there = done_in InForm p e.pivots in-form (in_whole n (positions_done e.pivots) order-whole p lt) in
      let pivot = there.0 in
      subst (λ q. diagonal (form_of n e) q ≢ zero_ℚ) (sym there.1)
      (λ none.
      there.2.nonzero
      (sym (ap (λ r. cell (form_of n e) r pivot.1) there.2.row ∙ form-cell pivot.0 pivot.1 there.2.row_below there.2.position_below) ∙ none))

  form-rising : (p : ℕ) → IsRising n 0 (column (form_of n e) p)
  form-rising p =
      ⊎_elim
      (λ (lt : p < n). subst (IsRising n 0) (sym (form-column p lt)) (sparse-rising n (matrix_column n e.matrix p) (length-map-upto (λ j. e.matrix j p) n)))
      (λ (le : n ≤ p).
      subst (λ (c : Sparse ℚ). IsRising n 0 c.pairs)
      (sym (get_or_past (form_of n e).columns p (record { length = 0; pairs = [] }) (omega (arith, length-map-upto (λ q. sparse (matrix_column n e.matrix q)) n)))) tt)
      (cases_lt p n)

  pub form-upper : IsUpper n (form_of n e)
  form-upper = record {
    column_count = length-map-upto (λ q. sparse (matrix_column n e.matrix q)) n;
    row_count = length-map-upto (row_paired e.pivots) n;
    rising = form-rising;
    whole = order-whole;
    paired =
        subst (IsPermutation (range_with_len 0 n))
        (sym (rows-mapped (row_of (form_of n e)) e.pivots (all_map InForm (λ pivot. row_of (form_of n e) pivot.1 ≡ pivot.0) (λ pivot inside. inside.row) e.pivots in-form)))
        rows-whole;
    triangular = triangular e.pivots in-form reached.stairs;
    nonzero = form-nonzero;
  }

  form-represents : Represents n e.ops (form_of n e) b
  form-represents = record {
    within = All-from_recursion (IsOp n) e.ops reached.within;
    upper = form-upper;
    columns = λ i p below lt. sym (reached.matrix_made i p below lt) ∙ sym (form-cell i p below lt);
  }

  form-few : 2 * stored e.ops ≤ n * (n - 1)
  form-few = omega (arith, reached.few)

-- ---- where a row has no pivot

one_nonzero : one_ℚ ≢ zero_ℚ
unfolding one_ℚ zero_ℚ
one_nonzero e = let same : pos 1 ≡ pos 0 = ap (λ (a : ℚ). a.numerator) e in absurd cc

-- operations on columns of other rows leave an item as it is, back too
item-kept : (n r : ℕ) (ops : List Op) → AllByRecursion (IsOp n) ops → AllByRecursion (IsElsewhere r) ops → (y : List ℚ) → length y ≡ n → at (apply_back y ops).answer r ≡ at y r
item-kept n r [] within elsewhere y len = ap (λ v. at v r) (answer-done y)
item-kept n r (Column p k ∷ ops) within elsewhere y len =
    let v = (apply_back y ops).answer in
    let v_len : length v ≡ n = length-apply y (map transposed (reverse ops)) ∙ len in
    ap (λ v. at v r) (back-first y (Column p k) ops)
    ∙ row-other n p k v (omega (arith, within.0.0, v_len)) within.0.1 r (λ e. elsewhere.0 (sym e))
    ∙ item-kept n r ops within.1 elsewhere.1 y len
item-kept n r (Row p k ∷ ops) within elsewhere y len = absurd elsewhere.0

module _ (n : ℕ) (b : ℕ → ℕ → ℚ) (e : Elimination) (end : IsEnd n b e) (r : ℕ) (left : In r e.rows) where
  row-none : (p : ℕ) → p < n → e.matrix r p ≡ zero_ℚ
  row-none p lt =
      ⊎_elim (λ (held : In p e.positions). end.over r p left held)
      (λ (done : (pivot : ℕ × ℕ) × (p ≡ pivot.1) × IsDone e.matrix e.rows e.positions pivot). ap (e.matrix r) done.1 ∙ done.2.none r left)
      (position_cases n b e end.reached p lt)

  dependence : IsDependence n b (apply_back (unit_vector n r) e.ops).answer
  dependence =
      let y = (apply_back (unit_vector n r) e.ops).answer in
      let below = row_left-below n b e end.reached r left in
      let unit_len = length-map-upto (λ i. at_index i r one_ℚ) n in
      record {
        rows = length-apply (unit_vector n r) (map transposed (reverse e.ops)) ∙ unit_len;
        nonzero = (
          r,
          below,
          λ none.
              one_nonzero
              (sym (item-kept n r e.ops end.reached.within (end.reached.elsewhere r left) (unit_vector n r) unit_len
              ∙ get-map-upto (λ i. at_index i r one_ℚ) zero_ℚ n r below ∙ at_index-same r one_ℚ)
              ∙ none),
        );
        vanishes = λ p lt.
            let column = matrix_column n b p in
            sum-cong n (λ i. at y i *ℚ b i p) (λ i. at y i *ℚ at column i) (λ i lt'. ap (λ x. at y i *ℚ x) (sym (get-map-upto (λ j. b j p) zero_ℚ n i lt')))
            ∙ transposes n e.ops end.reached.within (unit_vector n r) column unit_len (length-map-upto (λ j. b j p) n)
            ∙ unit-product n r (at (apply column e.ops).answer) below
            ∙ sym (end.reached.matrix_made r p below lt) ∙ row-none p lt;
      }

-- ---- what factoring answers

-- factors stand for the matrix, and a combination shows that it is dependent
abbrev pub Stands : ℕ → (ℕ → ℕ → ℚ) → Factored → Type 0
Stands n b (whole ops u) = Represents n ops u b × (length ops ≡ n) × (2 * stored ops ≤ n * (n - 1))
Stands n b (singular y) = IsDependence n b y

module _ (n : ℕ) (b : ℕ → ℕ → ℚ) where
  stands-by : (e : Elimination) → IsEnd n b e → (rows : List ℕ) → e.rows ≡ rows → Stands n b (factored_by n e rows).answer
  stands-by e end [] is =
      subst (Stands n b) (sym (answer-done (whole e.ops (form_of n e))))
      (form-represents n b e end.reached is, end.reached.count ∙ pivots-count n b e end.reached is, form-few n b e end.reached is)
  stands-by e end (r ∷ rows) is =
      let y = (apply_back (unit_vector n r) e.ops).answer in
      subst (Stands n b) (sym (answer-bind (apply_back (unit_vector n r) e.ops) (λ y. done (singular y)) ∙ answer-done (singular y)))
      (dependence n b e end r (subst (In r) (sym is) (inl refl)))

  pub factored-stands : Stands n b (factored n b).answer
  factored-stands =
      let e = (eliminated n n (start n b)).answer in
      let end = reaches n b n (start n b) (start-reached n b) (length-range_with_len 0 n) in
      subst (Stands n b) (sym (answer-bind (eliminated n n (start n b)) (λ x. factored_by n x x.rows))) (stands-by e end e.rows refl)

  -- factors are factors of the matrix, with an operation for each row, and few entries
  module _ (ops : List Op) (u : Triangle) (is : (factored n b).answer ≡ whole ops u) where
    pub factored-represents : Represents n ops u b
    factored-represents = (subst (Stands n b) is factored-stands).0

    pub factored-operations : length ops ≡ n
    factored-operations = (subst (Stands n b) is factored-stands).1

    pub factored-few : 2 * stored ops ≤ n * (n - 1)
    factored-few = (subst (Stands n b) is factored-stands).2

  -- and a singular answer is a combination of rows that is 0
  pub factored-dependence : (y : List ℚ) → (factored n b).answer ≡ singular y → IsDependence n b y
  factored-dependence y is = subst (Stands n b) is factored-stands

  -- a matrix with a combination of rows that is 0 is not regular
  dependence-irregular : (y : List ℚ) → IsDependence n b y → ¬ IsRegular n b
  dependence-irregular y shows regular =
      let there = shows.nonzero in
      there.2 (regular.rows (at y) shows.vanishes there.0 there.1)

  outcomes : (made : Factored) → Stands n b made → ((ops : List Op) × (u : Triangle) × (made ≡ whole ops u) × IsRegular n b) ⊎ ((y : List ℚ) × (made ≡ singular y) × (¬ IsRegular n b))
  outcomes (whole ops u) stands = inl (ops, u, refl, factors-regular n ops u b stands.0)
  outcomes (singular y) stands = inr (y, refl, dependence-irregular y stands)

  -- there are factors where the matrix is regular
  pub factored-regular : IsRegular n b → (ops : List Op) × (u : Triangle) × ((factored n b).answer ≡ whole ops u)
  factored-regular regular =
      ⊎_elim
      (λ (some : (ops : List Op) × (u : Triangle) × ((factored n b).answer ≡ whole ops u) × IsRegular n b). (some.0, some.1, some.2))
      (λ (none : (y : List ℚ) × ((factored n b).answer ≡ singular y) × (¬ IsRegular n b)). absurd (none.2 regular))
      (outcomes (factored n b).answer factored-stands)

  -- and none where its rows are dependent
  pub factored-singular : (y : List ℚ) → IsDependence n b y → (found : List ℚ) × ((factored n b).answer ≡ singular found)
  factored-singular y shows =
      ⊎_elim
      (λ (some : (ops : List Op) × (u : Triangle) × ((factored n b).answer ≡ whole ops u) × IsRegular n b). absurd (dependence-irregular y shows some.3))
      (λ (none : (y : List ℚ) × ((factored n b).answer ≡ singular y) × (¬ IsRegular n b)). (none.0, none.1))
      (outcomes (factored n b).answer factored-stands)

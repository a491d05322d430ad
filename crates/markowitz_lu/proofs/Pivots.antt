-- A pivot in the order of the links does what it does in the order of the definition.
use Rattle.std.proofs.Common.{◌≡◌, ◌≢◌, ℕ, ◌<◌, List, [], ◌∷◌, Option, Some, None, inl, inr, ⊎_elim, refl, sym, ap, ap₂, subst, ◌∙◌, arith}
use Rattle.std.proofs.lemmas.Bool.{cases_eq}
use Rattle.rational.specs.Rational.{ℚ, zero_ℚ, ◌-ℚ◌, ◌*ℚ◌, ◌/ℚ◌}
use Rattle.rational.proofs.RationalRing.{ring_ℚ}
use Rattle.rational.proofs.Ring.{◌≐◌, ◌⊙◌≗◌⟹◌, ◌⊖◌, ◌⊗◌, 𝟘}
use Rattle.rational.specs.Worked.{done, settle, less, quotient}
use Rattle.rational.proofs.Settling.{settle-answer}
use Rattle.sparse_cols.specs.Sparse.{value_at}
use Rattle.factor_model.specs.Vectors.{entry, or_zero}
use Rattle.factor_model.specs.Upper.{In, Pairwise}
use Rattle.factor_model.specs.Update.{AreApart}
use Rattle.factor_model.specs.Factoring.{Elimination, Eliminated, eliminate, others, with_pivot, pivoted}
use Rattle.factor_model.proofs.EditLaws.{in_others, Pairwise-others}
use Rattle.factor_model.proofs.PivotLaws.{taken, taken-none, taken-some, taken-rising, quotient_of_none, cases_ℚ}
use Rattle.factor_model.proofs.FactorReaches as reaches
use Rattle.factor_model.proofs.FactorReaches.{IsReached, apart_of, in_or_out, row_left-below}
use Rattle.markowitz_lu.specs.Inner.Lines.{less_lines}
use Rattle.markowitz_lu.proofs.Fitting.{AllFit, RowFits, fit-done, fit-bind, fit-first, fit-settles, fit-less_none, settled-fit, none-unfit, unfit-none, sweep-fits, sweep-fit}
use Rattle.markowitz_lu.proofs.LineSteps.{none_yet}
use Rattle.markowitz_lu.proofs.LinkOrder.{LineFits, lines-answer, lines-taken, lines-rising, lines-fits, lines-fit, swept_by, taken_by, value-here, value-there}
use Rattle.markowitz_lu.proofs.Rising.{rising_same, value_from_entry, none_from_entry}

-- the multipliers of the definition, at each row
module _ (r c : ℕ) (a : ℕ → ℕ → ℚ) where
  taken-out : (rows : List ℕ) (j : ℕ) → ¬ In j rows → value_at (taken r c a rows) j ≡ None
  taken-out [] j out = refl
  taken-out (i ∷ rows) j out =
      let rest = taken-out rows j (λ held. out (inr held)) in
      ⊎_elim
      (λ (none : a i c ≡ zero_ℚ). ap (λ ks. value_at ks j) (taken-none r c a i rows none) ∙ rest)
      (λ (some : a i c ≢ zero_ℚ). ap (λ ks. value_at ks j) (taken-some r c a i rows some) ∙ value-there i j (a i c /ℚ a r c) (taken r c a rows) (λ e. out (inl (sym e))) ∙ rest)
      (cases_ℚ (a i c))

  taken-zero : (rows : List ℕ) (j : ℕ) → a j c ≡ zero_ℚ → value_at (taken r c a rows) j ≡ None
  taken-zero [] j zero = refl
  taken-zero (i ∷ rows) j zero =
      let rest = taken-zero rows j zero in
      ⊎_elim
      (λ (none : a i c ≡ zero_ℚ). ap (λ ks. value_at ks j) (taken-none r c a i rows none) ∙ rest)
      (λ (some : a i c ≢ zero_ℚ).
      ap (λ ks. value_at ks j) (taken-some r c a i rows some)
      ∙ value-there i j (a i c /ℚ a r c) (taken r c a rows) (λ e. some (ap (λ (s : ℕ). a s c) e ∙ zero)) ∙ rest)
      (cases_ℚ (a i c))

  taken-held : (rows : List ℕ) (j : ℕ) → In j rows → a j c ≢ zero_ℚ → value_at (taken r c a rows) j ≡ Some (a j c /ℚ a r c)
  taken-held [] j held nonzero = absurd held
  taken-held (i ∷ rows) j (inl here) nonzero =
      ap (λ ks. value_at ks j) (taken-some r c a i rows (λ none. nonzero (ap (λ (s : ℕ). a s c) here ∙ none)))
      ∙ ap (value_at ((i, a i c /ℚ a r c) ∷ taken r c a rows)) here ∙ value-here i (a i c /ℚ a r c) (taken r c a rows)
      ∙ ap (λ (s : ℕ). Some (a s c /ℚ a r c)) (sym here)
  taken-held (i ∷ rows) j (inr later) nonzero =
      let rest = taken-held rows j later nonzero in
      ⊎_elim
      (λ (none : a i c ≡ zero_ℚ). ap (λ ks. value_at ks j) (taken-none r c a i rows none) ∙ rest)
      (λ (some : a i c ≢ zero_ℚ).
      ap (λ ks. value_at ks j) (taken-some r c a i rows some)
      ∙ again i some rest)
      (cases_ℚ (a i c))
    where
      again : (h : ℕ) → a h c ≢ zero_ℚ → value_at (taken r c a rows) j ≡ Some (a j c /ℚ a r c) → value_at ((h, a h c /ℚ a r c) ∷ taken r c a rows) j ≡ Some (a j c /ℚ a r c)
      again h some rest =
          ⊎_elim
          (λ (e : h ≡ j). ap (value_at ((h, a h c /ℚ a r c) ∷ taken r c a rows)) (sym e) ∙ value-here h (a h c /ℚ a r c) (taken r c a rows) ∙ ap (λ (s : ℕ). Some (a s c /ℚ a r c)) e)
          (λ (ne : h ≢ j). value-there h j (a h c /ℚ a r c) (taken r c a rows) ne ∙ rest)
          (cases_eq h j)

-- what the code has read of the pivot, its row and its column, and the cells that are left
pub record AreRead (n : ℕ) (e : Elimination) (r c : ℕ) (f : ℕ → ℕ → ℚ) (u : ℚ) (row column : List (ℕ × ℚ)) : Type 0 where
  pub pivot : u ≡ e.matrix r c
  pub row_apart : AreApart n row
  pub column_apart : AreApart n column
  pub row_in : (p : ℕ) (x : ℚ) → value_at row p ≡ Some x → In p (others c e.positions)
  pub row_entry : (p : ℕ) → In p (others c e.positions) → entry row p ≡ e.matrix r p
  pub column_in : (i : ℕ) (x : ℚ) → value_at column i ≡ Some x → In i (others r e.rows) × (x ≢ zero_ℚ)
  pub column_entry : (i : ℕ) → In i (others r e.rows) → entry column i ≡ e.matrix i c
  pub cells : (i p : ℕ) → In i (others r e.rows) → In p (others c e.positions) → f i p ≡ e.matrix i p

module _ (n : ℕ) (b : ℕ → ℕ → ℚ) (e : Elimination) (reached : IsReached n b e) (pivot : ℕ × ℕ) (row_held : In pivot.0 e.rows) (position_held : In pivot.1 e.positions)
    (nonzero : e.matrix pivot.0 pivot.1 ≢ zero_ℚ) (f : ℕ → ℕ → ℚ) (u : ℚ) (row column : List (ℕ × ℚ)) (read : AreRead n e pivot.0 pivot.1 f u row column) where
  abbrev a : ℕ → ℕ → ℚ
  a = e.matrix

  abbrev rows : List ℕ
  rows = others pivot.0 e.rows

  abbrev ps : List ℕ
  ps = others pivot.1 e.positions

  rise : Pairwise ◌<◌ rows
  rise = Pairwise-others ◌<◌ pivot.0 e.rows reached.rows_rise

  distinct : Pairwise ◌≢◌ ps
  distinct = apart_of ps (Pairwise-others ◌<◌ pivot.1 e.positions reached.positions_rise)

  out : ¬ In pivot.0 rows
  out held = (in_others pivot.0 pivot.0 e.rows held).1 refl

  row-none : (p : ℕ) → ¬ In p ps → entry row p ≡ zero_ℚ
  row-none p away = by_case (value_at row p) refl
    where
      by_case : (o : Option ℚ) → value_at row p ≡ o → entry row p ≡ zero_ℚ
      by_case None is = ap or_zero is
      by_case (Some x) is = absurd (away (read.row_in p x is))

  column-some : (i : ℕ) → In i rows → a i pivot.1 ≢ zero_ℚ → value_at column i ≡ Some (a i pivot.1)
  column-some i held some = value_from_entry column i (a i pivot.1) (read.column_entry i held) some

  column-none : (i : ℕ) → In i rows → a i pivot.1 ≡ zero_ℚ → value_at column i ≡ None
  column-none i held none = none_from_entry column i (λ x is. (read.column_in i x is).1) (read.column_entry i held ∙ none)

  column-is : (i : ℕ) (x : ℚ) → value_at column i ≡ Some x → x ≡ a i pivot.1
  column-is i x is = sym (ap or_zero is) ∙ read.column_entry i (read.column_in i x is).0

  -- ---- the values

  module _ (w : ℕ) where
    forth : (i : ℕ) → In i rows → a i pivot.1 ≢ zero_ℚ → AllFit w (less_lines u row f [] column) → RowFits w pivot.0 pivot.1 ps distinct a i
    forth i held some all =
        let line = lines-fit u row n read.row_apart w column f [] read.column_apart all i (a i pivot.1) (column-some i held some) in
        record {
          multiplier = subst (λ z. AllFit w (quotient (a i pivot.1) z)) read.pivot line.multiplier;
          items = λ p inside.
              subst (λ z. AllFit w (less (a i p) (a i pivot.1 /ℚ z) (a pivot.0 p))) read.pivot
              (subst (λ z. AllFit w (less z (a i pivot.1 /ℚ u) (a pivot.0 p))) (read.cells i p held inside)
              (subst (λ z. AllFit w (less (f i p) (a i pivot.1 /ℚ u) z)) (read.row_entry p inside) (line.items p)));
        }

    back : ((i : ℕ) → In i rows → a i pivot.1 ≢ zero_ℚ → RowFits w pivot.0 pivot.1 ps distinct a i) → (i : ℕ) (x : ℚ) → value_at column i ≡ Some x
        → LineFits u row n read.row_apart w f i x
    back all i x is =
        let there = read.column_in i x is in
        let x_is = column-is i x is in
        let fits = all i there.0 (λ none. there.1 (x_is ∙ none)) in
        subst (LineFits u row n read.row_apart w f i) (sym x_is) (record {
          multiplier = subst (λ z. AllFit w (quotient (a i pivot.1) z)) (sym read.pivot) fits.multiplier;
          items = λ q. ⊎_elim
              (λ (inside : In q ps).
              subst (λ z. AllFit w (less (f i q) (a i pivot.1 /ℚ u) z)) (sym (read.row_entry q inside))
              (subst (λ z. AllFit w (less z (a i pivot.1 /ℚ u) (a pivot.0 q))) (sym (read.cells i q there.0 inside))
              (subst (λ z. AllFit w (less (a i q) (a i pivot.1 /ℚ z) (a pivot.0 q))) (sym read.pivot) (fits.items q inside))))
              (λ (away : ¬ In q ps). fit-less_none w (f i q) (a i pivot.1 /ℚ u) (entry row q) (row-none q away))
              (in_or_out q ps);
        })

    whole_fits : AllFit w (eliminate pivot.0 pivot.1 ps a [] rows) → AllFit w (pivoted n e pivot)
    unfolding pivoted
    whole_fits all = fit-bind w (eliminate pivot.0 pivot.1 ps a [] rows) (λ left. done (with_pivot n e pivot left)) all (fit-done w (with_pivot n e pivot (eliminate pivot.0 pivot.1 ps a [] rows).answer))

    whole_fit : AllFit w (pivoted n e pivot) → AllFit w (eliminate pivot.0 pivot.1 ps a [] rows)
    unfolding pivoted
    whole_fit all = fit-first w (eliminate pivot.0 pivot.1 ps a [] rows) (λ left. done (with_pivot n e pivot left)) all

    pub pivot_settles : (left : Eliminated) → settle w (less_lines u row f [] column) ≡ Some left → settle w (pivoted n e pivot) ≡ Some (pivoted n e pivot).answer
    pivot_settles left settled =
        let all = settled-fit w (less_lines u row f [] column) left settled in
        fit-settles w (pivoted n e pivot) (whole_fits (sweep-fits w pivot.0 pivot.1 ps distinct rows a [] rise out (λ i held some. forth i held some all)))

    pub pivot_stops : settle w (less_lines u row f [] column) ≡ None → settle w (pivoted n e pivot) ≡ None
    pivot_stops none =
        unfit-none w (pivoted n e pivot) (λ all. none-unfit w (less_lines u row f [] column) none
        (lines-fits u row n read.row_apart w column f [] read.column_apart
        (back (sweep-fit w pivot.0 pivot.1 ps distinct rows a [] rise out (whole_fit all)))))

  -- ---- the answer

  abbrev rest : Eliminated
  rest = (eliminate pivot.0 pivot.1 ps a [] rows).answer

  line-is : (i p : ℕ) → In i rows → In p ps → (less_lines u row f [] column).answer.0 i p ≡ rest.0 i p
  line-is i p held inside =
      let within : rest.0 i p ≡ a i p -ℚ (a i pivot.1 /ℚ a pivot.0 pivot.1) *ℚ a pivot.0 p =
      (reaches.swept n b e reached pivot row_held position_held nonzero i held).within p (in_others pivot.1 p e.positions inside).1 inside in
      lines-answer u row n read.row_apart column f [] read.column_apart i p
      ∙ ⊎_elim
      (λ (none : a i pivot.1 ≡ zero_ℚ).
      ap (λ o. swept_by u row n read.row_apart o (f i) p) (column-none i held none) ∙ read.cells i p held inside
      ∙ ring_ℚ 3 (λ y k z. z ⊙ k ≗ 𝟘 ⟹ y ≐ y ⊖ k ⊗ z) tt (a i p) (a i pivot.1 /ℚ a pivot.0 pivot.1) (a pivot.0 p) (quotient_of_none (a i pivot.1) (a pivot.0 pivot.1) none))
      (λ (some : a i pivot.1 ≢ zero_ℚ).
      ap (λ o. swept_by u row n read.row_apart o (f i) p) (column-some i held some)
      ∙ ap₂ (λ y z. y -ℚ z) (read.cells i p held inside) (ap₂ (λ y z. (a i pivot.1 /ℚ y) *ℚ z) read.pivot (read.row_entry p inside)))
      (cases_ℚ (a i pivot.1))
      ∙ sym within

  multipliers-are : (less_lines u row f [] column).answer.1 ≡ taken pivot.0 pivot.1 a rows
  multipliers-are =
      rising_same n 0 _ _ (lines-rising u row n read.row_apart column f [] read.column_apart (none_yet column) tt)
      (taken-rising pivot.0 pivot.1 n 0 a rows rise (λ j held. (omega arith, row_left-below n b e reached j (in_others pivot.0 j e.rows held).0)))
      (λ j. lines-taken u row n read.row_apart column f [] read.column_apart (none_yet column) j ∙ ⊎_elim
      (λ (held : In j rows). ⊎_elim
      (λ (none : a j pivot.1 ≡ zero_ℚ).
      ap (λ o. taken_by u row n read.row_apart o None) (column-none j held none) ∙ sym (taken-zero pivot.0 pivot.1 a rows j none))
      (λ (some : a j pivot.1 ≢ zero_ℚ).
      ap (λ o. taken_by u row n read.row_apart o None) (column-some j held some) ∙ ap (λ z. Some (a j pivot.1 /ℚ z)) read.pivot ∙ sym (taken-held pivot.0 pivot.1 a rows j held some))
      (cases_ℚ (a j pivot.1)))
      (λ (away : ¬ In j rows).
      ap (λ o. taken_by u row n read.row_apart o None) (by_case j away (value_at column j) refl) ∙ sym (taken-out pivot.0 pivot.1 a rows j away))
      (in_or_out j rows))
    where
      by_case : (j : ℕ) → ¬ In j rows → (o : Option ℚ) → value_at column j ≡ o → value_at column j ≡ None
      by_case j away None is = is
      by_case j away (Some x) is = absurd (away (read.column_in j x is).0)

  module _ (w : ℕ) (g : ℕ → ℕ → ℚ) (ks : List (ℕ × ℚ)) (settled : settle w (less_lines u row f [] column) ≡ Some (g, ks)) where
    answer-is : (less_lines u row f [] column).answer ≡ (g, ks)
    answer-is = settle-answer w (less_lines u row f [] column) (g, ks) settled

    pub pivot-cells : (i p : ℕ) → In i rows → In p ps → g i p ≡ rest.0 i p
    pivot-cells i p held inside = sym (ap (λ (left : Eliminated). left.0 i p) answer-is) ∙ line-is i p held inside

    pub pivot-multipliers : ks ≡ rest.1
    pivot-multipliers =
        sym (ap (λ (left : Eliminated). left.1) answer-is) ∙ multipliers-are ∙ sym (reaches.taken-is n b e reached pivot row_held position_held nonzero)

-- A pivot, from its four parts.
use Rattle.std.proofs.Common.{◌≡◌, ℕ, List, [], ◌++◌, length, get_or, Some, None, Result, Err, IsErrAnd, refl, sym, ◌∙◌, ap, subst}
use Rattle.std.proofs.lemmas.List.{get_or-map, length-map}
use Rattle.lp_model.specs.declared.Kind.TheVariants as kind
use Rattle.lp_model.specs.declared.Place.{Place}
use Rattle.rational.specs.Rational.{ℚ, zero_ℚ, ◌/ℚ◌}
use Rattle.rational.specs.Sum.{at}
use Rattle.rational.proofs.VectorLaws.{same_vectors}
use Rattle.lp_run.specs.Listing.{AllFit, Listed, first_unfit, place, Judges}
use Rattle.lp_run.proofs.FirstUnfit.{all-append}
use Rattle.plain_table.specs.declared.pivot.Pivot.{Pivot}
use Rattle.plain_table.specs.Inner.Lines.{AreDivided, AreLess, less_listing, quotients_listing}
use Rattle.plain_table.specs.Inner.Pivots.{ArePivoted, line_listing, pivot_line, quotients, swap_listing}
use Rattle.plain_table.specs.Inner.Rows.{AreEliminated, rows_listing}
use Rattle.plain_table.specs.Inner.Values.{AreMoved, values_listing}
use Rattle.plain_table.proofs.Parts.{judged_first, judged_next, judged_on}

-- ── the line that is divided ──

module _ (v : Pivot) (rows : List (List ℚ)) (line : List ℚ) (pivot : ℚ) (b : line ≡ get_or rows v.position []) (c : pivot ≡ at line v.column) where
  line_is : (here : Place) → here ≡ place v.number kind.Entry (Some v.position) None → quotients_listing here line pivot ≡ line_listing v rows
  line_is here a =
      ap (λ h. quotients_listing h line pivot) a ∙ ap (λ p. quotients_listing (place v.number kind.Entry (Some v.position) None) line p) c
      ∙ ap (λ l. quotients_listing (place v.number kind.Entry (Some v.position) None) l (at l v.column)) b

  pub line_judged : {A : Type 0} (w : ℕ) (here : Place) (r : Result A Place) → here ≡ place v.number kind.Entry (Some v.position) None
      → Judges w (quotients_listing here line pivot) r → Judges w (line_listing v rows) r
  line_judged w here r a h = subst (λ vs. Judges w vs r) (line_is here a) h

  pub by_is : (by : List ℚ) → length by ≡ length line → AreDivided line pivot by → by ≡ pivot_line v rows
  by_is by long divided =
      same_vectors by (quotients line pivot) (length line) long (length-map line (λ x. x /ℚ pivot))
      (λ j below. divided j below ∙ sym (get_or-map (λ x. x /ℚ pivot) line j zero_ℚ zero_ℚ below))
      ∙ ap (λ p. quotients line p) c ∙ ap (λ l. quotients l (at l v.column)) b

-- ── the parts in their order ──

abbrev rejected : Place → Result (Unit {0}) Place
rejected first = Err first

module _ (w : ℕ) (v : Pivot) (alpha : List ℚ) (rows : List (List ℚ)) (values costs : List ℚ) where
  abbrev line_part : List Listed
  line_part = line_listing v rows

  abbrev rows_part : List ℚ → List Listed
  rows_part by = rows_listing v.number v.position 0 v.column by rows

  abbrev values_part : List Listed
  values_part = values_listing v.number v.position v.down v.rest v.ratio values alpha

  abbrev costs_part : List ℚ → List Listed
  costs_part by = less_listing (place v.number kind.Cost None None) costs (at costs v.column) by

  -- what the first two parts refuse
  rows_first : (first : Place) → first_unfit w (line_part ++ rows_part (pivot_line v rows)) ≡ Some first → first_unfit w (swap_listing v alpha rows values costs) ≡ Some first
  rows_first first unfit =
      judged_first w (line_part ++ rows_part (pivot_line v rows) ++ values_part) (costs_part (pivot_line v rows)) first
      (judged_first w (line_part ++ rows_part (pivot_line v rows)) values_part first unfit)

  pub line_refused : {A : Type 0} (first : Place) (r : Result A Place) → first_unfit w line_part ≡ Some first → IsErrAnd r (λ here. here ≡ first)
      → Judges w (swap_listing v alpha rows values costs) r
  line_refused first r unfit refused =
      judged_on w w (swap_listing v alpha rows values costs) first r refl (rows_first first (judged_first w line_part (rows_part (pivot_line v rows)) first unfit)) refused

  module _ (fits : AllFit w line_part) (by : List ℚ) (is : by ≡ pivot_line v rows) where
    pub rows_refused : {A : Type 0} (u : ℕ) (first : Place) (r : Result A Place) → u ≡ w → first_unfit u (rows_part by) ≡ Some first → IsErrAnd r (λ here. here ≡ first)
        → Judges w (swap_listing v alpha rows values costs) r
    rows_refused u first r same unfit refused =
        judged_on w w (swap_listing v alpha rows values costs) first r refl
        (rows_first first
        (judged_next w line_part (rows_part (pivot_line v rows)) (rejected first) fits
        (subst (λ w. first_unfit w (rows_part (pivot_line v rows)) ≡ Some first) same (subst (λ by. first_unfit u (rows_part by) ≡ Some first) is unfit)))) refused

    module _ (u : ℕ) (same : u ≡ w) (rows_here : AllFit u (rows_part by)) where
      rows_fit : AllFit w (line_part ++ rows_part (pivot_line v rows))
      rows_fit = all-append w line_part (rows_part (pivot_line v rows)) fits (subst (λ w. AllFit w (rows_part (pivot_line v rows))) same (subst (λ by. AllFit u (rows_part by)) is rows_here))

      pub values_refused : {A : Type 0} (u' : ℕ) (first : Place) (r : Result A Place) → u' ≡ w → first_unfit u' values_part ≡ Some first → IsErrAnd r (λ here. here ≡ first)
          → Judges w (swap_listing v alpha rows values costs) r
      values_refused u' first r same' unfit refused =
          judged_on w w (swap_listing v alpha rows values costs) first r refl
          (judged_first w (line_part ++ rows_part (pivot_line v rows) ++ values_part) (costs_part (pivot_line v rows)) first
          (judged_next w (line_part ++ rows_part (pivot_line v rows)) values_part (rejected first) rows_fit (subst (λ w. first_unfit w values_part ≡ Some first) same' unfit))) refused

      pub costs_judged : {A : Type 0} (u' u'' : ℕ) (here : Place) (factor : ℚ) (r : Result A Place) → u' ≡ w → u'' ≡ w → here ≡ place v.number kind.Cost None None → factor ≡ at costs v.column
          → AllFit u' values_part → Judges u'' (less_listing here costs factor by) r → Judges w (swap_listing v alpha rows values costs) r
      costs_judged u' u'' here factor r same' same'' a b values_here h =
          judged_next w (line_part ++ rows_part (pivot_line v rows) ++ values_part) (costs_part (pivot_line v rows)) r
          (all-append w (line_part ++ rows_part (pivot_line v rows)) values_part rows_fit (subst (λ w. AllFit w values_part) same' values_here))
          (subst (λ w. Judges w (costs_part (pivot_line v rows)) r) same''
          (subst (λ by. Judges u'' (costs_part by) r) is
          (subst (λ f. Judges u'' (less_listing (place v.number kind.Cost None None) costs f by) r) b
          (subst (λ h. Judges u'' (less_listing h costs factor by) r) a h))))

-- what is worked
pub are_pivoted : (v : Pivot) (alpha : List ℚ) (rows : List (List ℚ)) (values costs : List ℚ) (columns : List ℕ) (out_rows : List (List ℚ)) (out_values out_costs by : List ℚ) (factor : ℚ)
    → by ≡ pivot_line v rows → factor ≡ at costs v.column
    → AreEliminated v.position 0 v.column by columns rows out_rows → AreMoved v.position v.down v.rest v.ratio values alpha out_values → AreLess costs factor by out_costs
    → ArePivoted v alpha rows values costs columns out_rows out_values out_costs
are_pivoted v alpha rows values costs columns out_rows out_values out_costs by factor is b eliminated moved less = record {
  rows_after = subst (λ by. AreEliminated v.position 0 v.column by columns rows out_rows) is eliminated;
  values_after = moved;
  costs_after = subst (λ by. AreLess costs (at costs v.column) by out_costs) is (subst (λ f. AreLess costs f by out_costs) b less);
}

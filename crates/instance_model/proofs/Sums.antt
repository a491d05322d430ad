-- The start sums of a row as they are worked.
use Rattle.std.proofs.Common.{◌≡◌, ℕ, suc, ◌+◌, ◌<◌, ◌≤◌, List, [], ◌++◌, get_or, cond, Bool, true, false, Option, Some, None, refl}
use Rattle.std.proofs.Common.{sym, ◌∙◌, ap, ap₂, subst, arith, IsErrAnd, Result, length, ◌∷◌, All, IsTrue, ◌↔◌, drop, inr, not, zero}
use Rattle.std.proofs.lemmas.List.{get_or-map, length-map, append-nil, at_drop_all, at_drop_more}
use Rattle.std.specs.Option.{option_map}
use Rattle.std.specs.declared.cmp.Ordering.TheVariants.{Less, Equal, Greater}
use Rattle.lp_model.specs.declared.Kind.TheVariants as kind
use Rattle.lp_model.specs.declared.Place.{Place}
use Rattle.lp_model.specs.declared.RowKind.{RowKind}
use Rattle.lp_model.specs.declared.RowKind.TheVariants.{L, G, E}
use Rattle.lp_model.specs.Deck.{Deck, Interval, Row, column, logical_bounds, no_column, no_row, nonnegative, row}
use Rattle.rational.specs.Rational.{ℚ, zero_ℚ, ◌+ℚ◌, ◌-ℚ◌, ◌*ℚ◌, neg_ℚ, abs_ℚ, eq_ℚ}
use Rattle.rational.specs.Sparse.{entry_at, upto}
use Rattle.rational.specs.Sum.{sum_ℚ, at}
use Rattle.rational.specs.Width.{FitsWidth}
use Rattle.rational.specs.Worked.{less, placed, settle, Worked, done}
use Rattle.rational.proofs.OrderLaws.{abs_ℚ-below, by_cmp, eq_ℚ-decides, eq_ℚ-tested}
use Rattle.rational.proofs.RationalRing.{ring_ℚ}
use Rattle.rational.proofs.Ring.{◌≐◌, ◌⊕◌, ◌⊖◌, ⊝◌, 𝟘}
use Rattle.rational.proofs.Settling.{less_answer, settle-answer, less-none}
use Rattle.rational.proofs.SumLaws.{sum-suc, sum-zero_terms}
use Rattle.rational.proofs.WidthLaws.{fits_width-decides, unfit_tested}
use Rattle.lp_run.specs.Instance.{Instance, Structural, equations_of, logical, no_structural, range_sum, residual, start_value, structural, structural_count, structural_of}
use Rattle.lp_run.specs.Listing.{AllFit, Listed, first_unfit, listed_at, place, start_sums, Judges}
use Rattle.lp_run.proofs.FirstUnfit.{all-append, fit-append, fit-placed, one-fits, one-unfit, unfit-append, unfit-placed}
use Rattle.instance_model.specs.Inner.Starts.{excess_listing, range_shift, row_place, row_start, side_past, takings, off_zero, starts_off}
use Rattle.std.proofs.lemmas.Result.{err_from_is_err_and}
use Rattle.std.specs.List.{filter, range_with_len}
use Rattle.std.proofs.lemmas.List.Elements.{All-filter, filter-append}
use Rattle.std.proofs.lemmas.List.FromFn.{get_or-range_with_len, length-range_with_len}

-- ── one value ──

module _ (w : ℕ) (here : Place) (o : Option ℚ) (v : ℚ) (is : o ≡ Some v) where
  pub value_fits : FitsWidth w v → AllFit w (listed_at here o)
  value_fits fits = ap (λ o. first_unfit w (listed_at here o)) is ∙ one-fits w here v ((fits_width-decides w v).1 fits)

  pub value_unfit : ¬ FitsWidth w v → first_unfit w (listed_at here o) ≡ Some here
  value_unfit unfit = ap (λ o. first_unfit w (listed_at here o)) is ∙ one-unfit w here v (unfit_tested w v unfit)

-- ── what a range gives ──

pub shift_gives : (r : Row) → range_sum r ≡ option_map (λ shift. r.right +ℚ shift) (range_shift r.kind r.range)
shift_gives r = by_cases r.kind r.range
  where
    taken_off : (a : ℚ) → r.right -ℚ a ≡ r.right +ℚ neg_ℚ a
    taken_off a = ring_ℚ 2 (λ x y. x ⊖ y ≐ x ⊕ (⊝ y)) tt r.right a

    by_cases : (k : RowKind) (o : Option ℚ) → range_sum (record r { kind = k; range = o }) ≡ option_map (λ shift. r.right +ℚ shift) (range_shift k o)
    by_cases L None = refl
    by_cases L (Some v) = ap Some (taken_off (abs_ℚ v))
    by_cases G None = refl
    by_cases G (Some v) = refl
    by_cases E None = refl
    by_cases E (Some v) =
        by_cmp (λ o. elim o [ Less ↦ Some (r.right -ℚ abs_ℚ v) | Equal ↦ None | Greater ↦ Some (r.right +ℚ v) ]
        ≡ option_map (λ shift. r.right +ℚ shift) (elim o [ Less ↦ Some v | Equal ↦ None | Greater ↦ Some v ])) v zero_ℚ
        (λ below. ap Some (ap (λ a. r.right -ℚ a) (abs_ℚ-below v below) ∙ ring_ℚ 2 (λ x y. x ⊖ (⊝ y) ≐ x ⊕ y) tt r.right v))
        (λ _. refl) (λ _. refl)

pub nothing_taken : (own : ℚ) (f : ℕ → ℚ) → own ≡ own -ℚ sum_ℚ 0 f
nothing_taken own f = ring_ℚ 1 (λ o. o ≐ o ⊖ 𝟘) tt own ∙ ap (λ s. own -ℚ s) (sym (sum-zero_terms f))

-- ── the products of a row ──

module _ (inst : Instance) (i : ℕ) where
  abbrev at_entry : ℕ → ℚ
  at_entry j = entry_at (structural inst j).entries i

  abbrev at_start : ℕ → ℚ
  at_start j = start_value (structural inst j).bounds

  -- what structurals leave of a number
  abbrev pub left_over : ℚ → List ℕ → ℚ
  left_over left [] = left
  left_over left (j ∷ js) = left_over (less left (entry_at (structural inst j).entries i) (start_value (structural inst j).bounds)).answer js

  starts_at_zero : (j : ℕ) → starts_off inst j ≡ false → at_start j ≡ zero_ℚ
  starts_at_zero j e = (eq_ℚ-decides (at_start j) zero_ℚ).0 (turned (eq_ℚ (at_start j) zero_ℚ) e)
    where
      turned : (b : Bool) → not b ≡ false → b ≡ true
      turned true h = refl
      turned false h = absurd (cc h)

  nothing : (left : ℚ) (j : ℕ) → at_start j ≡ zero_ℚ → less left (at_entry j) (at_start j) ≡ done left
  nothing left j e = less-none left (at_entry j) (at_start j) (inr e)

  taken_none : (left : ℚ) (j : ℕ) (js : List ℕ) → at_start j ≡ zero_ℚ → takings inst i left js ≡ takings inst i left (j ∷ js)
  unfolding done
  taken_none left j js e = sym (ap (λ (c : Worked ℚ). placed (place 0 kind.Start (Some i) (Some j)) c ++ takings inst i c.answer js) (nothing left j e))

  left_none : (left : ℚ) (j : ℕ) (js : List ℕ) → at_start j ≡ zero_ℚ → left_over left js ≡ left_over left (j ∷ js)
  unfolding done
  left_none left j js e = sym (ap (λ (c : Worked ℚ). left_over c.answer js) (nothing left j e))

  -- those that start at 0 take nothing
  pub moved_take : (left : ℚ) (js : List ℕ) → takings inst i left (filter (starts_off inst) js) ≡ takings inst i left js
  moved_take left [] = refl
  moved_take left (j ∷ js) = by_test (λ r. moved_take r js) (starts_off inst j) refl
    where
      by_test : ((r : ℚ) → takings inst i r (filter (starts_off inst) js) ≡ takings inst i r js) → (t : Bool) → starts_off inst j ≡ t
          → takings inst i left (cond t (j ∷ filter (starts_off inst) js) (filter (starts_off inst) js))
          ≡ takings inst i left (j ∷ js)
      by_test further true e = ap (λ vs. placed (place 0 kind.Start (Some i) (Some j)) (less left (at_entry j) (at_start j)) ++ vs) (further (less left (at_entry j) (at_start j)).answer)
      by_test further false e = further left ∙ taken_none left j js (starts_at_zero j e)

  pub moved_leave : (left : ℚ) (js : List ℕ) → left_over left (filter (starts_off inst) js) ≡ left_over left js
  moved_leave left [] = refl
  moved_leave left (j ∷ js) = by_test (λ r. moved_leave r js) (starts_off inst j) refl
    where
      by_test : ((r : ℚ) → left_over r (filter (starts_off inst) js) ≡ left_over r js) → (t : Bool) → starts_off inst j ≡ t
          → left_over left (cond t (j ∷ filter (starts_off inst) js) (filter (starts_off inst) js))
          ≡ left_over left (j ∷ js)
      by_test further true e = further (less left (at_entry j) (at_start j)).answer
      by_test further false e = further left ∙ left_none left j js (starts_at_zero j e)

  leaves_sum : (own : ℚ) (j n : ℕ) (r : ℚ) → r ≡ own -ℚ sum_ℚ j (λ j. at_entry j *ℚ at_start j)
      → left_over r (range_with_len j n) ≡ own -ℚ sum_ℚ (j + n) (λ j. at_entry j *ℚ at_start j)
  leaves_sum own j zero r e =
      let same : j ≡ j + 0 = omega arith in
      e ∙ ap (λ k. own -ℚ sum_ℚ k (λ j. at_entry j *ℚ at_start j)) same
  leaves_sum own j (suc n) r e =
      let f : ℕ → ℚ = λ j. at_entry j *ℚ at_start j in
      let after : suc j ≡ j + 1 = omega arith in
      let last : j + 1 + n ≡ j + suc n = omega arith in
      leaves_sum own (j + 1) n (less r (at_entry j) (at_start j)).answer
      (less_answer r (at_entry j) (at_start j) ∙ ap (λ x. x -ℚ f j) e ∙ ring_ℚ 3 (λ o s p. (o ⊖ s) ⊖ p ≐ o ⊖ (s ⊕ p)) tt own (sum_ℚ j f) (f j)
      ∙ ap (λ s. own -ℚ s) (sym (sum-suc j f) ∙ ap (λ k. sum_ℚ k f) after))
      ∙ ap (λ k. own -ℚ sum_ℚ k f) last

  -- what those leave that do not start at 0 is the residual
  pub leaves_residual : left_over (at inst.right i) (off_zero inst) ≡ residual inst i
  leaves_residual =
      moved_leave (at inst.right i) (upto (structural_count inst))
      ∙ leaves_sum (at inst.right i) 0 (structural_count inst) (at inst.right i) (nothing_taken (at inst.right i) (λ j. at_entry j *ℚ at_start j))
      ∙ ap (λ k. at inst.right i -ℚ sum_ℚ k (λ j. at_entry j *ℚ at_start j)) (omega arith)

  -- ── one product after another ──

  module _ (w : ℕ) (js : List ℕ) (k j : ℕ) (rest a x : ℚ) (b : k < length js) (is : j ≡ get_or js k 0) (left : a ≡ at_entry j) (right : x ≡ at_start j) where
    next_of : {B : Type 0} (walk : List ℕ → B) → walk (drop k js) ≡ walk (j ∷ drop (k + 1) js)
    next_of walk = at_drop_more walk js k 0 b ∙ ap (λ j. walk (j ∷ drop (k + 1) js)) (sym is)

    parts : takings inst i rest (drop k js) ≡ placed (place 0 kind.Start (Some i) (Some j)) (less rest a x) ++ takings inst i (less rest a x).answer (drop (k + 1) js)
    parts =
        next_of (takings inst i rest)
        ∙ ap₂ (λ a x. placed (place 0 kind.Start (Some i) (Some j)) (less rest a x) ++ takings inst i (less rest a x).answer (drop (k + 1) js)) (sym left) (sym right)

    -- a product that settles: the rest decides
    pub taking_settles : (next : ℚ) → settle w (less rest a x) ≡ Some next → first_unfit w (takings inst i next (drop (k + 1) js)) ≡ first_unfit w (takings inst i rest (drop k js))
    taking_settles next e =
        sym (ap (first_unfit w) parts ∙ fit-append w (placed (place 0 kind.Start (Some i) (Some j)) (less rest a x)) _ (fit-placed w _ (less rest a x) next e)
        ∙ ap (λ r. first_unfit w (takings inst i r (drop (k + 1) js))) (settle-answer w (less rest a x) next e))

    -- a product that does not: it is the first that does not fit
    pub taking_stops : settle w (less rest a x) ≡ None → first_unfit w (takings inst i rest (drop k js)) ≡ Some (place 0 kind.Start (Some i) (Some j))
    taking_stops e =
        ap (first_unfit w) parts ∙ unfit-append w (placed (place 0 kind.Start (Some i) (Some j)) (less rest a x)) _ _ (unfit-placed w _ (less rest a x) e)

    pub taking_leaves : (next : ℚ) → settle w (less rest a x) ≡ Some next → left_over next (drop (k + 1) js) ≡ left_over rest (drop k js)
    taking_leaves next e =
        sym (next_of (left_over rest) ∙ ap₂ (λ a x. left_over (less rest a x).answer (drop (k + 1) js)) (sym left) (sym right)
        ∙ ap (λ r. left_over r (drop (k + 1) js)) (settle-answer w (less rest a x) next e))

pub none_left : (w : ℕ) (inst : Instance) (i k : ℕ) (rest : ℚ) (js : List ℕ) → length js ≤ k → first_unfit w (takings inst i rest (drop k js)) ≡ None
none_left w inst i k rest js b = at_drop_all (λ ks. first_unfit w (takings inst i rest ks)) js k b

-- a structural that does not start at 0 is one
pub moved_within : (inst : Instance) (k j : ℕ) → k < length (off_zero inst) → j ≡ get_or (off_zero inst) k 0 → j < structural_count inst
moved_within inst k j b is =
    let all : All (λ j. j < structural_count inst) (upto (structural_count inst)) = (λ k d b.
    let within : k < structural_count inst = subst (λ n. k < n) (length-range_with_len 0 (structural_count inst)) b in
    omega (within, arith, get_or-range_with_len 0 (structural_count inst) k d within)) in
    subst (λ j. j < structural_count inst) (sym is)
    (All-filter (starts_off inst) (λ j. j < structural_count inst) (upto (structural_count inst)) all k 0 b)

-- ── the parts of a deck's equations ──

module _ (d : Deck) (i : ℕ) (b : i < length d.rows) where
  pub right_is : (row d i).right ≡ at (equations_of d).right i
  right_is = sym (get_or-map (λ r. r.right) d.rows i no_row zero_ℚ b)

  pub logical_is : logical (equations_of d) i ≡ logical_bounds (row d i)
  logical_is = get_or-map logical_bounds d.rows i no_row nonnegative b

  pub range_is : get_or (equations_of d).range_sums i None ≡ range_sum (row d i)
  range_is = get_or-map range_sum d.rows i no_row None b

  -- the start sums of the row, part by part
  module _ (w : ℕ) (bounds : Interval) (rest : ℚ) (ends : bounds ≡ logical_bounds (row d i)) (is : rest ≡ residual (equations_of d) i) where
    abbrev products : List Listed
    products = takings (equations_of d) i (at (equations_of d).right i) (upto (structural_count (equations_of d)))

    sums_are : start_sums (equations_of d) i ≡ (products ++ excess_listing i bounds rest) ++ listed_at (row_place i) (range_sum (row d i))
    sums_are =
        ap₂ (λ l s. (products ++ excess_listing i l (residual (equations_of d) i)) ++ listed_at (row_place i) s) (logical_is ∙ sym ends) range_is
        ∙ ap (λ r. (products ++ excess_listing i bounds r) ++ listed_at (row_place i) (range_sum (row d i))) (sym is)

    pub row_fits : AllFit w products → AllFit w (excess_listing i bounds rest) → AllFit w (listed_at (row_place i) (range_sum (row d i))) → AllFit w (start_sums (equations_of d) i)
    row_fits first second third = ap (first_unfit w) sums_are ∙ all-append w (products ++ excess_listing i bounds rest) _ (all-append w products _ first second) third

    pub stops_at_range : (p : Place) → AllFit w products → AllFit w (excess_listing i bounds rest) → first_unfit w (listed_at (row_place i) (range_sum (row d i))) ≡ Some p
        → first_unfit w (start_sums (equations_of d) i) ≡ Some p
    stops_at_range p first second third = ap (first_unfit w) sums_are ∙ fit-append w (products ++ excess_listing i bounds rest) _ (all-append w products _ first second) ∙ third

    pub stops_at_excess : (p : Place) → AllFit w products → first_unfit w (excess_listing i bounds rest) ≡ Some p → first_unfit w (start_sums (equations_of d) i) ≡ Some p
    stops_at_excess p first second =
        ap (first_unfit w) sums_are ∙ unfit-append w (products ++ excess_listing i bounds rest) _ p (fit-append w products _ first ∙ second)

    pub side_is : side_past bounds rest ≡ (row_start d i).passed
    side_is = ap₂ side_past (ends ∙ sym logical_is) is

  pub stops_at_product : (w : ℕ) (p : Place) → first_unfit w (takings (equations_of d) i (at (equations_of d).right i) (upto (structural_count (equations_of d)))) ≡ Some p
      → first_unfit w (start_sums (equations_of d) i) ≡ Some p
  stops_at_product w p e = unfit-append w _ _ p (unfit-append w _ _ p e)

module _ (d : Deck) (j : ℕ) (b : j < length d.columns) where
  pub structural_is : structural_of (column d j) ≡ structural (equations_of d) j
  structural_is = sym (get_or-map structural_of d.columns j no_column no_structural b)

pub count_is : (d : Deck) → structural_count (equations_of d) ≡ length d.columns
count_is d = length-map d.columns structural_of

-- a refusal that is handed on
pub refused : {B : Type 0} {p : Place} (w : ℕ) (vs : List Listed) (r : Result B Place) → first_unfit w vs ≡ Some p → IsErrAnd r (λ q. q ≡ p) → Judges w vs r
refused w vs r e is = let at = err_from_is_err_and r is in subst (Judges w vs) (sym at.1) (e ∙ ap Some (sym at.2))

pub column_within : (d : Deck) (js : List ℕ) (k : ℕ) → js ≡ off_zero (equations_of d) → k < length js → get_or js k 0 < length d.columns
column_within d js k is b =
    subst (λ n. get_or js k 0 < n) (count_is d)
    (subst (λ ks. get_or ks k 0 < structural_count (equations_of d)) (sym is) (moved_within (equations_of d) k (get_or (off_zero (equations_of d)) k 0) (subst (λ ks. k < length ks) is b) refl))

-- ── the structurals that do not start at 0, one after another ──

range_more : (a n : ℕ) → range_with_len a (suc n) ≡ range_with_len a n ++ (a + n) ∷ []
range_more a zero = let e : a ≡ a + 0 = omega arith in ap (λ k. k ∷ []) e
range_more a (suc n) =
    let e : a + 1 + n ≡ a + suc n = omega arith in
    ap (λ xs. a ∷ xs) (range_more (a + 1) n ∙ ap (λ k. range_with_len (a + 1) n ++ k ∷ []) e)

pub filter_next : (p : ℕ → Bool) (j : ℕ) → filter p (upto (j + 1)) ≡ filter p (upto j) ++ cond (p j) (j ∷ []) []
filter_next p j =
    let next : j + 1 ≡ suc j = omega arith in
    let last : 0 + j ≡ j = omega arith in
    ap (λ k. filter p (upto k)) next ∙ ap (filter p) (range_more 0 j ∙ ap (λ k. upto j ++ k ∷ []) last) ∙ filter-append p (upto j) (j ∷ [])

module _ (d : Deck) (j : ℕ) (b : j < length d.columns) (bounds : Interval) (x : ℚ) (r : Bool)
    (ends : bounds ≡ (column d j).bounds) (starts : x ≡ start_value bounds) (tested : IsTrue r ↔ (x ≡ zero_ℚ)) where
  tested_as : not (eq_ℚ (start_value (structural (equations_of d) j).bounds) zero_ℚ) ≡ not r
  tested_as =
      ap (λ (s : Structural). not (eq_ℚ (start_value s.bounds) zero_ℚ)) (get_or-map structural_of d.columns j no_column no_structural b)
      ∙ ap not (ap (λ (i : Interval). eq_ℚ (start_value i) zero_ℚ) (sym ends) ∙ ap (λ v. eq_ℚ v zero_ℚ) (sym starts) ∙ eq_ℚ-tested r x tested)

  pub moved_more : (xs ys : List ℕ) → r ≡ false → ys ≡ xs ++ j ∷ [] → xs ≡ filter (starts_off (equations_of d)) (upto j)
      → ys ≡ filter (starts_off (equations_of d)) (upto (j + 1))
  moved_more xs ys e pushed before =
      pushed ∙ ap₂ (λ zs t. zs ++ cond (not t) (j ∷ []) []) before (sym e)
      ∙ ap (λ t. filter (starts_off (equations_of d)) (upto j) ++ cond t (j ∷ []) []) (sym tested_as)
      ∙ sym (filter_next (starts_off (equations_of d)) j)

  pub moved_same : (xs : List ℕ) → r ≡ true → xs ≡ filter (starts_off (equations_of d)) (upto j)
      → xs ≡ filter (starts_off (equations_of d)) (upto (j + 1))
  moved_same xs e before =
      before ∙ sym (append-nil _)
      ∙ ap (λ t. filter (starts_off (equations_of d)) (upto j) ++ cond (not t) (j ∷ []) []) (sym e)
      ∙ ap (λ t. filter (starts_off (equations_of d)) (upto j) ++ cond t (j ∷ []) []) (sym tested_as)
      ∙ sym (filter_next (starts_off (equations_of d)) j)

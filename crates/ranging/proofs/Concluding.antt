-- What is known by all positions is the ranges, or tells the first value that does not fit.
use Rattle.std.proofs.Common.{◌≡◌, ◌≢◌, ◌↔◌, ℕ, zero, suc, ◌+◌, ◌<◌, List, [], ◌∷◌, map, flat_map, length, get_or, Option, Some, None, Bool, true, false, cond, eq-eqb, refl, sym, ◌∙◌, ap, ap₂, subst, arith}
use Rattle.std.specs.Prelude.{◌==◌}
use Rattle.std.specs.Option.{unwrap_or}
use Rattle.std.specs.List.{list_all}
use Rattle.std.proofs.lemmas.Grind.{get_or_default_zero}
use Rattle.lp_model.specs.declared.Phase.TheVariants.{Two}
use Rattle.lp_model.specs.declared.Status.{Status}
use Rattle.lp_model.specs.declared.Status.TheVariants as status
use Rattle.lp_model.specs.Deck.{Interval, Within, in_sense}
use Rattle.rational.specs.Rational.{ℚ, one_ℚ, neg_ℚ}
use Rattle.rational.specs.Sparse.{upto}
use Rattle.rational.specs.Sum.{at}
use Rattle.rational.specs.Width.{fits_width}
use Rattle.lp_run.specs.Instance.{Instance, bounds, column_count, row_count, structural_count}
use Rattle.lp_run.specs.Solution.{IsTable, Prices, Values, reduced}
use Rattle.lp_run.specs.State.{IsState, State, basic, status_of}
use Rattle.lp_run.specs.Step.{NoneEligible}
use Rattle.lp_run.specs.Tableau.{HasTable}
use Rattle.bland_laws.specs.Kept.{Kept}
use Rattle.rational.proofs.SumLaws.{at_or_other}
use Rattle.ranging.specs.declared.fault.RangePlace.TheVariants as place
use Rattle.ranging.specs.declared.limits.Limits.{Limits}
use Rattle.ranging.specs.Inner.Found.{AreLimits, IsCostLimit, IsFirstMissing, IsRightLimit, Misses, own_limit, present}
use Rattle.ranging.specs.Inner.Limits.{cost_limit}
use Rattle.ranging.specs.Listing.{Ranged, RangeLists, cost_listing, cost_quotients, first_wide, is_looked_at, move_values, range_listing, right_listing}
use Rattle.ranging.specs.Ranges.{AreRanges, CostStays, RightStays, everything}
use Rattle.ranging.proofs.Costs.{basic_stays, own_stays}
use Rattle.ranging.proofs.FirstWide.{first-append, first-at, first-flat, none-flat, one-place, or_else}
use Rattle.ranging.proofs.Changes.{within_counted}
use Rattle.ranging.proofs.Rights.{rights_stay}
use Rattle.ranging.proofs.Rows.{row_makes, row_solves}

is_there : (A : Type 0) (o : Option A) → (o ≡ None → ⊥) → (a : A) × (o ≡ Some a)
is_there A None h = absurd (h refl)
is_there A (Some a) h = (a, refl)

present_at : (limits : List (Option Interval)) (k : ℕ) (i : Interval) → get_or limits k None ≡ Some i → get_or (present limits) k everything ≡ i
present_at [] k i e = absurd (cc e)
present_at (o ∷ limits) zero i e = ap (λ o. unwrap_or o everything) e
present_at (o ∷ limits) (suc k) i e = present_at limits k i e

-- a structural that is basic stands in a position
found : (inst : Instance) (s : State) → IsState inst s → (j : ℕ) → j < column_count inst → status_of s j ≡ status.Basic → (p : ℕ) × (p < row_count inst) × (basic s p ≡ j)
found inst s valid j b is =
    let (p, c, same) = (valid.basic_just_there j b).0 is in (p, subst (λ n. p < n) valid.positions c, sym (get_or_default_zero s.basis p j c) ∙ same)

-- whether a column is basic
by_basic : {P : Type 0} (st : Status) → (st ≡ status.Basic → P) → (st ≢ status.Basic → P) → P
by_basic status.Basic here apart = here refl
by_basic status.Lower here apart = apart (λ e. cc e)
by_basic status.Upper here apart = apart (λ e. cc e)
by_basic status.Zero here apart = apart (λ e. cc e)

module _ (w : ℕ) (inst : Instance) (s : State) (has : HasTable inst s) (keeps : Kept inst s) (two : s.phase ≡ Two) (y : List ℚ) (prices : Prices inst s y) (none : NoneEligible inst s y)
    (β : List ℚ) (values : Values inst s β) (table : ℕ → ℕ → ℚ) (is_table : IsTable inst s table) (limits : Limits)
    (known : AreLimits w inst s table (reduced inst s y) β (row_count inst) limits) where
  -- ── each interval is exact ──

  cost_exactly : (j : ℕ) → j < structural_count inst → (i : Interval) → get_or limits.costs.items j None ≡ Some i → (t : ℚ) → CostStays inst s j t ↔ Within i t
  cost_exactly j b i is t =
      by_basic (status_of s j)
      (λ basic_here. let (p, c, here) = found inst s keeps.valid j (omega arith) basic_here in
      let law = basic_stays inst s keeps.valid keeps.regular two y prices none j b t p c here (λ i. table p (structural_count inst + i))
      (row_solves inst s has table is_table p c) (table p) (row_makes inst s has table is_table p c) in
      let limit : IsCostLimit w inst s (reduced inst s y) (table p) (Some i) =
      subst (IsCostLimit w inst s (reduced inst s y) (table p)) (ap (λ k. get_or limits.costs.items k None) here ∙ is) (known.costs p c (subst (λ k. k < structural_count inst) (sym here) b)) in
      (λ h. (limit.1 t).1 (law.0 h), λ h. law.1 ((limit.1 t).0 h)))
      (λ apart. let law = own_stays inst s keeps.valid keeps.regular two y prices none j b t apart in
      let own : i ≡ own_limit inst s (reduced inst s y j) j = same i (own_limit inst s (reduced inst s y j) j) (sym is ∙ known.own j b apart) in
      let counts = within_counted inst.sense (cond (is_looked_at inst s j) (cost_limit (status_of s j) (reduced inst s y j) (neg_ℚ one_ℚ)) everything) t in
      let tested = by_test (is_looked_at inst s j) refl in
      (λ h. subst (λ r. Within r t) (sym own) (counts.1 (tested.0 (law.0 h))), λ h. law.1 (tested.1 (counts.0 (subst (λ r. Within r t) own h)))))
    where
      same : (a b : Interval) → Some a ≡ Some b → a ≡ b
      same a b e = cc

      by_test : (l : Bool) → is_looked_at inst s j ≡ l → (is_looked_at inst s j ≡ true → Within (cost_limit (status_of s j) (reduced inst s y j) (neg_ℚ one_ℚ)) (in_sense inst.sense t))
          ↔ Within (cond l (cost_limit (status_of s j) (reduced inst s y j) (neg_ℚ one_ℚ)) everything) (in_sense inst.sense t)
      by_test true e = (λ h. h e, λ h _. h)
      by_test false e = (λ _. (tt, tt), λ _ l. absurd (apart (sym l ∙ e)))
        where
          apart : true ≡ false → ⊥
          apart e = cc e

  right_exactly : (i : ℕ) → i < row_count inst → (range : Interval) → get_or limits.rights.items i None ≡ Some range → (t : ℚ) → RightStays inst s i t ↔ Within range t
  right_exactly i b range is t =
      let law = rights_stay inst s keeps.regular two β values (keeps.within β values) table is_table i b t in
      let limit : IsRightLimit w inst s table β i (row_count inst) (Some range) = subst (IsRightLimit w inst s table β i (row_count inst)) is (known.rights i b) in
      (λ h. (limit.1 t).1 (law.0 h), λ h. law.1 ((limit.1 t).0 h))

  pub are_ranges : (Misses limits.costs.items → ⊥) → (Misses limits.rights.items → ⊥) → AreRanges inst s (record { costs = present limits.costs.items; rights = present limits.rights.items })
  are_ranges no_cost no_right = record {
    each_cost = length-present limits.costs.items ∙ known.each_cost;
    each_right = length-present limits.rights.items ∙ known.each_right;
    costs = λ j b t. let there = is_there Interval (get_or limits.costs.items j None) (λ e. no_cost (j, subst (λ n. j < n) (sym known.each_cost) b, e)) in
        subst (λ r. CostStays inst s j t ↔ Within r t) (sym (present_at limits.costs.items j there.0 there.1)) (cost_exactly j b there.0 there.1 t);
    rights = λ i b t. let there = is_there Interval (get_or limits.rights.items i None) (λ e. no_right (i, subst (λ n. i < n) (sym known.each_right) b, e)) in
        subst (λ r. RightStays inst s i t ↔ Within r t) (sym (present_at limits.rights.items i there.0 there.1)) (right_exactly i b there.0 there.1 t);
  }
    where
      length-present : (xs : List (Option Interval)) → length (present xs) ≡ length xs
      length-present [] = refl
      length-present (o ∷ xs) = ap suc (length-present xs)

  -- ── the first value that does not fit ──

  abbrev d : ℕ → ℚ
  d = reduced inst s y

  eqb_same : (a b : ℕ) → a ≡ b → (a == b) ≡ true
  eqb_same a b e = eq-eqb a b e

  eqb_other : (a b : ℕ) → a ≢ b → (a == b) ≡ false
  eqb_other a b e = grind (arith, e)

  cost_part : ℕ → ℕ → List Ranged
  cost_part j p = cond (basic s p == j) (map (λ v. (place.Cost j, v)) (cost_quotients inst s d (table p))) []

  elsewhere : (j p : ℕ) → basic s p ≢ j → first_wide w (cost_part j p) ≡ None
  unfolding cost_part
  elsewhere j p other = ap (λ t. first_wide w (cond t (map (λ v. (place.Cost j, v)) (cost_quotients inst s d (table p))) [])) (eqb_other (basic s p) j other)

  here_wide : (j p : ℕ) (b : Bool) → basic s p ≡ j → list_all (fits_width w) (cost_quotients inst s d (table p)) ≡ b → first_wide w (cost_part j p) ≡ cond b None (Some (place.Cost j))
  unfolding cost_part
  here_wide j p b here is =
      ap (λ t. first_wide w (cond t (map (λ v. (place.Cost j, v)) (cost_quotients inst s d (table p))) [])) (eqb_same (basic s p) j here) ∙ first-at w (place.Cost j) _ b is

  cost_fits : (j : ℕ) → j < structural_count inst → (i : Interval) → get_or limits.costs.items j None ≡ Some i → first_wide w (cost_listing inst s table d j) ≡ None
  unfolding cost_part
  cost_fits j b i is =
      none-flat w (cost_part j) (row_count inst)
      (λ p c. at_or_other (λ k. k ≡ basic s p → first_wide w (cost_part j p) ≡ None) j (basic s p) (λ same. at_basic p c (sym same)) (λ other same. elsewhere j p other) refl)
    where
      at_basic : (p : ℕ) → p < row_count inst → basic s p ≡ j → first_wide w (cost_part j p) ≡ None
      at_basic p c here =
          let limit : IsCostLimit w inst s (reduced inst s y) (table p) (Some i) =
          subst (IsCostLimit w inst s (reduced inst s y) (table p)) (ap (λ k. get_or limits.costs.items k None) here ∙ is) (known.costs p c (subst (λ k. k < structural_count inst) (sym here) b)) in
          here_wide j p true here limit.0

  cost_wide : (j : ℕ) → j < structural_count inst → get_or limits.costs.items j None ≡ None → first_wide w (cost_listing inst s table d j) ≡ Some (place.Cost j)
  unfolding cost_part
  cost_wide j b is =
      by_basic (status_of s j)
      (λ basic_here. let (p, c, here) = found inst s keeps.valid j (omega arith) basic_here in
      let limit : IsCostLimit w inst s (reduced inst s y) (table p) None =
      subst (IsCostLimit w inst s (reduced inst s y) (table p)) (ap (λ k. get_or limits.costs.items k None) here ∙ is) (known.costs p c (subst (λ k. k < structural_count inst) (sym here) b)) in
      first-flat w (cost_part j) p (place.Cost j) (here_wide j p false here limit) (row_count inst) c
      (λ q e. elsewhere j q (λ also. before p q e (keeps.valid.once q p (omega arith) c (also ∙ sym here)))))
      (λ apart. absurd (none_some (sym is ∙ known.own j b apart)))
    where
      none_some : {A : Type 0} {a : A} → None ≡ Some a → ⊥
      none_some e = cc e

      before : (p q : ℕ) → q < p → q ≡ p → ⊥
      before p q e f = omega arith

  right_part : ℕ → ℕ → List Ranged
  right_part i p = map (λ v. (place.Right i, v)) (move_values (bounds inst s.phase (basic s p)) (at β p) (table p (structural_count inst + i)))

  right_fits : (i : ℕ) → i < row_count inst → (range : Interval) → get_or limits.rights.items i None ≡ Some range → first_wide w (right_listing inst s table β i) ≡ None
  unfolding right_part
  right_fits i b range is =
      let limit : IsRightLimit w inst s table β i (row_count inst) (Some range) = subst (IsRightLimit w inst s table β i (row_count inst)) is (known.rights i b) in
      none-flat w (right_part i) (row_count inst) (λ p c. first-at w (place.Right i) _ true (limit.0 p c))

  right_wide : (i : ℕ) → i < row_count inst → get_or limits.rights.items i None ≡ None → first_wide w (right_listing inst s table β i) ≡ Some (place.Right i)
  right_wide i b is =
      let limit : IsRightLimit w inst s table β i (row_count inst) None = subst (IsRightLimit w inst s table β i (row_count inst)) is (known.rights i b) in
      one-place w (place.Right i) (λ p. move_values (bounds inst s.phase (basic s p)) (at β p) (table p (structural_count inst + i))) limit.0 limit.2 (row_count inst) limit.1

  pub first_cost : (j : ℕ) → IsFirstMissing limits.costs.items (Some j) → (vs : List Ranged) × RangeLists inst s vs × (first_wide w vs ≡ Some (place.Cost j))
  first_cost j (b, is, before) =
      let below : j < structural_count inst = subst (λ n. j < n) known.each_cost b in (
        range_listing inst s table d β,
        (table, y, β, is_table, prices, values, refl),
        first-append w (flat_map (cost_listing inst s table d) (upto (structural_count inst))) (flat_map (right_listing inst s table β) (upto (row_count inst)))
            ∙ ap (λ o. or_else o (first_wide w (flat_map (right_listing inst s table β) (upto (row_count inst)))))
            (first-flat w (cost_listing inst s table d) j (place.Cost j) (cost_wide j below is) (structural_count inst) below
            (λ k e. let there = is_there Interval (get_or limits.costs.items k None) (before k e) in cost_fits k (omega arith) there.0 there.1)),
      )

  pub first_right : (i : ℕ) → (Misses limits.costs.items → ⊥) → IsFirstMissing limits.rights.items (Some i)
      → (vs : List Ranged) × RangeLists inst s vs × (first_wide w vs ≡ Some (place.Right i))
  first_right i no_cost (b, is, before) =
      let below : i < row_count inst = subst (λ n. i < n) known.each_right b in (
        range_listing inst s table d β,
        (table, y, β, is_table, prices, values, refl),
        first-append w (flat_map (cost_listing inst s table d) (upto (structural_count inst))) (flat_map (right_listing inst s table β) (upto (row_count inst)))
            ∙ ap₂ or_else (none-flat w (cost_listing inst s table d) (structural_count inst) (λ k e. let there = is_there Interval (get_or limits.costs.items k None)
            (λ is. no_cost (k, subst (λ n. k < n) (sym known.each_cost) e, is)) in cost_fits k e there.0 there.1))
            (first-flat w (right_listing inst s table β) i (place.Right i) (right_wide i below is) (row_count inst) below
            (λ k e. let there = is_there Interval (get_or limits.rights.items k None) (before k e) in right_fits k (omega (arith, e, below)) there.0 there.1)),
      )

-- The outcome of a whole run proves what it says of the deck.
use Rattle.std.proofs.Common.{◌≡◌, ◌≢◌, ℕ, ◌+◌, ◌-◌, ◌<◌, ◌⊎◌, inl, inr, List, length, Option, Some, None, IsSome, Bool, true, false, refl, sym, ◌∙◌, ap, ap₂, subst, cond, eqb, eq-eqb, ne_eqb, map, arith}
use Rattle.std.proofs.lemmas.Int.{ints}
use Rattle.std.proofs.lemmas.List.{get_or-map, length-map}
use Rattle.std.specs.Option.{unwrap_or}
use Rattle.lp_model.specs.declared.Entry.{Entry}
use Rattle.lp_model.specs.declared.Phase.{Phase}
use Rattle.lp_model.specs.declared.Phase.TheVariants.{One, Two}
use Rattle.lp_model.specs.declared.Sense.{Sense}
use Rattle.lp_model.specs.declared.Sense.TheVariants.{Max, Min}
use Rattle.lp_model.specs.declared.Side.{Side}
use Rattle.lp_model.specs.declared.Side.TheVariants as side
use Rattle.lp_model.specs.declared.Status.{Status}
use Rattle.lp_model.specs.declared.Status.TheVariants as status
use Rattle.rational.specs.Rational.{ℚ, zero_ℚ, one_ℚ, ◌+ℚ◌, ◌-ℚ◌, ◌*ℚ◌, neg_ℚ, ◌≤ℚ◌, ◌<ℚ◌}
use Rattle.rational.proofs.RationalRing.{ring_ℚ}
use Rattle.rational.proofs.Ring.{◌≐◌, ◌⊙◌≗◌⟹◌, ◌⊕◌, ◌⊖◌, ◌⊗◌, ⊝◌, 𝟘, 𝟙}
use Rattle.rational.proofs.Linear.{linear, ◌≼◌, ◌≺◌, ◌≐◌, ◌⟹◌, never}
use Rattle.rational.specs.Sum.{sum_ℚ, at}
use Rattle.rational.proofs.OrderLaws.{by_lt_ℚ}
use Rattle.rational.proofs.SumLaws.{at_or_other, sum-cong, sum-none, sum-change, sum-unit, sum-unit_right}
use Rattle.lp_model.specs.Certificate.{Farkas, Proves, Ray, column_greatest, greatest, logical_greatest, reduced_cost, weighted_column, weighted_right}
use Rattle.lp_model.specs.Deck.{Deck, Interval, IsDeck, IsFeasible, Within, activity, activity_interval, between, column, cost_at, entry, in_sense, logical_bounds, nonnegative, row}
use Rattle.lp_run.specs.Instance.{Instance, bounds, kind_bounds, coefficient, column_count, cost, kind_cost, instance_of, row_count, structural_count}
use Rattle.lp_run.specs.Ends.{by_position, Yields, HasOutcome, point, prices_in, ray}
use Rattle.lp_model.specs.Outcome.{Outcome, infeasible, optimal, unbounded}
use Rattle.lp_run.specs.Solution.{reduced}
use Rattle.lp_run.specs.State.{State, basic, rest, status_of, resting_value}
use Rattle.lp_run.specs.Step.{ArtificialsZero, EndsFree, EndsInfeasible, EndsOptimal, IsArtificial, direction}
use Rattle.rational.proofs.VectorLaws.{length-map-upto}
use Rattle.lp_run.proofs.Start.{coefficient-logical, kind_of_artificial, kind_of_logical, kind_of_structural}
use Rattle.lp_laws.proofs.Senses.{in_sense-products}
use Rattle.bland_laws.specs.OutcomeProves.{OutcomeProves}
use Rattle.bland_laws.proofs.Always.{run_holds}
use Rattle.bland_laws.proofs.Holding.{Holds, same_values, value_at_rest, value_there}
use Rattle.bland_laws.proofs.Limits.{Toward, by_sign, direction_falls, direction_unit, end_at, limit_met, own_met}
use Rattle.bland_laws.proofs.OfDeck.{column_bounds, column_cost, column_entry, deck_bounded, objective_is, right_is, row_bounds, row_count_is, structural_count_is}
use Rattle.bland_laws.proofs.Phases.{artificial_in_one, never_free, sum_not_below}
use Rattle.bland_laws.proofs.Points.{by_place, moved, moved_basic, moved_columns, moved_entering, moved_other, point_value, ray_moved, three_sums}
use Rattle.bland_laws.proofs.Resting.{artificials_zero_or_not, column_within, priced_basic, rests_high, rests_low}
use Rattle.bland_laws.proofs.Rows.{greatest_met, mirror_high, mirror_low, mirror_no_high, mirror_no_low, mirror_within, mirrors}
use Rattle.bland_laws.proofs.Standing.{entering_crosses, moves_priced, reflexive}
use Rattle.bland_laws.proofs.Stepping.{not_there}
use Rattle.bland_laws.proofs.Weights.{along, along_cost, along_row, row_weight, value, weight-combined, weight_by_columns}

-- sums that are not below 0, of which one term is above it
sum_above : (n k : ℕ) (f : ℕ → ℚ) → k < n → ((i : ℕ) → i < n → zero_ℚ ≤ℚ f i) → zero_ℚ <ℚ f k → zero_ℚ <ℚ sum_ℚ n f
sum_above n k f b all one =
    let g = λ (i : ℕ). cond (eqb i k) zero_ℚ (f i) in
    let there : g k ≡ zero_ℚ = ap (λ t. cond t zero_ℚ (f k)) (eq-eqb k k refl) in
    linear 4 (λ s r a z. s ≐ r ⊕ (a ⊖ z) ⟹ z ≐ 𝟘 ⟹ 𝟘 ≼ r ⟹ 𝟘 ≺ a ⟹ 𝟘 ≺ s) (omega (arith, ints)) (sum_ℚ n f) (sum_ℚ n g) (f k) (g k)
    (sum-change n k g f b (λ i c other. sym (ap (λ t. cond t zero_ℚ (f i)) (ne_eqb i k other)))) there
    (sum_not_below n g (λ i c. by_test i (eqb i k) c)) one
  where
    by_test : (i : ℕ) (t : Bool) → i < n → zero_ℚ ≤ℚ cond t zero_ℚ (f i)
    by_test i true c = reflexive zero_ℚ
    by_test i false c = all i c

-- ── prices as a sense counts them ──

in_sense-minus : (σ : Sense) (a b : ℚ) → in_sense σ (a -ℚ b) ≡ in_sense σ a -ℚ in_sense σ b
in_sense-minus Min a b = refl
in_sense-minus Max a b = ring_ℚ 2 (λ a b. ⊝ (a ⊖ b) ≐ ⊝ a ⊖ ⊝ b) tt a b

prices_each : (σ : Sense) (z : List ℚ) → length (prices_in σ z) ≡ length z
prices_each Min z = refl
prices_each Max z = length-map z neg_ℚ

prices_back : (σ : Sense) (z : List ℚ) (i : ℕ) → i < length z → in_sense σ (at (prices_in σ z) i) ≡ at z i
prices_back Min z i b = refl
prices_back Max z i b = ap neg_ℚ (get_or-map neg_ℚ z i zero_ℚ zero_ℚ b) ∙ ring_ℚ 1 (λ a. ⊝ (⊝ a) ≐ a) tt (at z i)

module _ (d : Deck) (deck : IsDeck d) where
  abbrev inst : Instance
  inst = instance_of d

  abbrev n : ℕ
  n = structural_count inst

  abbrev m : ℕ
  m = row_count inst

  in_rows : (i : ℕ) → i < length d.rows → i < m
  in_rows i b = subst (λ k. i < k) (sym (row_count_is d deck)) b

  in_columns : (j : ℕ) → j < length d.columns → j < n
  in_columns j b = subst (λ k. j < k) (sym (structural_count_is d deck)) b

  structural_there : (j : ℕ) → j < n → j < column_count inst
  structural_there j b = omega arith

  logical_there : (i : ℕ) → i < m → n + i < column_count inst
  logical_there i b = omega arith

  artificial_there : (k : ℕ) → k < m → n + m + k < column_count inst
  artificial_there k b = omega arith

  -- ── the rows and the prices over the three kinds of columns ──

  -- a row's sum is that of the deck's entries, and its logical, where the artificials have no part
  row_sum : (i : ℕ) → i < m → (v : ℕ → ℚ) → ((k : ℕ) → k < m → v (n + m + k) ≡ zero_ℚ)
      → sum_ℚ (column_count inst) (λ j. coefficient inst i j *ℚ v j) ≡ sum_ℚ n (λ j. entry d i j *ℚ v j) +ℚ v (n + i)
  row_sum i b v none =
      three_sums n m (λ j. coefficient inst i j *ℚ v j)
      ∙ ap₂ ◌+ℚ◌ (ap₂ ◌+ℚ◌ (sum-cong n _ _ (λ j c. ap (λ e. e *ℚ v j) (column_entry d deck i j c)))
      (sum-cong m _ _ (λ k c. ap (λ e. e *ℚ v (n + k)) (coefficient-logical inst i k c)) ∙ sum-unit m i (λ k. v (n + k)) b))
      (sum-none m _ (λ k c. ap (λ z. coefficient inst i (n + m + k) *ℚ z) (none k c) ∙ ring_ℚ 1 (λ v. v ⊗ 𝟘 ≐ 𝟘) tt (coefficient inst i (n + m + k))))
      ∙ ring_ℚ 2 (λ a b. a ⊕ b ⊕ 𝟘 ≐ a ⊕ b) tt (sum_ℚ n (λ j. entry d i j *ℚ v j)) (v (n + i))

  -- an activity, from a list that has the numbers of the structurals
  activity_is : (i : ℕ) (x : List ℚ) (v : ℕ → ℚ) → ((j : ℕ) → j < n → at x j ≡ v j) → activity d x i ≡ sum_ℚ n (λ j. entry d i j *ℚ v j)
  activity_is i x v same =
      ap (λ k. sum_ℚ k (λ j. entry d i j *ℚ at x j)) (sym (structural_count_is d deck)) ∙ sum-cong n _ _ (λ j c. ap (λ z. entry d i j *ℚ z) (same j c))

  module _ (y : List ℚ) where
    -- the prices times column j of the instance
    abbrev priced : ℕ → ℚ
    priced j = sum_ℚ m (λ i. at y i *ℚ coefficient inst i j)

    priced_structural : (j : ℕ) → j < n → priced j ≡ weighted_column d y j
    priced_structural j b =
        sum-cong m _ _ (λ i c. ap (λ e. at y i *ℚ e) (column_entry d deck i j b)) ∙ ap (λ k. sum_ℚ k (λ i. at y i *ℚ entry d i j)) (row_count_is d deck)

    priced_logical : (i : ℕ) → i < m → priced (n + i) ≡ at y i
    priced_logical i b = sum-cong m _ _ (λ k c. ap (λ e. at y k *ℚ e) (coefficient-logical inst k i b)) ∙ sum-unit_right m i (at y) b

  logical_cost : (phase : Phase) (i : ℕ) → i < m → cost inst phase (n + i) ≡ zero_ℚ
  logical_cost One i b = ap (kind_cost inst One) (kind_of_logical inst i b)
  logical_cost Two i b = ap (kind_cost inst Two) (kind_of_logical inst i b)

  structural_cost : (j : ℕ) → j < n → cost inst One j ≡ zero_ℚ
  structural_cost j b = ap (kind_cost inst One) (kind_of_structural inst j b)

  abbrev nothing : Interval
  nothing = between zero_ℚ zero_ℚ

  within_nothing : (v : ℚ) → Within nothing v → v ≡ zero_ℚ
  within_nothing v w = linear 1 (λ v. 𝟘 ≼ v ⟹ v ≼ 𝟘 ⟹ v ≐ 𝟘) (omega (arith, ints)) v w.0 w.1

  module _ (s : State) (h : Holds inst s) where
    abbrev x : ℕ → ℚ
    x j = value inst s h.β j

    within_bounds : (j : ℕ) → j < column_count inst → Within (bounds inst s.phase j) (x j)
    within_bounds j b = column_within inst (deck_bounded d deck) s h j b

    right_sum : (i : ℕ) → i < m → sum_ℚ (column_count inst) (λ j. coefficient inst i j *ℚ x j) ≡ at inst.right i
    right_sum i b = sym (weight_by_columns inst s h.β h.table.within (coefficient inst i)) ∙ row_weight inst s h.β h.values i b

    -- ── in phase two ──

    module _ (two : s.phase ≡ Two) where
      in_two : (j : ℕ) (i : Interval) → bounds inst Two j ≡ i → bounds inst s.phase j ≡ i
      in_two j i e = ap (λ f. bounds inst f j) two ∙ e

      artificial_zero : (k : ℕ) → k < m → x (n + m + k) ≡ zero_ℚ
      artificial_zero k b =
          within_nothing (x (n + m + k)) (subst (λ i. Within i (x (n + m + k))) (in_two (n + m + k) nothing (ap (kind_bounds inst Two)
          (kind_of_artificial inst k))) (within_bounds (n + m + k) (artificial_there k b)))

      abbrev p : List ℚ
      p = point inst s h.β

      -- a row's logical is its right side less its activity
      slack_is : (i : ℕ) → i < m → x (n + i) ≡ (row d i).right -ℚ activity d p i
      slack_is i b =
          ring_ℚ 3 (λ r a v. 𝟙 ⊙ a ⊕ v ≗ r ⟹ v ≐ r ⊖ a) tt (row d i).right (sum_ℚ n (λ j. entry d i j *ℚ x j)) (x (n + i))
          (sym (row_sum i b x artificial_zero) ∙ right_sum i b ∙ right_is d deck i b)
          ∙ ap (λ a. (row d i).right -ℚ a) (sym (activity_is i p x (point_value inst s h)))

      slack_bounds : (i : ℕ) → i < m → bounds inst s.phase (n + i) ≡ logical_bounds (row d i)
      slack_bounds i b = in_two (n + i) (logical_bounds (row d i)) (row_bounds d deck Two i b)

      feasible : IsFeasible d p
      feasible = record {
        one_each = length-map-upto (λ j. by_position s.basis h.β j (rest inst s j)) n ∙ structural_count_is d deck;
        columns_within = λ j b. subst (Within (column d j).bounds) (sym (point_value inst s h j (in_columns j b)))
            (subst (λ i. Within i (x j)) (in_two j (column d j).bounds (column_bounds d deck Two j (in_columns j b)))
            (within_bounds j (structural_there j (in_columns j b))));
        rows_within =
            λ i b. mirror_within (row d i).right (logical_bounds (row d i)) (activity_interval (row d i)) (mirrors (row d i).right (row d i).kind
            (row d i).range) (activity d p i)
            (subst (Within (logical_bounds (row d i))) (slack_is i (in_rows i b))
            (subst (λ e. Within e (x (n + i))) (slack_bounds i (in_rows i b)) (within_bounds (n + i) (logical_there i (in_rows i b)))));
      }

      -- ── an optimum ──

      module _ (z : List ℚ) (ends : EndsOptimal inst s z h.β) where
        abbrev y : List ℚ
        y = prices_in d.sense z

        price_is : (i : ℕ) → i < m → in_sense d.sense (at y i) ≡ at z i
        price_is i b = prices_back d.sense z i (subst (λ k. i < k) (sym ends.1.prices.one_each) b)

        reduced_structural : (j : ℕ) → j < n → reduced inst s z j ≡ in_sense d.sense (reduced_cost d y j)
        reduced_structural j b =
            ap₂ ◌-ℚ◌ (ap (λ f. cost inst f j) two ∙ column_cost d deck j b)
            (priced_structural z j b
            ∙ sum-cong (length d.rows) _ _ (λ i c. ap (λ v. v *ℚ entry d i j) (sym (price_is i (in_rows i c))))
            ∙ sym (in_sense-products d.sense (length d.rows) (at y) (λ i. entry d i j)))
            ∙ sym (in_sense-minus d.sense (column d j).cost (weighted_column d y j))

        reduced_logical : (i : ℕ) → i < m → reduced inst s z (n + i) ≡ neg_ℚ (at z i)
        reduced_logical i b = ap₂ ◌-ℚ◌ (logical_cost s.phase i b) (priced_logical z i b) ∙ ring_ℚ 1 (λ v. 𝟘 ⊖ v ≐ ⊝ v) tt (at z i)

        pub optimal_proves : Proves d p y
        optimal_proves = record {
          feasible = feasible;
          one_each = prices_each d.sense z ∙ ends.1.prices.one_each ∙ row_count_is d deck;
          above = λ j b sign. structural_low j (in_columns j b) sign;
          below = λ j b sign. structural_high j (in_columns j b) sign;
          price_above = λ i b sign. logical_high i (in_rows i b) (subst (λ v. zero_ℚ <ℚ v) (price_is i (in_rows i b)) sign);
          price_below = λ i b sign. logical_low i (in_rows i b) (subst (λ v. v <ℚ zero_ℚ) (price_is i (in_rows i b)) sign);
        }
          where
            structural_low : (j : ℕ) → j < n → zero_ℚ <ℚ in_sense d.sense (reduced_cost d y j) → (column d j).bounds.lower ≡ Some (at p j)
            structural_low j b sign =
                ap (λ i. i.lower) (sym (in_two j (column d j).bounds (column_bounds d deck Two j b)))
                ∙ rests_low inst (deck_bounded d deck) s h z ends.1.prices ends.1.none_eligible j (structural_there j b) (subst (λ v. zero_ℚ <ℚ v)
                (sym (reduced_structural j b)) sign)
                ∙ ap Some (sym (point_value inst s h j b))

            structural_high : (j : ℕ) → j < n → in_sense d.sense (reduced_cost d y j) <ℚ zero_ℚ → (column d j).bounds.upper ≡ Some (at p j)
            structural_high j b sign =
                ap (λ i. i.upper) (sym (in_two j (column d j).bounds (column_bounds d deck Two j b)))
                ∙ rests_high inst (deck_bounded d deck) s h z ends.1.prices ends.1.none_eligible j (structural_there j b) (subst (λ v. v <ℚ zero_ℚ)
                (sym (reduced_structural j b)) sign)
                ∙ ap Some (sym (point_value inst s h j b))

            logical_high : (i : ℕ) → i < m → zero_ℚ <ℚ at z i → (activity_interval (row d i)).lower ≡ Some (activity d p i)
            logical_high i b sign =
                mirror_low (row d i).right (logical_bounds (row d i)) (activity_interval (row d i)) (mirrors (row d i).right (row d i).kind (row d i).range)
                (activity d p i)
                (ap (λ e. e.upper) (sym (slack_bounds i b))
                ∙ rests_high inst (deck_bounded d deck) s h z ends.1.prices ends.1.none_eligible (n + i) (logical_there i b)
                (linear 2 (λ r v. r ≐ ⊝ v ⟹ 𝟘 ≺ v ⟹ r ≺ 𝟘) (omega (arith, ints)) (reduced inst s z (n + i)) (at z i) (reduced_logical i b) sign)
                ∙ ap Some (slack_is i b))

            logical_low : (i : ℕ) → i < m → at z i <ℚ zero_ℚ → (activity_interval (row d i)).upper ≡ Some (activity d p i)
            logical_low i b sign =
                mirror_high (row d i).right (logical_bounds (row d i)) (activity_interval (row d i)) (mirrors (row d i).right (row d i).kind (row d i).range)
                (activity d p i)
                (ap (λ e. e.lower) (sym (slack_bounds i b))
                ∙ rests_low inst (deck_bounded d deck) s h z ends.1.prices ends.1.none_eligible (n + i) (logical_there i b)
                (linear 2 (λ r v. r ≐ ⊝ v ⟹ v ≺ 𝟘 ⟹ 𝟘 ≺ r) (omega (arith, ints)) (reduced inst s z (n + i)) (at z i) (reduced_logical i b) sign)
                ∙ ap Some (slack_is i b))

      -- ── a ray ──

      module _ (y β α : List ℚ) (q : ℕ) (free : EndsFree inst s y β α q) where
        abbrev t : ℚ
        t = direction (reduced inst s y q)

        there : (p : ℕ) → p < m → basic s p ≢ q
        there = not_there inst (deck_bounded d deck) s h y β α q free.0

        abbrev rate : ℕ → ℚ
        rate j = moved inst s h q t α free.0.column.one_each free.0.enters.eligible.in_range there j

        abbrev r : List ℚ
        r = ray inst s q t α

        -- a column has no end toward which it moves
        no_end : (j : ℕ) → j < column_count inst → (e : Side) → Toward e (rate j) → end_at e (bounds inst s.phase j) ≡ None
        no_end j b e toward = by_end (end_at e (bounds inst s.phase j)) refl
          where
            moves_on : (end : ℚ) → end_at e (bounds inst s.phase j) ≡ Some end → ⊥
            moves_on end has =
                by_place inst s h j b
                (λ k c same. basic_on k c (subst (λ j. Toward e (rate j)) (sym same) toward) (subst (λ j. end_at e (bounds inst s.phase j) ≡ Some end)
                (sym same) has))
                (λ resting. at_or_other (λ j. status_of s j ≢ status.Basic → Toward e (rate j) → end_at e (bounds inst s.phase j) ≡ Some end → ⊥) q j
                (λ _ toward has. entering_on toward has)
                (λ other resting toward has. not_toward e
                (subst (Toward e) (moved_other inst s h q t α free.0.column.one_each free.0.enters.eligible.in_range there j resting other) toward))
                resting toward has)
              where
                not_toward : (e : Side) → Toward e zero_ℚ → ⊥
                not_toward side.Lower h = linear 1 (λ z. z ≺ z ⟹ never) (omega (arith, ints)) zero_ℚ h
                not_toward side.Upper h = linear 1 (λ z. z ≺ z ⟹ never) (omega (arith, ints)) zero_ℚ h

                basic_on : (k : ℕ) → k < m → Toward e (rate (basic s k)) → end_at e (bounds inst s.phase (basic s k)) ≡ Some end → ⊥
                basic_on k c toward has =
                    let (limit, is, _) = limit_met q k (basic s k) t (at β k) (at α k) (bounds inst s.phase (basic s k))
                    (direction_unit (reduced inst s y q)) e end
                    (subst (Toward e) (moved_basic inst s h q t α free.0.column.one_each free.0.enters.eligible.in_range there k c) toward) has in
                    free.1 limit (inl (k, c, is))

                entering_on : Toward e (rate q) → end_at e (bounds inst s.phase q) ≡ Some end → ⊥
                entering_on toward has =
                    let c = entering_crosses (status_of s q) (bounds inst s.phase q) (reduced inst s y q) free.0.enters.eligible.improves
                    (h.stands q free.0.enters.eligible.in_range) e end
                    (subst (Toward e) (moved_entering inst s h q t α free.0.column.one_each free.0.enters.eligible.in_range there) toward) has in
                    free.1 _ (inr (own_met (bounds inst s.phase q) q c.low c.high c.lower c.upper))

            by_end : (o : Option ℚ) → end_at e (bounds inst s.phase j) ≡ o → end_at e (bounds inst s.phase j) ≡ None
            by_end None has = has
            by_end (Some end) has = absurd (moves_on end has)

        artificial_still : (k : ℕ) → k < m → rate (n + m + k) ≡ zero_ℚ
        artificial_still k b =
            by_sign (rate (n + m + k))
            (λ below. absurd (ended zero_ℚ (sym (no_end (n + m + k) (artificial_there k b) side.Lower below)
            ∙ ap (λ i. i.lower) (in_two (n + m + k) nothing (ap (kind_bounds inst Two) (kind_of_artificial inst k))))))
            (λ same. same)
            (λ above. absurd (ended zero_ℚ (sym (no_end (n + m + k) (artificial_there k b) side.Upper above)
            ∙ ap (λ i. i.upper) (in_two (n + m + k) nothing (ap (kind_bounds inst Two) (kind_of_artificial inst k))))))
          where
            ended : (v : ℚ) → None ≡ Some v → ⊥
            ended v e = cc e

        rate_is : (j : ℕ) → j < n → at r j ≡ rate j
        rate_is = ray_moved inst s h q t α free.0.column.one_each free.0.enters.eligible.in_range there

        -- a row's logical moves against its activity
        slack_moves : (i : ℕ) → i < m → rate (n + i) ≡ neg_ℚ (activity d r i)
        slack_moves i b =
            ring_ℚ 2 (λ a v. 𝟙 ⊙ a ⊕ v ≗ 𝟘 ⟹ v ≐ ⊝ a) tt (sum_ℚ n (λ j. entry d i j *ℚ rate j)) (rate (n + i))
            (sym (row_sum i b rate artificial_still) ∙ sym (moved_columns inst s h q t α free.0.column.one_each free.0.enters.eligible.in_range there
            (coefficient inst i))
            ∙ ap (λ z. t *ℚ z) (along_row inst s q α free.0.column i b) ∙ ring_ℚ 1 (λ t. t ⊗ 𝟘 ≐ 𝟘) tt t)
            ∙ ap neg_ℚ (sym (activity_is i r rate rate_is))

        cost_is : in_sense d.sense (cost_at d r) ≡ t *ℚ reduced inst s y q
        cost_is =
            in_sense-products d.sense (length d.columns) (λ j. (column d j).cost) (at r)
            ∙ ap (λ k. sum_ℚ k (λ j. in_sense d.sense (column d j).cost *ℚ at r j)) (sym (structural_count_is d deck))
            ∙ sum-cong n _ _ (λ j b. ap₂ ◌*ℚ◌ (sym (column_cost d deck j b)) (rate_is j b))
            ∙ ring_ℚ 1 (λ a. a ≐ a ⊕ 𝟘 ⊕ 𝟘) tt (sum_ℚ n (λ j. cost inst Two j *ℚ rate j))
            ∙ ap₂ (λ a b. sum_ℚ n (λ j. cost inst Two j *ℚ rate j) +ℚ a +ℚ b)
            (sym (sum-none m _ (λ i b. ap (λ c. c *ℚ rate (n + i)) (logical_cost Two i b) ∙ ring_ℚ 1 (λ v. 𝟘 ⊗ v ≐ 𝟘) tt (rate (n + i)))))
            (sym (sum-none m _ (λ k b. ap (λ z. cost inst Two (n + m + k) *ℚ z) (artificial_still k b)
            ∙ ring_ℚ 1 (λ v. v ⊗ 𝟘 ≐ 𝟘) tt (cost inst Two (n + m + k)))))
            ∙ sym (three_sums n m (λ j. cost inst Two j *ℚ rate j))
            ∙ sym (moved_columns inst s h q t α free.0.column.one_each free.0.enters.eligible.in_range there (cost inst Two))
            ∙ ap (λ z. t *ℚ z) (ap (λ f. along inst s q α (cost inst f)) (sym two) ∙ along_cost inst s q α free.0.column y free.0.prices)

        pub ray_leads : Ray d p r
        ray_leads = record {
          feasible = feasible;
          one_each = length-map-upto (λ j. by_position s.basis (map (λ a. neg_ℚ t *ℚ a) α) j (cond (eqb j q) t zero_ℚ)) n ∙ structural_count_is d deck;
          column_rises = λ j b sign. structural_open j (in_columns j b) side.Upper (subst (λ v. zero_ℚ <ℚ v) (rate_is j (in_columns j b)) sign);
          column_falls = λ j b sign. structural_open j (in_columns j b) side.Lower (subst (λ v. v <ℚ zero_ℚ) (rate_is j (in_columns j b)) sign);
          row_rises =
              λ i b sign. mirror_no_high (row d i).right (logical_bounds (row d i)) (activity_interval (row d i)) (mirrors (row d i).right (row d i).kind
              (row d i).range)
              (logical_open i (in_rows i b) side.Lower (linear 2 (λ r a. r ≐ ⊝ a ⟹ 𝟘 ≺ a ⟹ r ≺ 𝟘) (omega (arith, ints)) (rate (n + i)) (activity d r i)
              (slack_moves i (in_rows i b)) sign));
          row_falls =
              λ i b sign. mirror_no_low (row d i).right (logical_bounds (row d i)) (activity_interval (row d i)) (mirrors (row d i).right (row d i).kind
              (row d i).range)
              (logical_open i (in_rows i b) side.Upper (linear 2 (λ r a. r ≐ ⊝ a ⟹ a ≺ 𝟘 ⟹ 𝟘 ≺ r) (omega (arith, ints)) (rate (n + i)) (activity d r i)
              (slack_moves i (in_rows i b)) sign));
          cost_falls =
              subst (λ v. v <ℚ zero_ℚ) (sym cost_is) (direction_falls (reduced inst s y q) (moves_priced (status_of s q)
              (reduced inst s y q) free.0.enters.eligible.improves));
        }
          where
            structural_open : (j : ℕ) → j < n → (e : Side) → Toward e (rate j) → end_at e (column d j).bounds ≡ None
            structural_open j b e toward = ap (end_at e) (sym (in_two j (column d j).bounds (column_bounds d deck Two j b))) ∙ no_end j (omega arith) e toward

            logical_open : (i : ℕ) → i < m → (e : Side) → Toward e (rate (n + i)) → end_at e (logical_bounds (row d i)) ≡ None
            logical_open i b e toward = ap (end_at e) (sym (slack_bounds i b)) ∙ no_end (n + i) (omega arith) e toward

    -- ── a Farkas row ──

    module _ (y : List ℚ) (ends : EndsInfeasible inst s y h.β) where
      one : s.phase ≡ One
      one = ends.0

      free_of_cost : (j : ℕ) → cost inst One j ≡ zero_ℚ → reduced inst s y j ≡ neg_ℚ (priced y j)
      free_of_cost j e = ap (λ c. c -ℚ priced y j) (ap (λ f. cost inst f j) one ∙ e) ∙ ring_ℚ 1 (λ v. 𝟘 ⊖ v ≐ ⊝ v) tt (priced y j)

      -- a column without cost has its greatest product
      greatest_is : (j : ℕ) → j < column_count inst → cost inst One j ≡ zero_ℚ → greatest (priced y j) (bounds inst s.phase j) ≡ Some (priced y j *ℚ x j)
      greatest_is j b e =
          greatest_met (priced y j) (x j) (bounds inst s.phase j)
          (λ below. rests_low inst (deck_bounded d deck) s h y ends.1.prices ends.1.none_eligible j b
          (linear 2 (λ r p. r ≐ ⊝ p ⟹ p ≺ 𝟘 ⟹ 𝟘 ≺ r) (omega (arith, ints)) (reduced inst s y j) (priced y j) (free_of_cost j e) below))
          (λ above. rests_high inst (deck_bounded d deck) s h y ends.1.prices ends.1.none_eligible j b
          (linear 2 (λ r p. r ≐ ⊝ p ⟹ 𝟘 ≺ p ⟹ r ≺ 𝟘) (omega (arith, ints)) (reduced inst s y j) (priced y j) (free_of_cost j e) above))

      column_is : (j : ℕ) → j < n → column_greatest d y j ≡ Some (priced y j *ℚ x j)
      column_is j b =
          ap₂ greatest (sym (priced_structural y j b)) (sym (ap (λ f. bounds inst f j) one ∙ column_bounds d deck One j b))
          ∙ greatest_is j (omega arith) (structural_cost j b)

      logical_is : (i : ℕ) → i < m → logical_greatest d y i ≡ Some (priced y (n + i) *ℚ x (n + i))
      logical_is i b =
          ap₂ greatest (sym (priced_logical y i b)) (sym (ap (λ f. bounds inst f (n + i)) one ∙ row_bounds d deck One i b))
          ∙ greatest_is (n + i) (omega arith) (logical_cost One i b)

      -- the prices of the right sides are those of all columns at their values
      right_is_all : weighted_right d y ≡ sum_ℚ (column_count inst) (λ j. priced y j *ℚ x j)
      right_is_all =
          ap (λ k. sum_ℚ k (λ i. at y i *ℚ (row d i).right)) (sym (row_count_is d deck))
          ∙ sum-cong m _ _ (λ i b. ap (λ z. at y i *ℚ z) (sym (row_weight inst s h.β h.values i b ∙ right_is d deck i b)))
          ∙ sym (weight-combined inst s h.β m (at y) (coefficient inst))
          ∙ weight_by_columns inst s h.β h.table.within (priced y)

      abbrev artificial_part : ℕ → ℚ
      artificial_part k = priced y (n + m + k) *ℚ x (n + m + k)

      -- the part of an artificial is its cost times its value
      part_is : (k : ℕ) → k < m → artificial_part k ≡ cost inst One (n + m + k) *ℚ x (n + m + k)
      part_is k b =
          by_place inst s h (n + m + k) (artificial_there k b)
          (λ p c same. basic_part (priced_basic inst (deck_bounded d deck) s h y ends.1.prices (n + m + k) (artificial_there k b)
          (subst (λ j. status_of s j ≡ status.Basic) same (h.marked p c))))
          (λ resting. ap (λ v. priced y (n + m + k) *ℚ v) (still resting) ∙ ring_ℚ 2 (λ p c. p ⊗ 𝟘 ≐ c ⊗ 𝟘) tt (priced y (n + m + k))
          (cost inst One (n + m + k))
          ∙ ap (λ v. cost inst One (n + m + k) *ℚ v) (sym (still resting)))
        where
          basic_part : reduced inst s y (n + m + k) ≡ zero_ℚ → artificial_part k ≡ cost inst One (n + m + k) *ℚ x (n + m + k)
          basic_part e =
              ring_ℚ 3 (λ c p v. ⊝ v ⊙ c ⊖ p ≗ 𝟘 ⟹ p ⊗ v ≐ c ⊗ v) tt (cost inst One (n + m + k)) (priced y (n + m + k)) (x (n + m + k))
              (ap (λ f. cost inst f (n + m + k) -ℚ priced y (n + m + k)) (sym one) ∙ e)

          rest_zero : (st : Status) (i : Interval) → (i ≡ nothing) ⊎ (i ≡ nonnegative) → resting_value st i ≡ zero_ℚ
          rest_zero st i (inl e) = ap (resting_value st) e ∙ by_status st
            where
              by_status : (st : Status) → resting_value st nothing ≡ zero_ℚ
              by_status status.Basic = refl
              by_status status.Lower = refl
              by_status status.Upper = refl
              by_status status.Zero = refl
          rest_zero st i (inr e) = ap (resting_value st) e ∙ by_status st
            where
              by_status : (st : Status) → resting_value st nonnegative ≡ zero_ℚ
              by_status status.Basic = refl
              by_status status.Lower = refl
              by_status status.Upper = refl
              by_status status.Zero = refl

          one_of : (bounds inst s.phase (n + m + k) ≡ nothing) ⊎ (bounds inst s.phase (n + m + k) ≡ nonnegative)
          one_of = by_case (artificial_in_one inst k)
            where
              by_case : ((cost inst One (n + m + k) ≡ zero_ℚ) × (bounds inst One (n + m + k) ≡ nothing)) ⊎ ((cost inst One (n + m + k) ≡ one_ℚ)
                  × (bounds inst One (n + m + k) ≡ nonnegative))
                  → (bounds inst s.phase (n + m + k) ≡ nothing) ⊎ (bounds inst s.phase (n + m + k) ≡ nonnegative)
              by_case (inl e) = inl (ap (λ f. bounds inst f (n + m + k)) one ∙ e.1)
              by_case (inr e) = inr (ap (λ f. bounds inst f (n + m + k)) one ∙ e.1)

          still : status_of s (n + m + k) ≢ status.Basic → x (n + m + k) ≡ zero_ℚ
          still resting =
              value_at_rest inst s h (n + m + k) (artificial_there k b) resting ∙ rest_zero (status_of s (n + m + k)) (bounds inst s.phase (n + m + k)) one_of

      in_one : (k : ℕ) → k < m → (i : Interval) → bounds inst One (n + m + k) ≡ i → Within i (x (n + m + k))
      in_one k b i e = subst (λ i. Within i (x (n + m + k))) (ap (λ f. bounds inst f (n + m + k)) one ∙ e) (within_bounds (n + m + k) (artificial_there k b))

      part_not_below : (k : ℕ) → k < m → zero_ℚ ≤ℚ artificial_part k
      part_not_below k b = subst (λ v. zero_ℚ ≤ℚ v) (sym (part_is k b)) (by_case (artificial_in_one inst k))
        where
          by_case : ((cost inst One (n + m + k) ≡ zero_ℚ) × (bounds inst One (n + m + k) ≡ nothing)) ⊎ ((cost inst One (n + m + k) ≡ one_ℚ)
              × (bounds inst One (n + m + k) ≡ nonnegative))
              → zero_ℚ ≤ℚ cost inst One (n + m + k) *ℚ x (n + m + k)
          by_case (inl (free, _)) =
              linear 1 (λ v. v ≐ 𝟘 ⟹ 𝟘 ≼ v) (omega (arith, ints)) (cost inst One (n + m + k) *ℚ x (n + m + k))
              (ap (λ c. c *ℚ x (n + m + k)) free ∙ ring_ℚ 1 (λ v. 𝟘 ⊗ v ≐ 𝟘) tt (x (n + m + k)))
          by_case (inr (unit, wide)) =
              linear 2 (λ v w. v ≐ w ⟹ 𝟘 ≼ w ⟹ 𝟘 ≼ v) (omega (arith, ints)) (cost inst One (n + m + k) *ℚ x (n + m + k)) (x (n + m + k))
              (ap (λ c. c *ℚ x (n + m + k)) unit ∙ ring_ℚ 1 (λ v. 𝟙 ⊗ v ≐ v) tt (x (n + m + k))) (in_one k b nonnegative wide).0

      part_above : (k : ℕ) → k < m → x (n + m + k) ≢ zero_ℚ → zero_ℚ <ℚ artificial_part k
      part_above k b other = subst (λ v. zero_ℚ <ℚ v) (sym (part_is k b)) (by_case (artificial_in_one inst k))
        where
          by_case : ((cost inst One (n + m + k) ≡ zero_ℚ) × (bounds inst One (n + m + k) ≡ nothing)) ⊎ ((cost inst One (n + m + k) ≡ one_ℚ)
              × (bounds inst One (n + m + k) ≡ nonnegative))
              → zero_ℚ <ℚ cost inst One (n + m + k) *ℚ x (n + m + k)
          by_case (inl (free, narrow)) = absurd (other (within_nothing (x (n + m + k)) (in_one k b nothing narrow)))
          by_case (inr (unit, wide)) =
              linear 2 (λ v w. v ≐ w ⟹ 𝟘 ≺ w ⟹ 𝟘 ≺ v) (omega (arith, ints)) (cost inst One (n + m + k) *ℚ x (n + m + k)) (x (n + m + k))
              (ap (λ c. c *ℚ x (n + m + k)) unit ∙ ring_ℚ 1 (λ v. 𝟙 ⊗ v ≐ v) tt (x (n + m + k)))
              (by_lt_ℚ zero_ℚ (x (n + m + k)) (λ above. above)
              (λ below. absurd (other (linear 1 (λ v. v ≼ 𝟘 ⟹ 𝟘 ≼ v ⟹ v ≐ 𝟘) (omega (arith, ints)) (x (n + m + k)) below (in_one k b nonnegative wide).0))))

      -- some artificial is not 0
      some_part : (k : ℕ) × (k < m) × (x (n + m + k) ≢ zero_ℚ)
      some_part = by_search (artificials_zero_or_not inst s h.β)
        where
          by_search : ((p : ℕ) × (p < m) × (IsArtificial inst (basic s p) × (at h.β p ≢ zero_ℚ))) ⊎ ArtificialsZero inst s h.β
              → (k : ℕ) × (k < m) × (x (n + m + k) ≢ zero_ℚ)
          by_search (inr all) = absurd (ends.2 all)
          by_search (inl (p, b, (is, other))) =
              let within : basic s p < column_count inst = h.table.within p b in
              let k = basic s p - n - m in
              let same : n + m + k ≡ basic s p = omega (arith, is) in
              (k, omega (arith, is, within), λ e. other (sym (value_there inst s h p b) ∙ ap x (sym same) ∙ e))

      pub infeasible_farkas : Farkas d y
      infeasible_farkas = record {
        one_each = ends.1.prices.one_each ∙ row_count_is d deck;
        columns_finite = λ j b. subst IsSome (sym (column_is j (in_columns j b))) refl;
        logicals_finite = λ i b. subst IsSome (sym (logical_is i (in_rows i b))) refl;
        gap = linear 5 (λ c l r a w. c ⊕ l ≐ a ⟹ w ≐ a ⊕ r ⟹ 𝟘 ≺ r ⟹ c ⊕ l ≺ w) (omega (arith, ints))
            (sum_ℚ (length d.columns) (λ j. unwrap_or (column_greatest d y j) zero_ℚ))
            (sum_ℚ (length d.rows) (λ i. unwrap_or (logical_greatest d y i) zero_ℚ)) (sum_ℚ m artificial_part)
            (sum_ℚ n (λ j. priced y j *ℚ x j) +ℚ sum_ℚ m (λ i. priced y (n + i) *ℚ x (n + i))) (weighted_right d y)
            (ap₂ ◌+ℚ◌
            (ap (λ k. sum_ℚ k (λ j. unwrap_or (column_greatest d y j) zero_ℚ)) (sym (structural_count_is d deck))
            ∙ sum-cong n _ _ (λ j b. ap (λ o. unwrap_or o zero_ℚ) (column_is j b)))
            (ap (λ k. sum_ℚ k (λ i. unwrap_or (logical_greatest d y i) zero_ℚ)) (sym (row_count_is d deck))
            ∙ sum-cong m _ _ (λ i b. ap (λ o. unwrap_or o zero_ℚ) (logical_is i b))))
            (right_is_all ∙ three_sums n m (λ j. priced y j *ℚ x j))
            (sum_above m some_part.0 artificial_part some_part.1 part_not_below (part_above some_part.0 some_part.1 some_part.2));
      }

  -- ── the outcome ──

  gives_proves : (s : State) → Holds inst s → (o : Outcome) → Yields inst s o → OutcomeProves d o
  gives_proves s h (optimal x y v) (z, β, ends, at_prices, at_point, at_value) =
      let same : β ≡ h.β = same_values inst s h β ends.1.values in
      let here : EndsOptimal inst s z h.β = subst (EndsOptimal inst s z) same ends in
      let from : x ≡ point inst s h.β = at_point ∙ ap (point inst s) same in (
        subst (λ a. Proves d a y) (sym from) (subst (Proves d (point inst s h.β)) (sym at_prices) (optimal_proves s h ends.0 z here)),
        at_value
            ∙ objective_is d deck x,
      )
  gives_proves s h (infeasible y) (β, ends) = infeasible_farkas s h y (subst (EndsInfeasible inst s y) (same_values inst s h β ends.1.values) ends)
  gives_proves s h (unbounded x r) (y, β, α, q, ends, at_point, at_ray) = by_phase s.phase refl
    where
      by_phase : (phase : Phase) → s.phase ≡ phase → Ray d x r
      by_phase One e = absurd (never_free inst s h e y β α q ends.0.prices ends.0.enters.eligible ends.0.column ends.1)
      by_phase Two e =
          subst (λ z. Ray d z r) (sym (at_point ∙ ap (point inst s) (same_values inst s h β ends.0.values)))
          (subst (λ z. Ray d (point inst s h.β) z) (sym at_ray) (ray_leads s h e y β α q ends))

  pub outcome_proves : (log : List Entry) (o : Outcome) → HasOutcome inst log o → OutcomeProves d o
  outcome_proves log o (s, run, gives) = gives_proves s (run_holds d deck log s run) o gives

-- A flip and a swap keep what holds of a state.
use Rattle.std.proofs.Common.{◌≡◌, ◌≢◌, ℕ, ◌<◌, ◌⊎◌, inl, inr, List, map, set, Some, refl, sym, ◌∙◌, ap, subst, cond, eqb, eq-eqb, ne_eqb, get_or-set_other, get_or-set_same, length-set, arith}
use Rattle.std.proofs.lemmas.Int.{ints}
use Rattle.lp_model.specs.declared.Entry.TheVariants.{Flip, Swap}
use Rattle.lp_model.specs.declared.Side.{Side}
use Rattle.lp_model.specs.declared.Status.TheVariants as status
use Rattle.rational.specs.Rational.{ℚ, zero_ℚ, ◌+ℚ◌, ◌-ℚ◌, ◌*ℚ◌, neg_ℚ, ◌≤ℚ◌, ◌<ℚ◌}
use Rattle.rational.proofs.RationalRing.{ring_ℚ}
use Rattle.rational.proofs.Ring.{◌≐◌, ◌⊕◌, ◌⊖◌, ◌⊗◌, ⊝◌, 𝟘}
use Rattle.rational.proofs.Linear.{linear, ◌≼◌, ◌≺◌, ◌≐◌, ◌⟹◌}
use Rattle.rational.specs.Sum.{at}
use Rattle.rational.proofs.OrderLaws.{by_lt_ℚ}
use Rattle.rational.proofs.SumLaws.{at_or_other}
use Rattle.lp_model.specs.Deck.{Within}
use Rattle.lp_run.specs.Instance.{Instance, bounds, column_count, row_count}
use Rattle.rational.specs.Sparse.{upto}
use Rattle.lp_run.specs.Solution.{Values, reduced}
use Rattle.lp_run.specs.State.{State, after, basic, other_end, rest, standing_at, status_of, resting_value}
use Rattle.lp_run.specs.Step.{IsLimit, IsNext, Leaves, Limit, NotAfter, Pivoting, direction, own_limit}
use Rattle.lp_run.proofs.Kept.{after_has_table}
use Rattle.rational.proofs.VectorLaws.{get-map-upto, length-map-upto}
use Rattle.lp_run.proofs.Unique.{eligible_not_basic}
use Rattle.bland_laws.specs.Kept.{IsBounded}
use Rattle.lp_run.specs.State.{NamesEnd}
use Rattle.bland_laws.proofs.Holding.{Holds, basic_still, once, values_within}
use Rattle.bland_laws.proofs.Limits.{Meets, Spans, direction_unit, limit_meets, limit_met, own_met, own_spans, step_forward, step_within}
use Rattle.bland_laws.proofs.Resting.{ends_apart}
use Rattle.bland_laws.proofs.Shifted.{Flipped, Swapped, flipped_weight, swapped_weight, values_moved}
use Rattle.bland_laws.proofs.Standing.{entering_crosses, flips, moves_not_basic, rest_within, standing_not_basic, standing_stands, standing_value}
use Rattle.bland_laws.proofs.Weights.{along, weight}

-- ── a step of the entering column within the limits ──

module _ (inst : Instance) (bounded : IsBounded inst) (s : State) (h : Holds inst s) (y β α : List ℚ) (q : ℕ) (pivoting : Pivoting inst s y β α q) where
  abbrev ahead : ℚ
  ahead = direction (reduced inst s y q)

  pub not_there : (p : ℕ) → p < row_count inst → basic s p ≢ q
  not_there p b = eligible_not_basic inst s y q pivoting.prices pivoting.enters.eligible p b

  pub entering_stands : NamesEnd (status_of s q) (bounds inst s.phase q)
  entering_stands = h.stands q pivoting.enters.eligible.in_range

  entering_rests : Within (bounds inst s.phase q) (rest inst s q)
  entering_rests =
      rest_within (status_of s q) (bounds inst s.phase q) entering_stands (bounded s.phase q pivoting.enters.eligible.in_range)
      (moves_not_basic (status_of s q) (reduced inst s y q) pivoting.enters.eligible.improves)

  module _ (limit : Limit) (leaves : Leaves inst s q ahead β α limit) where
    -- no limit has a smaller ratio
    not_later : (other : Limit) → IsLimit inst s q ahead β α other → limit.ratio ≤ℚ other.ratio
    not_later other is = by_order (leaves.first other is)
      where
        by_order : NotAfter limit other → limit.ratio ≤ℚ other.ratio
        by_order (inl less) = linear 2 (λ x y. x ≺ y ⟹ x ≼ y) (omega (arith, ints)) limit.ratio other.ratio less
        by_order (inr same) = linear 2 (λ x y. x ≐ y ⟹ x ≼ y) (omega (arith, ints)) limit.ratio other.ratio same.0

    pub forward : zero_ℚ ≤ℚ limit.ratio
    forward = by_limit leaves.is_limit
      where
        by_limit : IsLimit inst s q ahead β α limit → zero_ℚ ≤ℚ limit.ratio
        by_limit (inl (p, b, e)) =
            let (r, m) = limit_meets q p (basic s p) ahead (at β p) (at α p) (bounds inst s.phase (basic s p)) (direction_unit (reduced inst s y q)) limit e in
            step_forward r (bounds inst s.phase (basic s p)) (at β p) m.end (neg_ℚ ahead *ℚ at α p) limit.ratio m.toward m.has
            (values_within inst s h β pivoting.values p b) m.arrives
        by_limit (inr e) =
            let spans = own_spans (bounds inst s.phase q) q limit e in
            linear 3 (λ x l u. l ≼ u ⟹ x ≐ u ⊖ l ⟹ 𝟘 ≼ x) (omega (arith, ints)) limit.ratio spans.low spans.high
            (bounded s.phase q pivoting.enters.eligible.in_range spans.low spans.high spans.lower spans.upper) spans.ratio

    same_end : (a b : ℚ) → Some a ≡ Some b → a ≡ b
    same_end a b e = cc

    -- no basic value passes an end
    pub position_within : (k : ℕ) → k < row_count inst → Within (bounds inst s.phase (basic s k)) (at β k +ℚ (neg_ℚ ahead *ℚ at α k) *ℚ limit.ratio)
    position_within k b =
        step_within (bounds inst s.phase (basic s k)) (at β k) (neg_ℚ ahead *ℚ at α k) limit.ratio (values_within inst s h β pivoting.values k b) forward
        (λ r end toward has.
        let (other, e, m) = limit_met q k (basic s k) ahead (at β k) (at α k) (bounds inst s.phase (basic s k))
        (direction_unit (reduced inst s y q)) r end toward has in
        (other.ratio, not_later other (inl (k, b, e)), m.arrives ∙ same_end m.end end (sym m.has ∙ has)))

    -- and the entering column stays within its own
    pub entering_within : Within (bounds inst s.phase q) (rest inst s q +ℚ ahead *ℚ limit.ratio)
    entering_within =
        step_within (bounds inst s.phase q) (rest inst s q) ahead limit.ratio entering_rests forward
        (λ r end toward has.
        let c = entering_crosses (status_of s q) (bounds inst s.phase q)
        (reduced inst s y q) pivoting.enters.eligible.improves entering_stands r end toward has in
        (c.high -ℚ c.low, not_later _ (inr (own_met (bounds inst s.phase q) q c.low c.high c.lower c.upper)), c.arrives))

    abbrev step : ℚ
    step = ahead *ℚ limit.ratio

    by_rate : (k : ℕ) → at β k +ℚ (neg_ℚ ahead *ℚ at α k) *ℚ limit.ratio ≡ at β k -ℚ at α k *ℚ step
    by_rate k = ring_ℚ 4 (λ b t a x. b ⊕ ((⊝ t) ⊗ a) ⊗ x ≐ b ⊖ a ⊗ (t ⊗ x)) tt (at β k) ahead (at α k) limit.ratio

    -- ── a flip ──

    module _ (own : own_limit (bounds inst s.phase q) q ≡ Some limit) where
      abbrev flipped_values : List ℚ
      flipped_values = map (λ k. at β k -ℚ at α k *ℚ step) (upto (row_count inst))

      flip_at : status_of (after s (Flip q)) q ≡ other_end (status_of s q)
      flip_at = get_or-set_same s.statuses q (other_end (status_of s q)) status.Lower (subst (λ n. q < n) (sym h.each) pivoting.enters.eligible.in_range)

      flip_other : (j : ℕ) → j ≢ q → status_of (after s (Flip q)) j ≡ status_of s j
      flip_other j other = get_or-set_other s.statuses q j (other_end (status_of s q)) status.Lower other

      spans : Spans (bounds inst s.phase q) q limit
      spans = own_spans (bounds inst s.phase q) q limit own

      pub is_flipped : Flipped inst s (after s (Flip q)) β flipped_values α q step
      is_flipped =
          let f = flips (status_of s q) (bounds inst s.phase q)
          (reduced inst s y q) spans.low spans.high pivoting.enters.eligible.improves entering_stands spans.lower spans.upper in
          record {
            column = pivoting.enters.eligible.in_range;
            same_basis = λ k b. refl;
            moved = λ k b. get-map-upto (λ k. at β k -ℚ at α k *ℚ step) zero_ℚ (row_count inst) k b;
            gone = ap (λ st. resting_value st (bounds inst s.phase q)) flip_at ∙ f.rests ∙ ap (λ x. rest inst s q +ℚ ahead *ℚ x) (sym spans.ratio);
            others = λ j b other. ap (λ st. resting_value st (bounds inst s.phase j)) (flip_other j other);
          }

      pub flip_weight : (w : ℕ → ℚ) → weight inst (after s (Flip q)) flipped_values w ≡ weight inst s β w +ℚ step *ℚ along inst s q α w
      flip_weight = flipped_weight inst s (after s (Flip q)) β flipped_values α q step is_flipped

      pub flip_values : Values inst (after s (Flip q)) flipped_values
      flip_values =
          values_moved inst s (after s (Flip q)) β flipped_values α q step (length-map-upto (λ k. at β k -ℚ at α k *ℚ step)
          (row_count inst)) pivoting.values pivoting.column flip_weight

      -- a flip is a step of some length
      pub flip_length : zero_ℚ <ℚ limit.ratio
      flip_length =
          by_lt_ℚ zero_ℚ limit.ratio (λ h. h)
          (λ h. absurd (ends_apart (bounds inst s.phase q) spans.low pivoting.enters.eligible.ends_differ spans.lower
          (spans.upper ∙ ap Some (linear 3 (λ x l u. x ≐ u ⊖ l ⟹ x ≼ 𝟘 ⟹ l ≼ u ⟹ u ≐ l) (omega (arith, ints)) limit.ratio spans.low spans.high spans.ratio h
          (bounded s.phase q pivoting.enters.eligible.in_range spans.low spans.high spans.lower spans.upper)))))

      pub flip_holds : IsNext inst s (Flip q) → Holds inst (after s (Flip q))
      flip_holds next =
          let f = flips (status_of s q) (bounds inst s.phase q)
          (reduced inst s y q) spans.low spans.high pivoting.enters.eligible.improves entering_stands spans.lower spans.upper in
          record {
            table = after_has_table inst s h.table (Flip q) next;
            each = length-set s.statuses q (other_end (status_of s q)) ∙ h.each;
            β = flipped_values;
            values = flip_values;
            marked = λ p b. flip_other (basic s p) (not_there p b) ∙ h.marked p b;
            found =
                λ j b basic_now. at_or_other (λ j. j < column_count inst → status_of (after s (Flip q)) j ≡ status.Basic → (p : ℕ) × (p < row_count inst)
                × (basic s p ≡ j)) q j
                (λ c now. absurd (f.not_basic (sym flip_at ∙ now))) (λ other c now. h.found j c (sym (flip_other j other) ∙ now)) b basic_now;
            stands = λ j b. at_or_other (λ j. j < column_count inst → NamesEnd (status_of (after s (Flip q)) j) (bounds inst s.phase j)) q j
                (λ c. subst (λ st. NamesEnd st (bounds inst s.phase q)) (sym flip_at) f.stands)
                (λ other c. subst (λ st. NamesEnd st (bounds inst s.phase j)) (sym (flip_other j other)) (h.stands j c)) b;
            within = λ k b. subst (Within (bounds inst s.phase (basic s k)))
                (by_rate k ∙ sym (get-map-upto (λ k. at β k -ℚ at α k *ℚ step) zero_ℚ (row_count inst) k b)) (position_within k b);
          }

    -- ── a swap ──

    module _ (p : ℕ) (position : p < row_count inst) (r : Side) (meets : Meets q p (basic s p) ahead (at β p) (at α p)
        (bounds inst s.phase (basic s p)) limit r) where
      pub swapped_value : ℕ → ℚ
      swapped_value k = cond (eqb k p) (rest inst s q +ℚ step) (at β k -ℚ at α k *ℚ step)

      abbrev swapped_values : List ℚ
      swapped_values = map swapped_value (upto (row_count inst))

      swapped_here : at swapped_values p ≡ rest inst s q +ℚ step
      unfolding swapped_value
      swapped_here =
          get-map-upto swapped_value zero_ℚ (row_count inst) p position ∙ ap (λ b. cond b (rest inst s q +ℚ step) (at β p -ℚ at α p *ℚ step)) (eq-eqb p p refl)

      swapped_elsewhere : (k : ℕ) → k < row_count inst → k ≢ p → at swapped_values k ≡ at β k -ℚ at α k *ℚ step
      unfolding swapped_value
      swapped_elsewhere k b other =
          get-map-upto swapped_value zero_ℚ (row_count inst) k b ∙ ap (λ b. cond b (rest inst s q +ℚ step) (at β k -ℚ at α k *ℚ step)) (ne_eqb k p other)

      column : q < column_count inst
      column = pivoting.enters.eligible.in_range

      leaving : basic s p < column_count inst
      leaving = h.table.within p position

      pub swap_entered : status_of (after s (Swap q p r)) q ≡ status.Basic
      swap_entered = get_or-set_same (set s.statuses (basic s p) (standing_at r)) q status.Basic status.Lower
          (subst (λ n. q < n) (sym (length-set s.statuses (basic s p) (standing_at r) ∙ h.each)) column)

      pub swap_left : status_of (after s (Swap q p r)) (basic s p) ≡ standing_at r
      swap_left =
          get_or-set_other (set s.statuses (basic s p) (standing_at r)) q (basic s p) status.Basic status.Lower (not_there p position)
          ∙ get_or-set_same s.statuses (basic s p) (standing_at r) status.Lower (subst (λ n. basic s p < n) (sym h.each) leaving)

      pub swap_other : (j : ℕ) → j ≢ q → j ≢ basic s p → status_of (after s (Swap q p r)) j ≡ status_of s j
      swap_other j not_q not_left =
          get_or-set_other (set s.statuses (basic s p) (standing_at r)) q j status.Basic status.Lower not_q
          ∙ get_or-set_other s.statuses (basic s p) j (standing_at r) status.Lower not_left

      -- what is basic after a swap entered by it or was basic before
      pub swap_back : (j : ℕ) → status_of (after s (Swap q p r)) j ≡ status.Basic → (j ≡ q) ⊎ (status_of s j ≡ status.Basic)
      swap_back j = at_or_other (λ j. status_of (after s (Swap q p r)) j ≡ status.Basic → (j ≡ q) ⊎ (status_of s j ≡ status.Basic)) q j (λ now. inl refl)
          (λ not_q. at_or_other (λ j. j ≢ q → status_of (after s (Swap q p r)) j ≡ status.Basic → (j ≡ q) ⊎ (status_of s j ≡ status.Basic)) (basic s p) j
          (λ _ now. absurd (standing_not_basic r (sym swap_left ∙ now))) (λ not_left not_q now. inr (sym (swap_other j not_q not_left) ∙ now)) not_q)

      -- what was basic before it left by it or is basic after
      pub swap_on : (j : ℕ) → status_of s j ≡ status.Basic → (basic s p ≡ j) ⊎ (status_of (after s (Swap q p r)) j ≡ status.Basic)
      swap_on j =
          at_or_other (λ j. status_of s j ≡ status.Basic → (basic s p ≡ j) ⊎ (status_of (after s (Swap q p r)) j ≡ status.Basic)) (basic s p) j
          (λ now. inl refl)
          (λ not_left. at_or_other (λ j. j ≢ basic s p → status_of s j ≡ status.Basic → (basic s p ≡ j)
          ⊎ (status_of (after s (Swap q p r)) j ≡ status.Basic)) q j
          (λ _ now. inr swap_entered) (λ not_q not_left now. inr (swap_other j not_q not_left ∙ now)) not_left)

      placed : basic (after s (Swap q p r)) p ≡ q
      placed = get_or-set_same s.basis p q 0 (subst (λ n. p < n) (sym h.table.positions) position)

      kept : (k : ℕ) → k ≢ p → basic (after s (Swap q p r)) k ≡ basic s k
      kept k other = get_or-set_other s.basis p k q 0 other

      pub is_swapped : Swapped inst s (after s (Swap q p r)) β swapped_values α q p step
      is_swapped = record {
        column = column;
        position = position;
        leaving = leaving;
        apart = not_there p position;
        placed = placed;
        kept = λ k b other. kept k other;
        moved = swapped_elsewhere;
        entered = swapped_here;
        left_at =
            ap (λ st. resting_value st (bounds inst s.phase (basic s p))) swap_left ∙ standing_value r (bounds inst s.phase (basic s p)) meets.end meets.has
            ∙ sym meets.arrives ∙ by_rate p;
        was_basic = basic_still inst s h p position;
        is_basic = ap (λ st. resting_value st (bounds inst s.phase q)) swap_entered;
        others = λ j b not_left not_q. ap (λ st. resting_value st (bounds inst s.phase j)) (swap_other j not_q not_left);
      }

      pub swap_weight : (w : ℕ → ℚ) → weight inst (after s (Swap q p r)) swapped_values w ≡ weight inst s β w +ℚ step *ℚ along inst s q α w
      swap_weight = swapped_weight inst s (after s (Swap q p r)) β swapped_values α q p step is_swapped

      pub swap_values : Values inst (after s (Swap q p r)) swapped_values
      swap_values =
          values_moved inst s (after s (Swap q p r)) β swapped_values α q step (length-map-upto swapped_value
          (row_count inst)) pivoting.values pivoting.column swap_weight

      -- what holds of column j, where it holds of the one that enters, of the one that leaves and of each other
      each_after : (P : ℕ → Type 0) → P q → P (basic s p) → ((j : ℕ) → j ≢ q → j ≢ basic s p → P j) → (j : ℕ) → P j
      each_after P entering leaving others j =
          at_or_other P q j entering (λ not_q. at_or_other (λ j. j ≢ q → P j) (basic s p) j (λ _. leaving) (λ not_left not_q. others j not_q not_left) not_q)

      pub swap_holds : IsNext inst s (Swap q p r) → Holds inst (after s (Swap q p r))
      swap_holds next = record {
        table = after_has_table inst s h.table (Swap q p r) next;
        each = length-set (set s.statuses (basic s p) (standing_at r)) q status.Basic ∙ length-set s.statuses (basic s p) (standing_at r) ∙ h.each;
        β = swapped_values;
        values = swap_values;
        marked = λ k b. at_or_other (λ k. k < row_count inst → status_of (after s (Swap q p r)) (basic (after s (Swap q p r)) k) ≡ status.Basic) p k
            (λ c. ap (status_of (after s (Swap q p r))) placed ∙ swap_entered)
            (λ other c. ap (status_of (after s (Swap q p r))) (kept k other)
            ∙ swap_other (basic s k) (not_there k c) (λ same. other (once inst s h k p c position same)) ∙ h.marked k c) b;
        found =
            each_after (λ j. j < column_count inst → status_of (after s (Swap q p r)) j ≡ status.Basic → (k : ℕ) × (k < row_count inst)
            × (basic (after s (Swap q p r)) k ≡ j))
            (λ b now. (p, position, placed))
            (λ b now. absurd (standing_not_basic r (sym swap_left ∙ now)))
            (λ j not_q not_left b now.
            let (k, c, same) = h.found j b (sym (swap_other j not_q not_left) ∙ now) in
            (k, c, kept k (λ e. not_left (sym same ∙ ap (basic s) e)) ∙ same));
        stands = each_after (λ j. j < column_count inst → NamesEnd (status_of (after s (Swap q p r)) j) (bounds inst s.phase j))
            (λ b. subst (λ st. NamesEnd st (bounds inst s.phase q)) (sym swap_entered) tt)
            (λ b. subst (λ st. NamesEnd st (bounds inst s.phase (basic s p))) (sym swap_left)
            (standing_stands r (bounds inst s.phase (basic s p)) meets.end meets.has))
            (λ j not_q not_left b. subst (λ st. NamesEnd st (bounds inst s.phase j)) (sym (swap_other j not_q not_left)) (h.stands j b));
        within = λ k b. at_or_other (λ k. k < row_count inst → Within (bounds inst s.phase (basic (after s (Swap q p r)) k)) (at swapped_values k)) p k
            (λ c. subst (λ j. Within (bounds inst s.phase j) (at swapped_values p)) (sym placed) (subst (Within (bounds inst s.phase q))
            (sym swapped_here) entering_within))
            (λ other c. subst (λ j. Within (bounds inst s.phase j) (at swapped_values k)) (sym (kept k other))
            (subst (Within (bounds inst s.phase (basic s k))) (by_rate k ∙ sym (swapped_elsewhere k c other)) (position_within k c))) b;
      }

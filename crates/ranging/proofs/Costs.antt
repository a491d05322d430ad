-- The changes of a cost that leave a state optimal.
use Rattle.std.proofs.Common.{◌≡◌, ◌≢◌, ◌↔◌, ℕ, ◌+◌, ◌<◌, List, map, Bool, true, false, not, ◌&&◌, refl, sym, ◌∙◌, ap, ap₂, subst, arith}
use Rattle.std.specs.Prelude.{IsFalse}
use Rattle.std.proofs.lemmas.List.Elements.{Contains-get_or}
use Rattle.lp_model.specs.declared.Phase.{Phase}
use Rattle.lp_model.specs.declared.Phase.TheVariants.{One, Two}
use Rattle.lp_model.specs.declared.Sense.{Sense}
use Rattle.lp_model.specs.declared.Sense.TheVariants.{Max, Min}
use Rattle.lp_model.specs.declared.Status.{Status}
use Rattle.lp_model.specs.declared.Status.TheVariants as status
use Rattle.lp_model.specs.Deck.{Within, in_sense}
use Rattle.lp_run.specs.declared.ColumnKind.{ColumnKind}
use Rattle.lp_run.specs.declared.ColumnKind.TheVariants as column
use Rattle.rational.specs.Rational.{ℚ, zero_ℚ, one_ℚ, ◌+ℚ◌, ◌-ℚ◌, ◌*ℚ◌, neg_ℚ}
use Rattle.rational.specs.Sparse.{at_index, upto}
use Rattle.rational.specs.Sum.{at, sum_ℚ}
use Rattle.rational.proofs.RationalRing.{ring_ℚ}
use Rattle.rational.proofs.Ring.{◌≐◌, ◌⊙◌≗◌⟹◌, ◌⊕◌, ◌⊖◌, ◌⊗◌, ⊝◌, 𝟘, 𝟙}
use Rattle.rational.proofs.SparseLaws.{at_index-other, at_index-same}
use Rattle.rational.proofs.SumLaws.{at_or_other, sum-add, sum-cong, sum-scale}
use Rattle.rational.proofs.VectorLaws.{get-map-upto, length-map-upto}
use Rattle.lp_run.specs.Instance.{Instance, bounds, coefficient, column_count, column_kind, cost, kind_cost, row_count, structural, structural_count}
use Rattle.lp_run.specs.Solution.{Prices, Regular, reduced, times_basis}
use Rattle.lp_run.specs.State.{IsState, State, basic, status_of}
use Rattle.lp_run.specs.Step.{Improves, NoneEligible, is_fixed}
use Rattle.lp_run.proofs.Regularity.{one_prices}
use Rattle.lp_run.proofs.Start.{each_column, kind_of_artificial, kind_of_logical, kind_of_structural}
use Rattle.ranging.specs.Inner.Limits.{CostsHold, cost_limit}
use Rattle.ranging.specs.Listing.{is_basic, is_looked_at}
use Rattle.ranging.specs.Ranges.{CostStays, with_cost}
use Rattle.ranging.proofs.Alike.{Alike, cost_alike, cost_elsewhere, cost_there, same_bounds, same_coefficient, same_count, same_kind, same_regular, same_times_basis}
use Rattle.ranging.proofs.Changes.{costs_stay}

-- ── columns that are looked at ──

both : (a b : Bool) → (a && b) ≡ true → (a ≡ true) × (b ≡ true)
both true true e = (refl, refl)
both true false e = absurd (cc e)
both false b e = absurd (cc e)

not_true : (a : Bool) → not a ≡ true → a ≡ false
not_true false e = refl
not_true true e = absurd (cc e)

pub not_looked : (inst : Instance) (s : State) (k : ℕ) → is_looked_at inst s k ≡ true → status_of s k ≢ status.Basic
not_looked inst s k e here = apart (sym (ap is_basic here) ∙ not_true (is_basic (status_of s k)) (both (not (is_basic (status_of s k))) _ e).0)
  where
    apart : true ≡ false → ⊥
    apart e = cc e

pub looked_differ : (inst : Instance) (s : State) (k : ℕ) → is_looked_at inst s k ≡ true → IsFalse (is_fixed (bounds inst s.phase k))
looked_differ inst s k e = not_true (is_fixed (bounds inst s.phase k)) (both (not (is_basic (status_of s k))) _ e).1

pub looked : (inst : Instance) (s : State) (k : ℕ) (d : ℚ) → Improves (status_of s k) d → is_fixed (bounds inst s.phase k) ≡ false → is_looked_at inst s k ≡ true
looked inst s k d improves differ = by_status (status_of s k) improves (is_fixed (bounds inst s.phase k)) differ
  where
    by_status : (st : Status) → Improves st d → (f : Bool) → f ≡ false → (not (is_basic st) && not f) ≡ true
    by_status status.Basic h f e = absurd h
    by_status status.Lower h f e = ap not e
    by_status status.Upper h f e = ap not e
    by_status status.Zero h f e = ap not e

sense_adds : (sense : Sense) (c t : ℚ) → in_sense sense (c +ℚ t) ≡ in_sense sense c +ℚ in_sense sense t
sense_adds Min c t = refl
sense_adds Max c t = ring_ℚ 2 (λ c t. ⊝ (c ⊕ t) ≐ ⊝ c ⊕ ⊝ t) tt c t

module _ (inst : Instance) (s : State) (valid : IsState inst s) (regular : Regular inst s) (two : s.phase ≡ Two) (y : List ℚ) (prices : Prices inst s y) (none : NoneEligible inst s y)
    (j : ℕ) (below : j < structural_count inst) (t : ℚ) where
  abbrev changed : Instance
  changed = with_cost inst j t

  abbrev u : ℚ
  u = in_sense inst.sense t

  alike : Alike inst changed
  alike = cost_alike inst j below t

  within : j < column_count inst
  within = omega arith

  -- ── the costs ──

  there : cost changed s.phase j ≡ cost inst s.phase j +ℚ u
  there =
      ap (λ phase. cost changed phase j) two
      ∙ ap (kind_cost changed Two) (same_kind inst changed alike j ∙ kind_of_structural inst j below)
      ∙ ap (in_sense inst.sense) (cost_there inst j below t)
      ∙ sense_adds inst.sense (structural inst j).cost t
      ∙ ap (λ z. z +ℚ u) (sym (ap (λ phase. cost inst phase j) two ∙ ap (kind_cost inst Two) (kind_of_structural inst j below)))

  elsewhere : (k : ℕ) → k < column_count inst → k ≢ j → cost changed s.phase k ≡ cost inst s.phase k
  elsewhere =
      each_column inst (λ k. k ≢ j → cost changed s.phase k ≡ cost inst s.phase k)
      (λ k b other. by_kind k (column.Structural k) (kind_of_structural inst k b) (λ phase. by_phase phase k other))
      (λ i b other. by_kind (structural_count inst + i) (column.Logical i) (kind_of_logical inst i b) (λ phase. free phase i))
      (λ i b other. by_kind (structural_count inst + row_count inst + i) (column.Artificial i) (kind_of_artificial inst i) (λ phase. needed phase i))
    where
      by_kind : (k : ℕ) (c : ColumnKind) → column_kind inst k ≡ c → ((phase : Phase) → kind_cost changed phase c ≡ kind_cost inst phase c) → cost changed s.phase k ≡ cost inst s.phase k
      by_kind k c is same = ap (kind_cost changed s.phase) (same_kind inst changed alike k ∙ is) ∙ same s.phase ∙ sym (ap (kind_cost inst s.phase) is)

      by_phase : (phase : Phase) (k : ℕ) → k ≢ j → kind_cost changed phase (column.Structural k) ≡ kind_cost inst phase (column.Structural k)
      by_phase One k other = refl
      by_phase Two k other = ap (λ c. in_sense inst.sense c.cost) (cost_elsewhere inst j below t k other)

      free : (phase : Phase) (i : ℕ) → kind_cost changed phase (column.Logical i) ≡ kind_cost inst phase (column.Logical i)
      free One i = refl
      free Two i = refl

      needed : (phase : Phase) (i : ℕ) → kind_cost changed phase (column.Artificial i) ≡ kind_cost inst phase (column.Artificial i)
      needed One i = refl
      needed Two i = refl

  -- ── where the reduced costs fall by u times r ──

  module _ (y' : List ℚ) (prices' : Prices changed s y') (r : ℕ → ℚ)
      (falls : (k : ℕ) → k < column_count inst → is_looked_at inst s k ≡ true → reduced changed s y' k ≡ reduced inst s y k -ℚ u *ℚ r k) where
    calm : (k : ℕ) → k < column_count inst → is_looked_at inst s k ≡ true → Improves (status_of s k) (reduced inst s y k) → ⊥
    calm k b l improves = none k (record { in_range = b; ends_differ = looked_differ inst s k l; improves = improves })

    limited : NoneEligible changed s y' → CostsHold inst s (reduced inst s y) r u
    limited none' k b l =
        (costs_stay (reduced inst s y k) (r k) u (status_of s k) (calm k b l)).0
        (λ improves. none' k (record {
          in_range = subst (λ n. k < n) (sym (same_count inst changed alike)) b;
          ends_differ = subst (λ i. IsFalse (is_fixed i)) (sym (same_bounds inst changed alike s.phase k)) (looked_differ inst s k l);
          improves = subst (Improves (status_of s k)) (sym (falls k b l)) improves;
        }))

    unlimited : CostsHold inst s (reduced inst s y) r u → NoneEligible changed s y'
    unlimited holds k e =
        let b : k < column_count inst = subst (λ n. k < n) (same_count inst changed alike) e.in_range in
        let differ : is_fixed (bounds inst s.phase k) ≡ false = subst (λ i. IsFalse (is_fixed i)) (same_bounds inst changed alike s.phase k) e.ends_differ in
        let l : is_looked_at inst s k ≡ true = looked inst s k (reduced changed s y' k) e.improves differ in
        (costs_stay (reduced inst s y k) (r k) u (status_of s k) (calm k b l)).1 (holds k b l) (subst (Improves (status_of s k)) (falls k b l) e.improves)

    pub stays_exactly : CostStays inst s j t ↔ CostsHold inst s (reduced inst s y) r u
    stays_exactly = (
      λ stays. limited (subst (NoneEligible changed s) (one_prices changed s (same_regular inst changed alike s regular) stays.0 y' stays.1 prices') stays.2),
      λ holds. (y', prices', unlimited holds),
    )

  -- a basic column stands in a position
  basic_there : (p : ℕ) → p < row_count inst → status_of s (basic s p) ≡ status.Basic
  basic_there p b =
      (valid.basic_just_there (basic s p) (valid.in_range p b)).1 (Contains-get_or s.basis p 0 (subst (λ n. p < n) (sym valid.positions) b))

  reduced_elsewhere : (y' : List ℚ) (k : ℕ) → k < column_count inst → k ≢ j
      → reduced changed s y' k ≡ cost inst s.phase k -ℚ sum_ℚ (row_count inst) (λ i. at y' i *ℚ coefficient inst i k)
  reduced_elsewhere y' k b other =
      ap₂ ◌-ℚ◌ (elsewhere k b other) (sum-cong (row_count inst) _ _ (λ i c. ap (λ z. at y' i *ℚ z) (same_coefficient inst changed alike i k)))

  -- ── a column that is not basic ──

  module _ (apart : status_of s j ≢ status.Basic) where
    not_there : (p : ℕ) → p < row_count inst → basic s p ≢ j
    not_there p b is = apart (subst (λ k. status_of s k ≡ status.Basic) is (basic_there p b))

    kept_prices : Prices changed s y
    kept_prices = record {
      one_each = prices.one_each;
      solves = λ p b. same_times_basis inst changed alike s (at y) p ∙ prices.solves p b ∙ sym (elsewhere (basic s p) (valid.in_range p b) (not_there p b));
    }

    own : ℕ → ℚ
    own k = neg_ℚ (at_index k j one_ℚ)

    own_falls : (k : ℕ) → k < column_count inst → is_looked_at inst s k ≡ true → reduced changed s y k ≡ reduced inst s y k -ℚ u *ℚ own k
    unfolding own
    own_falls k b l =
        at_or_other (λ k. k < column_count inst → reduced changed s y k ≡ reduced inst s y k -ℚ u *ℚ own k) j k
        (λ b. ap₂ ◌-ℚ◌ there (sum-cong (row_count inst) _ _ (λ i c. ap (λ z. at y i *ℚ z) (same_coefficient inst changed alike i j)))
        ∙ ring_ℚ 4 (λ c u p i. ⊝ u ⊙ i ≗ 𝟙 ⟹ (c ⊕ u) ⊖ p ≐ (c ⊖ p) ⊖ u ⊗ ⊝ i) tt (cost inst s.phase j) u (sum_ℚ (row_count inst) (λ i. at y i *ℚ coefficient inst i j)) (at_index j j one_ℚ) (at_index-same j one_ℚ))
        (λ other b. reduced_elsewhere y k b other
        ∙ ring_ℚ 3 (λ d u i. ⊝ u ⊙ i ≗ 𝟘 ⟹ d ≐ d ⊖ u ⊗ ⊝ i) tt (reduced inst s y k) u (at_index k j one_ℚ) (at_index-other k j one_ℚ other))
        b

    -- it stays optimal exactly within its own limit, where its ends differ
    pub own_stays : CostStays inst s j t ↔ (is_looked_at inst s j ≡ true → Within (cost_limit (status_of s j) (reduced inst s y j) (neg_ℚ one_ℚ)) u)
    unfolding own
    own_stays =
        let exactly = stays_exactly y kept_prices own own_falls in (
          λ stays l. subst (λ i. Within (cost_limit (status_of s j) (reduced inst s y j) (neg_ℚ i)) u) (at_index-same j one_ℚ) (exactly.0 stays j within l),
          λ holds. exactly.1 (λ k b l. at_or_other (λ k. is_looked_at inst s k ≡ true → Within (cost_limit (status_of s k) (reduced inst s y k) (own k)) u) j k
              (λ l. subst (λ i. Within (cost_limit (status_of s j) (reduced inst s y j) (neg_ℚ i)) u) (sym (at_index-same j one_ℚ)) (holds l))
              (λ other l. anything (status_of s k) (reduced inst s y k) (neg_ℚ (at_index k j one_ℚ)) (ap neg_ℚ (at_index-other k j one_ℚ other) ∙ ring_ℚ 0 (⊝ 𝟘 ≐ 𝟘) tt) (calm y kept_prices own own_falls k b l)) l),
        )
      where
        anything : (st : Status) (d r : ℚ) → r ≡ zero_ℚ → (Improves st d → ⊥) → Within (cost_limit st d r) u
        anything st d r is quiet =
            (costs_stay d r u st quiet).0 (λ h. quiet (subst (Improves st) (ring_ℚ 3 (λ d u r. ⊝ u ⊙ r ≗ 𝟘 ⟹ d ⊖ u ⊗ r ≐ d) tt d u r is) h))

  -- ── a basic column ──

  module _ (p : ℕ) (c : p < row_count inst) (here : basic s p ≡ j) (ρ : ℕ → ℚ) (solves : (k : ℕ) → k < row_count inst → times_basis inst s ρ k ≡ at_index k p one_ℚ)
      (r : ℕ → ℚ) (made : (k : ℕ) → k < column_count inst → r k ≡ sum_ℚ (row_count inst) (λ i. ρ i *ℚ coefficient inst i k)) where
    moved : List ℚ
    moved = map (λ i. at y i +ℚ u *ℚ ρ i) (upto (row_count inst))

    sums : (k : ℕ) → sum_ℚ (row_count inst) (λ i. at moved i *ℚ coefficient inst i k)
        ≡ sum_ℚ (row_count inst) (λ i. at y i *ℚ coefficient inst i k) +ℚ u *ℚ sum_ℚ (row_count inst) (λ i. ρ i *ℚ coefficient inst i k)
    unfolding moved
    sums k =
        sum-cong (row_count inst) _ _ (λ i b. ap (λ z. z *ℚ coefficient inst i k) (get-map-upto (λ i. at y i +ℚ u *ℚ ρ i) zero_ℚ (row_count inst) i b)
        ∙ ring_ℚ 4 (λ y u r a. (y ⊕ u ⊗ r) ⊗ a ≐ y ⊗ a ⊕ u ⊗ (r ⊗ a)) tt (at y i) u (ρ i) (coefficient inst i k))
        ∙ sum-add (row_count inst) (λ i. at y i *ℚ coefficient inst i k) (λ i. u *ℚ (ρ i *ℚ coefficient inst i k))
        ∙ ap (λ z. sum_ℚ (row_count inst) (λ i. at y i *ℚ coefficient inst i k) +ℚ z) (sum-scale (row_count inst) u (λ i. ρ i *ℚ coefficient inst i k))

    moved_prices : Prices changed s moved
    unfolding moved
    moved_prices = record {
      one_each = length-map-upto (λ i. at y i +ℚ u *ℚ ρ i) (row_count inst);
      solves = λ k b. same_times_basis inst changed alike s (at moved) k ∙ sums (basic s k) ∙ ap₂ (λ a z. a +ℚ u *ℚ z) (prices.solves k b) (solves k b)
          ∙ at_or_other (λ k. k < row_count inst → cost inst s.phase (basic s k) +ℚ u *ℚ at_index k p one_ℚ ≡ cost changed s.phase (basic s k)) p k
          (λ b. ap₂ (λ j z. cost inst s.phase j +ℚ u *ℚ z) here (at_index-same p one_ℚ) ∙ ring_ℚ 2 (λ c u. c ⊕ u ⊗ 𝟙 ≐ c ⊕ u) tt (cost inst s.phase j) u ∙ sym (ap (cost changed s.phase) here ∙ there))
          (λ other b. ap (λ z. cost inst s.phase (basic s k) +ℚ u *ℚ z) (at_index-other k p one_ℚ other) ∙ ring_ℚ 2 (λ c u. c ⊕ u ⊗ 𝟘 ≐ c) tt (cost inst s.phase (basic s k)) u
          ∙ sym (elsewhere (basic s k) (valid.in_range k b) (λ same. other (valid.once k p b c (same ∙ sym here))))) b;
    }

    row_falls : (k : ℕ) → k < column_count inst → is_looked_at inst s k ≡ true → reduced changed s moved k ≡ reduced inst s y k -ℚ u *ℚ r k
    row_falls k b l =
        reduced_elsewhere moved k b (λ same. not_looked inst s k l (subst (λ k. status_of s k ≡ status.Basic) (here ∙ sym same) (basic_there p c)))
        ∙ ap (λ z. cost inst s.phase k -ℚ z) (sums k)
        ∙ ring_ℚ 5 (λ c y u g r. ⊝ u ⊙ g ≗ r ⟹ c ⊖ (y ⊕ u ⊗ g) ≐ (c ⊖ y) ⊖ u ⊗ r) tt (cost inst s.phase k) (sum_ℚ (row_count inst) (λ i. at y i *ℚ coefficient inst i k)) u
        (sum_ℚ (row_count inst) (λ i. ρ i *ℚ coefficient inst i k)) (r k) (sym (made k b))

    -- it stays optimal exactly where no reduced cost comes to improve that falls by u times the row
    pub basic_stays : CostStays inst s j t ↔ CostsHold inst s (reduced inst s y) r u
    basic_stays = stays_exactly moved moved_prices r row_falls

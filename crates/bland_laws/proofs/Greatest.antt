-- Two states with one point, at one of which the greatest column that moves in and out enters, and at the other of which it leaves: they can not be.
use Rattle.std.proofs.Common.{◌≡◌, ◌≢◌, ℕ, ◌<◌, ◌≤◌, ◌⊎◌, inl, inr, Some, IsFalse, true, false, eqb, sym, ◌∙◌, ap, subst, arith}
use Rattle.std.proofs.lemmas.Bool.Decides.{eqb_tells}
use Rattle.std.proofs.lemmas.Int.{ints}
use Rattle.lp_model.specs.declared.Side.{Side}
use Rattle.lp_model.specs.declared.Side.TheVariants as side
use Rattle.lp_model.specs.declared.Status.TheVariants as status
use Rattle.rational.specs.Rational.{ℚ, zero_ℚ, ◌+ℚ◌, ◌*ℚ◌, neg_ℚ, ◌≤ℚ◌}
use Rattle.rational.proofs.RationalRing.{ring_ℚ}
use Rattle.rational.proofs.Ring.{◌≐◌, ◌⊙◌≗◌⟹◌, ◌⊕◌, ◌⊗◌, ⊝◌, 𝟘, 𝟙}
use Rattle.rational.proofs.Linear.{linear, ◌≼◌, ◌≺◌, ◌≐◌, ◌⟹◌, never}
use Rattle.rational.specs.Sum.{sum_ℚ, at}
use Rattle.rational.proofs.FieldLaws.{*ℚ_nonzero}
use Rattle.lp_model.specs.Deck.{Interval}
use Rattle.lp_run.specs.Instance.{Instance, bounds, column_count, cost, row_count}
use Rattle.lp_run.specs.Solution.{reduced}
use Rattle.lp_run.specs.State.{State, basic, status_of, resting_value}
use Rattle.lp_run.specs.Step.{Limit, Improves, NotAfter, direction, is_fixed}
use Rattle.bland_laws.specs.Kept.{IsBounded}
use Rattle.lp_run.specs.State.{NamesEnd}
use Rattle.bland_laws.proofs.Holding.{Holds, once, same_values, value_at_rest, value_there}
use Rattle.bland_laws.proofs.Limits.{Meets, Toward, direction_falls, direction_unit, end_at, limit_met}
use Rattle.bland_laws.proofs.Moving.{SwapStep}
use Rattle.bland_laws.proofs.Phases.{sum_not_below}
use Rattle.bland_laws.proofs.Resting.{priced_basic}
use Rattle.bland_laws.proofs.Signs.{entering_later, passed_over, returning, zero_times}
use Rattle.bland_laws.proofs.Standing.{is_basic_or, moves_not_basic, moves_priced}
use Rattle.bland_laws.proofs.Stepping.{not_there}
use Rattle.bland_laws.proofs.Weights.{along, along_cost, along_priced, along_rates, unit, value, weight}

-- g enters at u; at u' column q enters and g leaves, by a step of no length
module _ (inst : Instance) (bounded : IsBounded inst) (u u' : State) (h : Holds inst u) (h' : Holds inst u') (g p₁ : ℕ) (r₁ : Side)
    (f : SwapStep inst u g p₁ r₁) (q p : ℕ) (r : Side) (f' : SwapStep inst u' q p r)
    (leaves : basic u' p ≡ g) (still : f'.limit.ratio ≡ zero_ℚ) (phases : u.phase ≡ u'.phase) (point : (w : ℕ → ℚ)
    → weight inst u h.β w ≡ weight inst u' h'.β w)
    (fickle : (j : ℕ) → j < column_count inst → status_of u' j ≡ status.Basic → status_of u j ≢ status.Basic
    → (j ≤ g) × IsFalse (is_fixed (bounds inst u.phase j))) (below : q ≤ g) where
  abbrev d : ℕ → ℚ
  d j = reduced inst u f.y j

  abbrev t : ℚ
  t = direction (reduced inst u' f'.y q)

  abbrev rate : ℕ → ℚ
  rate k = neg_ℚ t *ℚ at f'.α k

  abbrev i' : ℕ → Interval
  i' j = bounds inst u'.phase j

  abbrev i : ℕ → Interval
  i j = bounds inst u.phase j

  same_bounds : (j : ℕ) → i' j ≡ i j
  same_bounds j = ap (λ f. bounds inst f j) (sym phases)

  -- the value of a column that rests at u
  rests_at : (j : ℕ) → j < column_count inst → status_of u j ≢ status.Basic → value inst u' h'.β j ≡ resting_value (status_of u j) (i j)
  rests_at j b other = sym (point (unit j)) ∙ value_at_rest inst u h j b other

  value_of : (k : ℕ) → k < row_count inst → at f'.β k ≡ value inst u' h'.β (basic u' k)
  value_of k b = ap (λ β. at β k) (same_values inst u' h' f'.β f'.pivoting.values) ∙ sym (value_there inst u' h' k b)

  -- a column below g that rests at u is not eligible there
  not_eligible : (j : ℕ) → j < column_count inst → j < g → IsFalse (is_fixed (i j)) → Improves (status_of u j) (d j) → ⊥
  not_eligible j b less loose moves = f.pivoting.enters.least j less (record { in_range = b; ends_differ = loose; improves = moves })

  -- ── g itself ──

  g_there : g < column_count inst
  g_there = f.pivoting.enters.eligible.in_range

  term_of_g : zero_ℚ ≤ℚ d g *ℚ rate p
  term_of_g =
      returning (i g) f.pivoting.enters.eligible.ends_differ (status_of u g) (d g) (value inst u' h'.β g)
      (rate p) f'.meets.end r f.pivoting.enters.eligible.improves (h.stands g g_there)
      (rests_at g g_there (moves_not_basic (status_of u g) (d g) f.pivoting.enters.eligible.improves)) f'.meets.toward
      (ap (end_at r) (sym (same_bounds g)) ∙ ap (λ j. end_at r (i' j)) (sym leaves) ∙ f'.meets.has)
      (ap (value inst u' h'.β) (sym leaves) ∙ sym (value_of p f'.position)
      ∙ ring_ℚ 2 (λ v x. v ≐ v ⊕ x ⊗ 𝟘) tt (at f'.β p) (rate p) ∙ ap (λ x. at f'.β p +ℚ rate p *ℚ x) (sym still) ∙ f'.meets.arrives)

  -- ── the other basic columns of u' ──

  -- no step takes such a column beyond its end
  blocked : (k : ℕ) → k < row_count inst → basic u' k < g → (e : Side) (end : ℚ) → Toward e (rate k) → end_at e (i (basic u' k)) ≡ Some end
      → value inst u' h'.β (basic u' k) ≡ end → ⊥
  blocked k b less e end toward has here =
      let (other, is, m) = limit_met q k (basic u' k) t (at f'.β k) (at f'.α k) (i' (basic u' k)) (direction_unit (reduced inst u' f'.y q)) e end toward
      (ap (end_at e) (same_bounds (basic u' k)) ∙ has) in
      by_order other m (f'.leaves.first other (inl (k, b, is)))
    where
      same_end : (a b : ℚ) → Some a ≡ Some b → a ≡ b
      same_end a b e = cc

      moves_none : (e : Side) → Toward e (rate k) → rate k ≢ zero_ℚ
      moves_none side.Lower h e = linear 1 (λ x. x ≺ 𝟘 ⟹ x ≐ 𝟘 ⟹ never) (omega (arith, ints)) (rate k) h e
      moves_none side.Upper h e = linear 1 (λ x. 𝟘 ≺ x ⟹ x ≐ 𝟘 ⟹ never) (omega (arith, ints)) (rate k) h e

      no_way : (other : Limit) → Meets q k (basic u' k) t (at f'.β k) (at f'.α k) (i' (basic u' k)) other e → other.ratio ≡ zero_ℚ
      no_way other m =
          *ℚ_nonzero (rate k) other.ratio (moves_none e toward)
          (ring_ℚ 4 (λ v x o e. 𝟙 ⊙ v ⊕ x ⊗ o ≗ e ⟹ ⊝ 𝟙 ⊙ v ≗ e ⟹ o ⊗ x ≐ 𝟘) tt (at f'.β k) (rate k) other.ratio end
          (m.arrives ∙ same_end m.end end (sym m.has ∙ ap (end_at e) (same_bounds (basic u' k)) ∙ has)) (value_of k b ∙ here))

      by_order : (other : Limit) → Meets q k (basic u' k) t (at f'.β k) (at f'.α k) (i' (basic u' k)) other e → NotAfter f'.limit other → ⊥
      by_order other m (inl shorter) =
          linear 2 (λ a b. a ≺ b ⟹ a ≐ 𝟘 ⟹ b ≐ 𝟘 ⟹ never) (omega (arith, ints)) f'.limit.ratio other.ratio shorter still (no_way other m)
      by_order other m (inr (_, first)) = not_first (subst (λ c. c ≤ basic u' k) (f'.meets.column ∙ leaves) (subst (λ c. f'.limit.column ≤ c) m.column first))
        where
          not_first : g ≤ basic u' k → ⊥
          not_first h = omega (arith, h, less)

  term_of_other : (k : ℕ) → k < row_count inst → basic u' k ≢ g → zero_ℚ ≤ℚ d (basic u' k) *ℚ rate k
  term_of_other k b apart = by_case (is_basic_or (status_of u (basic u' k)))
    where
      there : basic u' k < column_count inst
      there = h'.table.within k b

      by_case : (status_of u (basic u' k) ≡ status.Basic) ⊎ (status_of u (basic u' k) ≢ status.Basic) → zero_ℚ ≤ℚ d (basic u' k) *ℚ rate k
      by_case (inl now) = zero_times (d (basic u' k)) (rate k) (priced_basic inst bounded u h f.y f.pivoting.prices (basic u' k) there now)
      by_case (inr other) =
          let (most, loose) = fickle (basic u' k) there (h'.marked k b) other in
          let less : basic u' k < g = omega (arith, most, apart) in
          passed_over (i (basic u' k)) loose (status_of u (basic u' k)) (d (basic u' k)) (value inst u' h'.β (basic u' k)) (rate k)
          (not_eligible (basic u' k) there less loose) other
          (h.stands (basic u' k) there) (rests_at (basic u' k) there other) (blocked k b less)

  term : (k : ℕ) → k < row_count inst → zero_ℚ ≤ℚ d (basic u' k) *ℚ rate k
  term k b = by_place (eqb_tells (basic u' k) g)
    where
      by_place : ((eqb (basic u' k) g ≡ true) × (basic u' k ≡ g)) ⊎ ((eqb (basic u' k) g ≡ false) × (basic u' k ≢ g)) → zero_ℚ ≤ℚ d (basic u' k) *ℚ rate k
      by_place (inl (_, same)) =
          let here : p ≡ k = once inst u' h' p k f'.position b (leaves ∙ sym same) in
          subst (λ k. zero_ℚ ≤ℚ d (basic u' k) *ℚ rate k) here (subst (λ j. zero_ℚ ≤ℚ d j *ℚ rate p) (sym leaves) term_of_g)
      by_place (inr (_, apart)) = term_of_other k b apart

  -- ── the column that enters at u' ──

  term_of_q : zero_ℚ ≤ℚ t *ℚ d q
  term_of_q = by_case (is_basic_or (status_of u q))
    where
      there : q < column_count inst
      there = f'.pivoting.enters.eligible.in_range

      less : q < g
      less =
          let apart : g ≢ q = λ e. not_there inst bounded u' h' f'.y f'.β f'.α q f'.pivoting p f'.position (leaves ∙ e) in
          omega (arith, below, apart)

      resting : status_of u' q ≢ status.Basic
      resting = moves_not_basic (status_of u' q) (reduced inst u' f'.y q) f'.pivoting.enters.eligible.improves

      loose : IsFalse (is_fixed (i q))
      loose = subst (λ e. IsFalse (is_fixed e)) (same_bounds q) f'.pivoting.enters.eligible.ends_differ

      by_case : (status_of u q ≡ status.Basic) ⊎ (status_of u q ≢ status.Basic) → zero_ℚ ≤ℚ t *ℚ d q
      by_case (inl now) =
          subst (λ z. zero_ℚ ≤ℚ z) (ring_ℚ 2 (λ d t. d ⊗ t ≐ t ⊗ d) tt (d q) t)
          (zero_times (d q) t (priced_basic inst bounded u h f.y f.pivoting.prices q there now))
      by_case (inr other) =
          entering_later (i q) loose (status_of u q) (status_of u' q) (d q) (reduced inst u' f'.y q) (value inst u' h'.β q)
          (not_eligible q there less loose) other f'.pivoting.enters.eligible.improves
          (h.stands q there) (subst (NamesEnd (status_of u' q)) (same_bounds q) (h'.stands q there)) (rests_at q there other)
          (value_at_rest inst u' h' q there resting ∙ ap (resting_value (status_of u' q)) (same_bounds q))

  -- ── the identity ──

  -- prices of the one state and of the other take the same from the entering column
  same_fall : t *ℚ along inst u' q f'.α d ≡ t *ℚ reduced inst u' f'.y q
  same_fall =
      ap (λ z. t *ℚ z) (along_priced inst u' q f'.α f'.pivoting.column (cost inst u.phase) (at f.y) ∙ ap (λ f. along inst u' q f'.α (cost inst f)) phases
      ∙ along_cost inst u' q f'.α f'.pivoting.column f'.y f'.pivoting.prices)

  pub not_both : ⊥
  not_both =
      linear 4 (λ x a b f. x ≐ a ⊕ b ⟹ 𝟘 ≼ a ⟹ 𝟘 ≼ b ⟹ x ≐ f ⟹ f ≺ 𝟘 ⟹ never) (omega (arith, ints))
      (t *ℚ along inst u' q f'.α d) (t *ℚ d q) (sum_ℚ (row_count inst) (λ k. d (basic u' k) *ℚ rate k)) (t *ℚ reduced inst u' f'.y q)
      (along_rates inst u' q f'.α t d) term_of_q (sum_not_below (row_count inst) (λ k. d (basic u' k) *ℚ rate k) term) same_fall
      (direction_falls (reduced inst u' f'.y q) (moves_priced (status_of u' q) (reduced inst u' f'.y q) f'.pivoting.enters.eligible.improves))

-- The start of the method holds what each state of a run holds.
use Rattle.std.proofs.Common.{◌≡◌, ◌≢◌, ℕ, ◌+◌, ◌<◌, ◌⊎◌, inl, inr, List, map, Option, Some, None, is_some, Bool, true, false, refl, sym, ◌∙◌, ap, ap₂, subst, cond, eqb, arith}
use Rattle.std.proofs.lemmas.Int.{ints}
use Rattle.std.proofs.lemmas.List.Folds.{list_any_at}
use Rattle.std.specs.Option.{option_map}
use Rattle.lp_model.specs.declared.Phase.{Phase}
use Rattle.lp_model.specs.declared.Phase.TheVariants.{One, Two}
use Rattle.lp_model.specs.declared.Side.{Side}
use Rattle.lp_model.specs.declared.Side.TheVariants as side
use Rattle.lp_model.specs.declared.Status.{Status}
use Rattle.lp_model.specs.declared.Status.TheVariants as status
use Rattle.rational.specs.Rational.{ℚ, zero_ℚ, one_ℚ, ◌+ℚ◌, ◌-ℚ◌, ◌*ℚ◌, ◌≤ℚ◌, ◌<ℚ◌}
use Rattle.rational.specs.Sparse.{at_index, entry_at, upto}
use Rattle.rational.specs.Sum.{at, sum_ℚ}
use Rattle.rational.proofs.Linear.{linear, ◌≼◌, ◌≺◌, ◌⟹◌}
use Rattle.rational.proofs.OrderLaws.{by_lt_ℚ, lt_ℚ-above, lt_ℚ-below}
use Rattle.rational.proofs.RationalRing.{ring_ℚ}
use Rattle.rational.proofs.Ring.{◌≐◌, ◌⊕◌, ◌⊖◌, ◌⊗◌, ⊝◌, 𝟘, 𝟙}
use Rattle.rational.proofs.SumLaws.{sum-cong, sum-none, sum-split, sum-unit}
use Rattle.rational.proofs.VectorLaws.{get-map-upto, length-map-upto}
use Rattle.lp_model.specs.Deck.{Interval, NotBelow, Within, between, nonnegative}
use Rattle.lp_run.specs.declared.ColumnKind.TheVariants as column
use Rattle.lp_run.specs.Instance.{Instance, IsWellFormed, bounds, coefficient, column_count, is_above, is_below, kind_bounds, kind_coefficient, logical, passed_by, passed_end, passed_side, residual, row_count, sign_past, start_value, structural, structural_count}
use Rattle.lp_run.specs.State.{State, artificial_start, basic, logical_start, rest, resting_value, start_of, status_of, structural_start}
use Rattle.lp_run.specs.Solution.{Values}
use Rattle.lp_run.proofs.Start.{coefficient-logical, each_column, kind_of_artificial, kind_of_logical, kind_of_structural, pivot_sign, square, start_basis_entry, start_has_table, start_position}
use Rattle.lp_run.proofs.StartStatuses.{start_artificial, start_length, start_logical, start_structural}
use Rattle.lp_run.specs.State.{NamesEnd}
use Rattle.bland_laws.proofs.Holding.{Holds}
use Rattle.bland_laws.proofs.Limits.{end_at}
use Rattle.bland_laws.proofs.Shifted.{values_from_rows}
use Rattle.bland_laws.proofs.Standing.{ends, standing_not_basic, standing_stands, standing_value}

-- the logical of row i takes the residual
pub record Stays (inst : Instance) (i : ℕ) : Type 0 where
  pub none : passed_side inst i ≡ None
  pub within : Within (logical inst i) (residual inst i)

-- the residual passes an end of the logical of row i, and its artificial takes the rest
pub record Passes (inst : Instance) (i : ℕ) : Type 0 where
  pub end_side : Side
  pub end : ℚ
  pub some : passed_side inst i ≡ Some end_side
  pub has : end_at end_side (logical inst i) ≡ Some end
  pub beyond : zero_ℚ ≤ℚ pivot_sign inst i *ℚ (residual inst i -ℚ end)

-- ── which end a number passes ──

abbrev Past : Side → ℚ → ℚ → Type 0
Past side.Lower x end = x <ℚ end
Past side.Upper x end = end <ℚ x

abbrev Passing : Interval → ℚ → Type 0
Passing i x = ((passed_end i x ≡ None) × Within i x) ⊎ ((r : Side) × (end : ℚ) × (passed_end i x ≡ Some (r, end)) × (end_at r i ≡ Some end) × Past r x end)

passing : (i : Interval) (x : ℚ) → Passing i x
passing i x = by_ends i.lower i.upper
  where
    by_upper : (lower upper : Option ℚ) → is_below lower x ≡ false → NotBelow lower x → Passing (ends lower upper) x
    by_upper lower None e low = inl (ap (λ b. passed_by b false (ends lower None)) e, (low, tt))
    by_upper lower (Some u) e low =
        by_lt_ℚ u x
        (λ past. inr (side.Upper, u, ap₂ (λ b c. passed_by b c (ends lower (Some u))) e (lt_ℚ-below u x past), refl, past))
        (λ not. inl (ap₂ (λ b c. passed_by b c (ends lower (Some u))) e (lt_ℚ-above u x not), (low, not)))

    by_ends : (lower upper : Option ℚ) → Passing (ends lower upper) x
    by_ends None upper = by_upper None upper refl tt
    by_ends (Some l) upper =
        by_lt_ℚ x l
        (λ past. inr (side.Lower, l, ap (λ b. passed_by b (is_above upper x) (ends (Some l) upper)) (lt_ℚ-below x l past), refl, past))
        (λ not. by_upper (Some l) upper (lt_ℚ-above x l not) not)

-- each row's residual is within the bounds of its logical, or passes an end of them
module _ (inst : Instance) (h : IsWellFormed inst) (i : ℕ) (b : i < row_count inst) where
  past_end : (r : Side) (end : ℚ) → Past r (residual inst i) end → passed_side inst i ≡ Some r → zero_ℚ ≤ℚ pivot_sign inst i *ℚ (residual inst i -ℚ end)
  past_end side.Lower end past some =
      subst (λ z. zero_ℚ ≤ℚ z)
      (sym (ap (λ o. cond (is_some o) (sign_past o) one_ℚ *ℚ (residual inst i -ℚ end)) some
      ∙ ring_ℚ 2 (λ x e. (⊝ 𝟙) ⊗ (x ⊖ e) ≐ e ⊖ x) tt (residual inst i) end))
      (linear 2 (λ x e. x ≺ e ⟹ 𝟘 ≼ e ⊖ x) (omega (arith, ints)) (residual inst i) end past)
  past_end side.Upper end past some =
      subst (λ z. zero_ℚ ≤ℚ z)
      (sym (ap (λ o. cond (is_some o) (sign_past o) one_ℚ *ℚ (residual inst i -ℚ end)) some ∙ ring_ℚ 2 (λ x e. 𝟙 ⊗ (x ⊖ e) ≐ x ⊖ e) tt (residual inst i) end))
      (linear 2 (λ x e. e ≺ x ⟹ 𝟘 ≼ x ⊖ e) (omega (arith, ints)) (residual inst i) end past)

  row_case : Stays inst i ⊎ Passes inst i
  row_case = by_passing (passing (logical inst i) (residual inst i))
    where
      by_passing : Passing (logical inst i) (residual inst i) → Stays inst i ⊎ Passes inst i
      by_passing (inl (none, within)) = inl (record { none = h.passes i b ∙ ap (λ o. option_map (λ passed. passed.0) o) none; within = within })
      by_passing (inr (r, end, some, has, past)) =
          let there : passed_side inst i ≡ Some r = h.passes i b ∙ ap (λ o. option_map (λ passed. passed.0) o) some in
          inr (record { end_side = r; end = end; some = there; has = has; beyond = past_end r end past there })

-- ── where a structural starts ──

start_stands : (i : Interval) → NamesEnd (structural_start i) i
start_stands i = by_ends i.lower i.upper
  where
    by_ends : (lower upper : Option ℚ) → NamesEnd (structural_start (ends lower upper)) (ends lower upper)
    by_ends None None = (refl, refl)
    by_ends None (Some u) = refl
    by_ends (Some l) upper = refl

start_not_basic : (i : Interval) → structural_start i ≢ status.Basic
start_not_basic i = by_ends i.lower i.upper
  where
    by_ends : (lower upper : Option ℚ) → structural_start (ends lower upper) ≢ status.Basic
    by_ends None None e = cc e
    by_ends None (Some u) e = cc e
    by_ends (Some l) upper e = cc e

pub starts_at : (i : Interval) → resting_value (structural_start i) i ≡ start_value i
starts_at i = by_ends i.lower i.upper
  where
    by_ends : (lower upper : Option ℚ) → resting_value (structural_start (ends lower upper)) (ends lower upper) ≡ start_value (ends lower upper)
    by_ends None None = refl
    by_ends None (Some u) = refl
    by_ends (Some l) upper = refl

module _ (inst : Instance) (h : IsWellFormed inst) where
  abbrev start : State
  start = start_of inst

  abbrev n : ℕ
  n = structural_count inst

  abbrev m : ℕ
  m = row_count inst

  by_row : {P : Type 0} (i : ℕ) → i < m → (Stays inst i → P) → (Passes inst i → P) → P
  by_row {P} i b stays passes = by_case (row_case inst h i b)
    where
      by_case : Stays inst i ⊎ Passes inst i → P
      by_case (inl s) = stays s
      by_case (inr p) = passes p

  structural_starts : (j : ℕ) → j < n → status_of start j ≡ structural_start (structural inst j).bounds
  structural_starts j b = start_structural inst h.sides j b

  logical_when : (i : ℕ) → i < m → (o : Option Side) → passed_side inst i ≡ o → status_of start (n + i) ≡ logical_start o
  logical_when i b o e = start_logical inst h.sides i b ∙ ap logical_start e

  artificial_when : (i : ℕ) → i < m → (o : Option Side) → passed_side inst i ≡ o → status_of start (n + m + i) ≡ artificial_start o
  artificial_when i b o e = start_artificial inst h.sides i b ∙ ap artificial_start e

  placed : (p : ℕ) → p < m → (o : Option Side) → passed_side inst p ≡ o → basic start p ≡ cond (is_some o) (n + m + p) (n + p)
  placed p b o e = start_position inst p b ∙ ap (λ o. cond (is_some o) (n + m + p) (n + p)) e

  -- ── bounds of the three kinds ──

  structural_bounds : (j : ℕ) → j < n → (phase : Phase) → bounds inst phase j ≡ (structural inst j).bounds
  structural_bounds j b phase = ap (kind_bounds inst phase) (kind_of_structural inst j b) ∙ by_phase phase
    where
      by_phase : (phase : Phase) → kind_bounds inst phase (column.Structural j) ≡ (structural inst j).bounds
      by_phase One = refl
      by_phase Two = refl

  logical_bounds_are : (i : ℕ) → i < m → (phase : Phase) → bounds inst phase (n + i) ≡ logical inst i
  logical_bounds_are i b phase = ap (kind_bounds inst phase) (kind_of_logical inst i b) ∙ by_phase phase
    where
      by_phase : (phase : Phase) → kind_bounds inst phase (column.Logical i) ≡ logical inst i
      by_phase One = refl
      by_phase Two = refl

  spare_bounds : (i : ℕ) → passed_side inst i ≡ None → (phase : Phase) → bounds inst phase (n + m + i) ≡ between zero_ℚ zero_ℚ
  spare_bounds i e phase = ap (kind_bounds inst phase) (kind_of_artificial inst i) ∙ by_phase phase
    where
      by_phase : (phase : Phase) → kind_bounds inst phase (column.Artificial i) ≡ between zero_ℚ zero_ℚ
      by_phase One = ap (λ o. cond (is_some o) nonnegative (between zero_ℚ zero_ℚ)) e
      by_phase Two = refl

  phase_one : (i : ℕ) → i < m → (r : Side) → passed_side inst i ≡ Some r → start.phase ≡ One
  phase_one i b r e = ap (λ t. cond t One Two) (list_any_at is_some inst.passed i None (subst (λ k. i < k) (sym h.sides) b) (ap is_some e))

  needed_bounds : (i : ℕ) → i < m → (r : Side) → passed_side inst i ≡ Some r → bounds inst start.phase (n + m + i) ≡ nonnegative
  needed_bounds i b r e =
      ap (λ f. bounds inst f (n + m + i)) (phase_one i b r e) ∙ ap (kind_bounds inst One) (kind_of_artificial inst i)
      ∙ ap (λ o. cond (is_some o) nonnegative (between zero_ℚ zero_ℚ)) e

  -- ── what rests ──

  structural_rests : (j : ℕ) → j < n → rest inst start j ≡ start_value (structural inst j).bounds
  structural_rests j b = ap₂ resting_value (structural_starts j b) (structural_bounds j b start.phase) ∙ starts_at (structural inst j).bounds

  artificial_rests : (i : ℕ) → i < m → rest inst start (n + m + i) ≡ zero_ℚ
  artificial_rests i b =
      by_row i b (λ stays. ap₂ resting_value (artificial_when i b None stays.none) (spare_bounds i stays.none start.phase))
      (λ passes. ap (λ st. resting_value st (bounds inst start.phase (n + m + i))) (artificial_when i b (Some passes.end_side) passes.some))

  passed_rests : (i : ℕ) → i < m → (p : Passes inst i) → rest inst start (n + i) ≡ p.end
  passed_rests i b p =
      ap₂ resting_value (logical_when i b (Some p.end_side) p.some) (logical_bounds_are i b start.phase)
      ∙ standing_value p.end_side (logical inst i) p.end p.has

  stayed_rests : (i : ℕ) → i < m → Stays inst i → rest inst start (n + i) ≡ zero_ℚ
  stayed_rests i b stays = ap (λ st. resting_value st (bounds inst start.phase (n + i))) (logical_when i b None stays.none)

  -- ── the values ──

  pub start_at : ℕ → ℚ
  start_at i = pivot_sign inst i *ℚ (residual inst i -ℚ rest inst start (n + i))

  abbrev pub start_values : List ℚ
  start_values = map start_at (upto m)

  basic_entry : (i p : ℕ) → p < m → coefficient inst i (basic start p) ≡ at_index i p (pivot_sign inst p)
  basic_entry i p b = start_basis_entry inst i p b

  scaled_unit : (i k : ℕ) (v : ℚ) → at_index i k v ≡ at_index i k one_ℚ *ℚ v
  scaled_unit i k v = by_test (eqb i k)
    where
      by_test : (b : Bool) → cond b v zero_ℚ ≡ cond b one_ℚ zero_ℚ *ℚ v
      by_test true = ring_ℚ 1 (λ v. v ≐ 𝟙 ⊗ v) tt v
      by_test false = ring_ℚ 1 (λ v. 𝟘 ≐ 𝟘 ⊗ v) tt v

  basics_make : (i : ℕ) → i < m → sum_ℚ m (λ p. coefficient inst i (basic start p) *ℚ at start_values p) ≡ residual inst i -ℚ rest inst start (n + i)
  unfolding start_at
  basics_make i b =
      sum-cong m _ _ (λ p c. ap₂ ◌*ℚ◌ (basic_entry i p c ∙ scaled_unit i p (pivot_sign inst p)) (get-map-upto start_at zero_ℚ m p c)
      ∙ ring_ℚ 3 (λ u g x. u ⊗ g ⊗ (g ⊗ x) ≐ u ⊗ (g ⊗ g ⊗ x)) tt (at_index i p one_ℚ) (pivot_sign inst p) (residual inst p -ℚ rest inst start (n + p)))
      ∙ sum-unit m i (λ p. pivot_sign inst p *ℚ pivot_sign inst p *ℚ (residual inst p -ℚ rest inst start (n + p))) b
      ∙ ap (λ g. g *ℚ (residual inst i -ℚ rest inst start (n + i))) (square inst i) ∙ ring_ℚ 1 (λ v. 𝟙 ⊗ v ≐ v) tt (residual inst i -ℚ rest inst start (n + i))

  abbrev taken : ℕ → ℚ
  taken i = sum_ℚ n (λ j. entry_at (structural inst j).entries i *ℚ start_value (structural inst j).bounds)

  rests_make : (i : ℕ) → i < m → sum_ℚ (column_count inst) (λ j. coefficient inst i j *ℚ rest inst start j) ≡ taken i +ℚ rest inst start (n + i)
  rests_make i b =
      sum-split (n + m) m (λ j. coefficient inst i j *ℚ rest inst start j)
      ∙ ap₂ ◌+ℚ◌ (sum-split n m (λ j. coefficient inst i j *ℚ rest inst start j)
      ∙ ap₂ ◌+ℚ◌ (sum-cong n _ _ (λ j c. ap₂ ◌*ℚ◌ (ap (kind_coefficient inst i) (kind_of_structural inst j c)) (structural_rests j c)))
      (sum-cong m _ _ (λ k c. ap (λ z. z *ℚ rest inst start (n + k)) (coefficient-logical inst i k c)) ∙ sum-unit m i (λ k. rest inst start (n + k)) b))
      (sum-none m _ (λ k c. ap (λ z. coefficient inst i (n + m + k) *ℚ z) (artificial_rests k c)
      ∙ ring_ℚ 1 (λ v. v ⊗ 𝟘 ≐ 𝟘) tt (coefficient inst i (n + m + k))))
      ∙ ring_ℚ 2 (λ a b. a ⊕ b ⊕ 𝟘 ≐ a ⊕ b) tt (taken i) (rest inst start (n + i))

  values : Values inst start start_values
  values = values_from_rows inst start start_values (length-map-upto start_at m)
      (λ i b. ap₂ ◌+ℚ◌ (basics_make i b) (rests_make i b) ∙ ring_ℚ 3 (λ r a x. r ⊖ a ⊖ x ⊕ (a ⊕ x) ≐ r) tt (at inst.right i) (taken i)
      (rest inst start (n + i)))

  -- ── statuses and bounds ──

  marked : (p : ℕ) → p < m → status_of start (basic start p) ≡ status.Basic
  marked p b =
      by_row p b (λ stays. ap (status_of start) (placed p b None stays.none) ∙ logical_when p b None stays.none)
      (λ passes. ap (status_of start) (placed p b (Some passes.end_side) passes.some) ∙ artificial_when p b (Some passes.end_side) passes.some)

  lower_not_basic : status.Lower ≢ status.Basic
  lower_not_basic e = cc e

  found : (j : ℕ) → j < column_count inst → status_of start j ≡ status.Basic → (p : ℕ) × (p < m) × (basic start p ≡ j)
  found j = each_column inst (λ j. status_of start j ≡ status.Basic → (p : ℕ) × (p < m) × (basic start p ≡ j))
      (λ j b now. absurd (start_not_basic (structural inst j).bounds (sym (structural_starts j b) ∙ now)))
      (λ i b now. by_row i b (λ stays. (i, b, placed i b None stays.none)) (λ passes. absurd (standing_not_basic passes.end_side
      (sym (logical_when i b (Some passes.end_side) passes.some) ∙ now))))
      (λ i b now. by_row i b (λ stays. absurd (lower_not_basic (sym (artificial_when i b None stays.none) ∙ now)))
      (λ passes. (i, b, placed i b (Some passes.end_side) passes.some)))
      j

  stands : (j : ℕ) → j < column_count inst → NamesEnd (status_of start j) (bounds inst start.phase j)
  stands j = each_column inst (λ j. NamesEnd (status_of start j) (bounds inst start.phase j))
      (λ j b. carried (sym (structural_starts j b)) (sym (structural_bounds j b start.phase)) (start_stands (structural inst j).bounds))
      (λ i b. by_row i b
      (λ stays. subst (λ st. NamesEnd st (bounds inst start.phase (n + i))) (sym (logical_when i b None stays.none)) tt)
      (λ passes. carried (sym (logical_when i b (Some passes.end_side) passes.some)) (sym (logical_bounds_are i b start.phase))
      (standing_stands passes.end_side (logical inst i) passes.end passes.has)))
      (λ i b. by_row i b
      (λ stays. carried (sym (artificial_when i b None stays.none)) (sym (spare_bounds i stays.none start.phase)) refl)
      (λ passes. subst (λ st. NamesEnd st (bounds inst start.phase (n + m + i))) (sym (artificial_when i b (Some passes.end_side) passes.some)) tt))
      j
    where
      carried : {st st' : Status} {i i' : Interval} → st ≡ st' → i ≡ i' → NamesEnd st i → NamesEnd st' i'
      carried {st} {st'} {i} {i'} e f s = subst (λ t. NamesEnd t i') e (subst (NamesEnd st) f s)

  within : (p : ℕ) → p < m → Within (bounds inst start.phase (basic start p)) (at start_values p)
  unfolding start_at
  within p b = by_row p b
      (λ stays. both (sym (ap (bounds inst start.phase) (placed p b None stays.none) ∙ logical_bounds_are p b start.phase))
      (sym (get-map-upto start_at zero_ℚ m p b ∙ ap₂ (λ o x. cond (is_some o) (sign_past o) one_ℚ *ℚ (residual inst p -ℚ x)) stays.none (stayed_rests p b stays)
      ∙ ring_ℚ 1 (λ v. 𝟙 ⊗ (v ⊖ 𝟘) ≐ v) tt (residual inst p))) stays.within)
      (λ passes. both (sym (ap (bounds inst start.phase) (placed p b (Some passes.end_side) passes.some) ∙ needed_bounds p b passes.end_side passes.some))
      (sym (get-map-upto start_at zero_ℚ m p b ∙ ap (λ x. pivot_sign inst p *ℚ (residual inst p -ℚ x)) (passed_rests p b passes))) (passes.beyond, tt))
    where
      both : {i i' : Interval} {v v' : ℚ} → i ≡ i' → v ≡ v' → Within i v → Within i' v'
      both {i} {i'} {v} {v'} e f w = subst (λ t. Within t v') e (subst (Within i) f w)

  pub start_holds : Holds inst start
  start_holds = record {
    table = start_has_table inst;
    each = start_length inst h.sides;
    β = start_values;
    values = values;
    marked = marked;
    found = found;
    stands = stands;
    within = within;
  }

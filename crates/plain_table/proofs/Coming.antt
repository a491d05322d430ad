-- What comes next at a table that stands at a state.
use Rattle.std.proofs.Common.{◌≡◌, ℕ, ◌<◌, ◌↔◌, IsTrue, IfErr, IsErrAnd, Result, inl, inr, Bool, true, false, cond, not, List, [], ◌∷◌, ◌++◌, Option, Some, None, refl, sym, ◌∙◌, ap, subst}
use Rattle.lp_model.specs.declared.Entry.{Entry}
use Rattle.lp_model.specs.declared.Entry.TheVariants.{Flip, Swap}
use Rattle.lp_model.specs.declared.Kind.TheVariants as kind
use Rattle.lp_model.specs.declared.Place.{Place}
use Rattle.lp_model.specs.declared.Side.{Side}
use Rattle.std.proofs.lemmas.Result.{err_from_is_err_and}
use Rattle.std.specs.Option.{option_map}
use Rattle.rational.specs.Rational.{ℚ, zero_ℚ, one_ℚ, neg_ℚ, lt_ℚ, eq_ℚ, ◌-ℚ◌, ◌/ℚ◌, abs_ℚ}
use Rattle.rational.specs.Sum.{at}
use Rattle.rational.proofs.OrderLaws.{eq_ℚ-decides}
use Rattle.bland_ratio.specs.Leave.{direction_where}
use Rattle.lp_run.specs.Instance.{Instance, bounds, column_count, row_count}
use Rattle.lp_run.specs.Listing.{AllFit, Listed, first_unfit, move_listing, place, ratio_listing, Judges}
use Rattle.lp_run.specs.Solution.{ColumnOf, Prices, Values, reduced}
use Rattle.lp_run.specs.State.{State, basic}
use Rattle.lp_run.specs.Step.{Eligible, Enters, IsArtificial, IsFree, IsLimit, Leaves, Limit, NoneEligible, Pivoting, direction, distance_at, limit_at, own_limit}
use Rattle.lp_run.proofs.FirstUnfit.{all-append, all-flat_map, unfit-append}
use Rattle.bland_laws.proofs.Searches.{Below, FirstOrNone, first_below, one_more}
use Rattle.bland_ratio.specs.declared.ratio_test.Leave.{Leave}
use Rattle.bland_ratio.specs.declared.ratio_test.Leave.TheVariants as leave
use Rattle.lp_run.proofs.Regularity.{column_solves, one_column, one_prices, one_values}
use Rattle.lp_run.proofs.Runs.{reached_regular}
use Rattle.lp_run.proofs.Unique.{one_entering}
use Rattle.plain_table.specs.Inner.Next.{DecidesAt, StandsOff, next_by, tested_at}
use Rattle.plain_table.specs.Next.{ComesNext, OverflowsNext, RatioLists, column, prices}
use Rattle.plain_table.specs.Plain.{Plain, Stands, cell}

-- the direction of a step, by whether the reduced cost is below 0
pub way_where : (d : ℚ) (below : Bool) → below ≡ lt_ℚ d zero_ℚ → direction d ≡ direction_where (not below)
way_where d below e = by_test (lt_ℚ d zero_ℚ) ∙ ap (λ t. direction_where (not t)) (sym e)
  where
    by_test : (t : Bool) → cond t one_ℚ (neg_ℚ one_ℚ) ≡ direction_where (not t)
    by_test true = refl
    by_test false = refl

-- a refusal that is handed on has the same cause
pub handed_on : {A E : Type 0} {e : E} (r : Result A E) (P : E → Type 0) → IsErrAnd r (λ f. f ≡ e) → P e → IfErr r P
handed_on r P is h = let found = err_from_is_err_and r is in subst (λ r. IfErr r P) (sym found.1) (subst P (sym found.2) h)

-- a refusal that is handed on is judged by what its place is judged by
pub judged_on : {A : Type 0} {e : Place} (r : Result A Place) (w : ℕ) (vs ws : List Listed) → vs ≡ ws → IsErrAnd r (λ f. f ≡ e) → first_unfit w ws ≡ Some e → Judges w vs r
judged_on r w vs ws same is h = let found = err_from_is_err_and r is in subst (Judges w vs) (sym found.1) (ap (first_unfit w) same ∙ h ∙ ap Some (sym found.2))

-- an artificial that does not stand off 0 is 0
pub not_off : (inst : Instance) (s : State) (β : List ℚ) (p : ℕ) (off : Bool) → IsTrue off ↔ StandsOff inst s β p → off ≡ false → IsArtificial inst (basic s p) → at β p ≡ zero_ℚ
not_off inst s β p off tells fails is = by_test (eq_ℚ (at β p) zero_ℚ) refl
  where
    apart : off ≡ true → ⊥
    apart e = cc

    other : eq_ℚ (at β p) zero_ℚ ≡ false → at β p ≡ zero_ℚ → ⊥
    other e h = let same = (eq_ℚ-decides (at β p) zero_ℚ).1 h in cc

    by_test : (b : Bool) → eq_ℚ (at β p) zero_ℚ ≡ b → at β p ≡ zero_ℚ
    by_test true e = (eq_ℚ-decides (at β p) zero_ℚ).0 e
    by_test false e = absurd (apart (tells.1 (is, other e)))

-- ── a step without a limit has no ratio ──

position_fits : (w : ℕ) (here : Place) (a : ℚ) (f : ℚ × Side → Limit) (o : Option (ℚ × Side)) → ((limit : Limit) → option_map f o ≡ Some limit → ⊥)
    → AllFit w (elim o [ None ↦ [] | Some d ↦ (here, d.0) ∷ (here, d.0 /ℚ abs_ℚ a) ∷ [] ])
position_fits w here a f None none = refl
position_fits w here a f (Some d) none = absurd (none (f d) refl)

own_fits : (w : ℕ) (here : Place) (q : ℕ) (lower upper : Option ℚ) → ((limit : Limit) → own_limit (record { lower = lower; upper = upper }) q ≡ Some limit → ⊥)
    → AllFit w (elim lower [ None ↦ [] | Some l ↦ elim upper [ None ↦ [] | Some u ↦ (here, u -ℚ l) ∷ [] ] ])
own_fits w here q None upper none = refl
own_fits w here q (Some l) None none = refl
own_fits w here q (Some l) (Some u) none = absurd (none (record { ratio = u -ℚ l; column = q; entry = Flip q }) refl)

free_fits : (w : ℕ) (inst : Instance) (k : ℕ) (s : State) (q : ℕ) (t : ℚ) (β α : List ℚ) → IsFree inst s q t β α → AllFit w (ratio_listing inst k s q t β α)
free_fits w inst k s q t β α free =
    all-append w _ _
    (all-flat_map w _ (row_count inst) (λ p b. position_fits w (place k kind.Ratio (Some p) None) (at α p)
    (λ d. record { ratio = d.0 /ℚ abs_ℚ (at α p); column = basic s p; entry = Swap q p d.1 }) (distance_at inst s t β α p) (λ limit e. free limit (inl (p, b, e)))))
    (own_fits w (place k kind.Ratio None (Some q)) q (bounds inst s.phase q).lower (bounds inst s.phase q).upper (λ limit e. free limit (inr e)))

-- a step that has a ratio has a limit that decides it
pub limited : (w : ℕ) (inst : Instance) (k : ℕ) (s : State) (q : ℕ) (t : ℚ) (β α : List ℚ) (here : Place) → first_unfit w (ratio_listing inst k s q t β α) ≡ Some here
    → (limit : Limit) × Leaves inst s q t β α limit
limited w inst k s q t β α here unfit =
    by_first (one_more (Below (limit_at inst s q t β α) (row_count inst)) (first_below (row_count inst) (limit_at inst s q t β α)) (own_limit (bounds inst s.phase q) q))
  where
    apart : None ≡ Some here → ⊥
    apart e = cc e

    by_first : FirstOrNone (IsLimit inst s q t β α) → (limit : Limit) × Leaves inst s q t β α limit
    by_first (inl (limit, first)) = (limit, record { is_limit = first.is; first = first.first })
    by_first (inr none) = absurd (apart (sym (free_fits w inst k s q t β α none) ∙ unfit))

-- ── what the ratio test lists ──

module _ (inst : Instance) (log : List Entry) (t : Plain) (stands : Stands inst log t) where
  same_prices : (y : List ℚ) → Prices inst t.state y → y ≡ prices inst t
  same_prices y h = one_prices inst t.state (reached_regular inst log t.state stands.table.reached) y (prices inst t) h stands.table.prices

  same_values : (β : List ℚ) → Values inst t.state β → β ≡ t.values
  same_values β h = one_values inst t.state (reached_regular inst log t.state stands.table.reached) β t.values h stands.table.values

  same_column : (q : ℕ) → q < column_count inst → (α : List ℚ) → ColumnOf inst t.state q α → α ≡ column inst t q
  same_column q within α h =
      one_column inst t.state (reached_regular inst log t.state stands.table.reached) q α (column inst t q) h (column_solves inst t.state (cell t) stands.table.columns q within)

  -- where no column is eligible, nothing
  pub nothing_tested : (w : ℕ) → NoneEligible inst t.state (prices inst t) → (vs : List Listed) → RatioLists inst t.number t.state vs → AllFit w vs
  nothing_tested w none vs (inl (y, β, α, q, pivots, is)) = absurd (none q (subst (λ y. Eligible inst t.state y q) (same_prices y pivots.prices) pivots.enters.eligible))
  nothing_tested w none vs (inr (y, β, rests, is)) = subst (AllFit w) (sym is) refl

module _ (inst : Instance) (log : List Entry) (t : Plain) (stands : Stands inst log t) (q : ℕ) (enters : Enters inst t.state (prices inst t) q) where
  pivoting : Pivoting inst t.state (prices inst t) t.values (column inst t q) q
  pivoting = record {
    prices = stands.table.prices;
    values = stands.table.values;
    enters = enters;
    column = column_solves inst t.state (cell t) stands.table.columns q enters.eligible.in_range;
  }

  way : ℚ
  way = direction (reduced inst t.state (prices inst t) q)

  same_way : direction (at t.costs q) ≡ way
  unfolding way
  same_way = ap direction (stands.table.costs q enters.eligible.in_range)

  -- the ratio test is that of the column that enters
  pub one_test : (vs : List Listed) → RatioLists inst t.number t.state vs → vs ≡ tested_at inst t q
  unfolding way
  one_test vs (inl (y, β, α, q', pivots, is)) =
      let prices_are : y ≡ prices inst t = same_prices inst log t stands y pivots.prices in
      let same : q' ≡ q = one_entering inst t.state (prices inst t) q' q (subst (λ y. Enters inst t.state y q') prices_are pivots.enters) enters in
      let column_is : α ≡ column inst t q = same_column inst log t stands q enters.eligible.in_range α (subst (λ q. ColumnOf inst t.state q α) same pivots.column) in
      is
      ∙ ap (λ y. ratio_listing inst t.number t.state q' (direction (reduced inst t.state y q')) β α) prices_are
      ∙ ap (λ q. ratio_listing inst t.number t.state q (direction (reduced inst t.state (prices inst t) q)) β α) same
      ∙ ap (λ β. ratio_listing inst t.number t.state q (direction (reduced inst t.state (prices inst t) q)) β α) (same_values inst log t stands β pivots.values)
      ∙ ap (λ α. ratio_listing inst t.number t.state q (direction (reduced inst t.state (prices inst t) q)) t.values α) column_is
      ∙ ap (λ way. ratio_listing inst t.number t.state q way t.values (column inst t q)) (sym same_way)
  one_test vs (inr (y, β, rests, is)) = absurd (rests.none_eligible q (subst (λ y. Eligible inst t.state y q) (sym (same_prices inst log t stands y rests.prices)) enters.eligible))

  pub comes_next : (l : Leave) → DecidesAt inst t q l → ComesNext inst t (next_by q l)
  unfolding way
  comes_next (leave.Flip r) decides = (
    prices inst t,
    t.values,
    column inst t q,
    q,
    record { ratio = r; column = q; entry = Flip q },
    pivoting,
    subst (λ c. Leaves inst t.state q c t.values (column inst t q) (record { ratio = r; column = q; entry = Flip q })) same_way decides,
    refl,
  )
  comes_next (leave.Out p end r) decides = (
    prices inst t,
    t.values,
    column inst t q,
    q,
    record { ratio = r; column = basic t.state p; entry = Swap q p end },
    pivoting,
    subst (λ c. Leaves inst t.state q c t.values (column inst t q) (record { ratio = r; column = basic t.state p; entry = Swap q p end })) same_way decides,
    refl,
  )
  comes_next leave.Free decides = (pivoting, subst (λ c. IsFree inst t.state q c t.values (column inst t q)) same_way decides)

  pub overflows_next : (w : ℕ) (here : Place) → first_unfit w (tested_at inst t q) ≡ Some here → OverflowsNext w inst t here
  unfolding way
  overflows_next w here unfit =
      let ratios_unfit : first_unfit w (ratio_listing inst t.number t.state q way t.values (column inst t q)) ≡ Some here =
      subst (λ c. first_unfit w (ratio_listing inst t.number t.state q c t.values (column inst t q)) ≡ Some here) same_way unfit in
      let (limit, leaves) = limited w inst t.number t.state q way t.values (column inst t q) here ratios_unfit in
      let moves = move_listing inst t.number t.state (cell t) t.values (column inst t q) (reduced inst t.state (prices inst t)) q way limit.ratio limit.entry in (
        ratio_listing inst t.number t.state q way t.values (column inst t q) ++ moves,
        inl (
          cell t,
          record { prices = prices inst t; values = t.values; column = column inst t q; entering = q; limit = limit; pivoting = pivoting; leaves = leaves },
          stands.table.columns,
          refl,
        ),
        unfit-append w (ratio_listing inst t.number t.state q way t.values (column inst t q)) moves here ratios_unfit,
      )

-- Every state of a run has a next entry or is final; so every deck has a whole run, and an outcome.
use Rattle.std.proofs.Common.{◌≡◌, ◌≢◌, ℕ, zero, suc, ◌*◌, ◌<◌, ◌⊎◌, inl, inr, List, [], ◌∷◌, length, Bool, true, false, refl, sym, ◌∙◌, ap, arith}
use Rattle.std.proofs.lemmas.Int.{ints}
use Rattle.lp_model.specs.declared.Entry.{Entry}
use Rattle.lp_model.specs.declared.Entry.TheVariants.{Flip, Swap, Turn}
use Rattle.lp_model.specs.declared.Phase.{Phase}
use Rattle.lp_model.specs.declared.Phase.TheVariants.{One, Two}
use Rattle.lp_model.specs.declared.Status.{Status}
use Rattle.lp_model.specs.declared.Status.TheVariants as status
use Rattle.rational.specs.Rational.{ℚ, zero_ℚ}
use Rattle.rational.proofs.Ring.{𝟘}
use Rattle.rational.proofs.Linear.{linear, ◌≺◌, ◌≐◌, ◌⟹◌, never}
use Rattle.rational.specs.Sum.{at}
use Rattle.lp_run.specs.Instance.{IsWellFormed, Instance, bounds, column_count, row_count}
use Rattle.lp_run.specs.Ends.{Yields, HasOutcome, objective_at, point, prices_in, ray}
use Rattle.lp_model.specs.Outcome.{Outcome, infeasible, optimal, unbounded}
use Rattle.lp_run.specs.Run.{IsWholeRun, Leads}
use Rattle.lp_run.specs.Solution.{Prices, reduced}
use Rattle.lp_run.specs.State.{State, after, basic, start_of, status_of}
use Rattle.lp_run.specs.Step.{ArtificialsZero, Eligible, IsArtificial, IsFinal, IsLimit, IsNext, Leaves, Limit, Improves, NoneEligible, Pivoting, direction, is_fixed, limit_at, own_limit}
use Rattle.bland_laws.specs.Kept.{IsBounded}
use Rattle.bland_laws.proofs.Counts.{choices, short}
use Rattle.bland_laws.proofs.Holding.{Holds, some_column, some_prices}
use Rattle.bland_laws.proofs.Limits.{by_sign, direction_unit, limit_meets, own_spans}
use Rattle.bland_laws.proofs.Bounded.{is_bounded}
use Rattle.bland_laws.proofs.Starting.{start_holds}
use Rattle.bland_laws.proofs.Phases.{next_holds}
use Rattle.bland_laws.proofs.Resting.{artificials_zero_or_not}
use Rattle.bland_laws.proofs.Searches.{Below, FirstOrNone, IsLeast, first_below, least_or_none, one_more}

-- ── what may be asked of one column ──

moves_or_not : (st : Status) (d : ℚ) → Improves st d ⊎ (Improves st d → ⊥)
moves_or_not status.Basic d = inr (λ h. h)
moves_or_not status.Lower d =
    by_sign d inl (λ same. inr (λ h. linear 1 (λ d. d ≺ 𝟘 ⟹ d ≐ 𝟘 ⟹ never) (omega (arith, ints)) d h same))
    (λ above. inr (λ h. linear 1 (λ d. d ≺ 𝟘 ⟹ 𝟘 ≺ d ⟹ never) (omega (arith, ints)) d h above))
moves_or_not status.Upper d =
    by_sign d (λ below. inr (λ h. linear 1 (λ d. 𝟘 ≺ d ⟹ d ≺ 𝟘 ⟹ never) (omega (arith, ints)) d h below))
    (λ same. inr (λ h. linear 1 (λ d. 𝟘 ≺ d ⟹ d ≐ 𝟘 ⟹ never) (omega (arith, ints)) d h same)) inl
moves_or_not status.Zero d =
    by_sign d (λ below. inl (λ e. linear 1 (λ d. d ≺ 𝟘 ⟹ d ≐ 𝟘 ⟹ never) (omega (arith, ints)) d below e)) (λ same. inr (λ h. h same))
    (λ above. inl (λ e. linear 1 (λ d. 𝟘 ≺ d ⟹ d ≐ 𝟘 ⟹ never) (omega (arith, ints)) d above e))

module _ (inst : Instance) (s : State) (h : Holds inst s) where
  eligible_or_not : (y : List ℚ) (j : ℕ) → j < column_count inst → Eligible inst s y j ⊎ (Eligible inst s y j → ⊥)
  eligible_or_not y j b = by_fixed (is_fixed (bounds inst s.phase j)) refl
    where
      by_moves : is_fixed (bounds inst s.phase j) ≡ false → Improves (status_of s j) (reduced inst s y j) ⊎ (Improves (status_of s j) (reduced inst s y j) → ⊥)
          → Eligible inst s y j ⊎ (Eligible inst s y j → ⊥)
      by_moves e (inl moves) = inl (record { in_range = b; ends_differ = e; improves = moves })
      by_moves e (inr not) = inr (λ eligible. not eligible.improves)

      apart : true ≡ false → ⊥
      apart e = cc e

      by_fixed : (t : Bool) → is_fixed (bounds inst s.phase j) ≡ t → Eligible inst s y j ⊎ (Eligible inst s y j → ⊥)
      by_fixed true e = inr (λ eligible. apart (sym e ∙ eligible.ends_differ))
      by_fixed false e = by_moves e (moves_or_not (status_of s j) (reduced inst s y j))

  -- ── where a column enters ──

  module _ (y : List ℚ) (prices : Prices inst s y) (q : ℕ) (least : IsLeast (Eligible inst s y) q) where
    abbrev α : List ℚ
    α = (some_column inst s h q least.holds.in_range).0

    pivoting : Pivoting inst s y h.β α q
    pivoting = record {
      prices = prices;
      values = h.values;
      enters = record { eligible = least.holds; least = least.first };
      column = (some_column inst s h q least.holds.in_range).1;
    }

    abbrev ahead : ℚ
    ahead = direction (reduced inst s y q)

    -- the entry of a limit is a flip or a swap
    step_next : (limit : Limit) → Leaves inst s q ahead h.β α limit → (e : Entry) × IsNext inst s e
    step_next limit leaves = by_limit leaves.is_limit
      where
        by_limit : IsLimit inst s q ahead h.β α limit → (e : Entry) × IsNext inst s e
        by_limit (inl (p, b, e)) =
            let (r, m) = limit_meets q p (basic s p) ahead (at h.β p) (at α p) (bounds inst s.phase (basic s p))
            (direction_unit (reduced inst s y q)) limit e in
            (Swap q p r, (y, h.β, α, q, limit, pivoting, leaves, m.entry))
        by_limit (inr e) = (Flip q, (y, h.β, α, q, limit, pivoting, leaves, (own_spans (bounds inst s.phase q) q limit e).entry))

    enters_goes_on : ((e : Entry) × IsNext inst s e) ⊎ IsFinal inst s
    enters_goes_on =
        by_first (one_more (Below (limit_at inst s q ahead h.β α) (row_count inst)) (first_below (row_count inst) (limit_at inst s q ahead h.β α))
        (own_limit (bounds inst s.phase q) q))
      where
        by_first : FirstOrNone (IsLimit inst s q ahead h.β α) → ((e : Entry) × IsNext inst s e) ⊎ IsFinal inst s
        by_first (inl (limit, first)) = inl (step_next limit (record { is_limit = first.is; first = first.first }))
        by_first (inr none) = inr (inr (inr (y, h.β, α, q, (pivoting, none))))

  -- ── where none does ──

  module _ (y : List ℚ) (prices : Prices inst s y) (none : NoneEligible inst s y) where
    rests_ends : ((e : Entry) × IsNext inst s e) ⊎ IsFinal inst s
    rests_ends = by_phase s.phase refl
      where
        by_zero : s.phase ≡ One → ((p : ℕ) × (p < row_count inst) × (IsArtificial inst (basic s p) × (at h.β p ≢ zero_ℚ))) ⊎ ArtificialsZero inst s h.β
            → ((e : Entry) × IsNext inst s e) ⊎ IsFinal inst s
        by_zero one (inr all) = inl (Turn, (one, (y, h.β, record { prices = prices; values = h.values; none_eligible = none }, all)))
        by_zero one (inl (p, b, (is, other))) =
            inr (inr (inl (y, h.β, (one, record { prices = prices; values = h.values; none_eligible = none }, λ all. other (all p b is)))))

        by_phase : (f : Phase) → s.phase ≡ f → ((e : Entry) × IsNext inst s e) ⊎ IsFinal inst s
        by_phase Two e = inr (inl (y, h.β, (e, record { prices = prices; values = h.values; none_eligible = none })))
        by_phase One e =
            by_zero e (artificials_zero_or_not inst s h.β)

  pub goes_on_or_ends : ((e : Entry) × IsNext inst s e) ⊎ IsFinal inst s
  goes_on_or_ends =
      let (y, prices) = some_prices inst s h in
      by_least y prices (least_or_none (column_count inst) (Eligible inst s y) (eligible_or_not y))
    where
      by_least : (y : List ℚ) → Prices inst s y → ((q : ℕ) × IsLeast (Eligible inst s y) q) ⊎ ((j : ℕ) → j < column_count inst → Eligible inst s y j → ⊥)
          → ((e : Entry) × IsNext inst s e) ⊎ IsFinal inst s
      by_least y prices (inl (q, least)) = enters_goes_on y prices q least
      by_least y prices (inr none) = rests_ends y prices (λ j eligible. none j eligible.in_range eligible)

-- ── the whole run ──

module _ (inst : Instance) (bounded : IsBounded inst) where
  -- a run ends, or has any number of entries
  runs : (fuel : ℕ) (s : State) → Holds inst s → ((log : List Entry) × (t : State) × Leads inst s log t × IsFinal inst t)
      ⊎ ((log : List Entry) × (t : State) × Leads inst s log t × (length log ≡ fuel))
  runs zero s h = inr ([], s, refl, refl)
  runs (suc fuel) s h = by_next (goes_on_or_ends inst s h) (λ e next. runs fuel (after s e) (next_holds inst bounded s h e next))
    where
      by_rest : (e : Entry) → IsNext inst s e → ((log : List Entry) × (t : State) × Leads inst (after s e) log t × IsFinal inst t)
          ⊎ ((log : List Entry) × (t : State) × Leads inst (after s e) log t × (length log ≡ fuel))
          → ((log : List Entry) × (t : State) × Leads inst s log t × IsFinal inst t) ⊎ ((log : List Entry) × (t : State) × Leads inst s log t
          × (length log ≡ suc fuel))
      by_rest e next (inl (log, t, leads, final)) = inl (e ∷ log, t, (next, leads), final)
      by_rest e next (inr (log, t, leads, each)) = inr (e ∷ log, t, (next, leads), ap suc each)

      by_next : ((e : Entry) × IsNext inst s e) ⊎ IsFinal inst s
          → ((e : Entry) → IsNext inst s e → ((log : List Entry) × (t : State) × Leads inst (after s e) log t × IsFinal inst t)
          ⊎ ((log : List Entry) × (t : State) × Leads inst (after s e) log t × (length log ≡ fuel)))
          → ((log : List Entry) × (t : State) × Leads inst s log t × IsFinal inst t) ⊎ ((log : List Entry) × (t : State) × Leads inst s log t
          × (length log ≡ suc fuel))
      by_next (inr final) rest = inl ([], s, refl, final)
      by_next (inl (e, next)) rest = by_rest e next (rest e next)

  pub ends : (s : State) → Holds inst s → (log : List Entry) × (t : State) × Leads inst s log t × IsFinal inst t
  ends s h = by_run (runs (2 * choices inst) s h)
    where
      by_run : ((log : List Entry) × (t : State) × Leads inst s log t × IsFinal inst t) ⊎ ((log : List Entry) × (t : State) × Leads inst s log t
          × (length log ≡ 2 * choices inst))
          → (log : List Entry) × (t : State) × Leads inst s log t × IsFinal inst t
      by_run (inl whole) = whole
      by_run (inr (log, t, leads, each)) = absurd (omega (arith, each, short inst bounded s h log t leads))

-- what a final state gives
final_gives : (inst : Instance) (s : State) → IsFinal inst s → (o : Outcome) × Yields inst s o
final_gives inst s (inl (y, β, ends)) =
    (optimal (point inst s β) (prices_in inst.sense y) (objective_at inst (point inst s β)), (y, β, ends, refl, refl, refl))
final_gives inst s (inr (inl (y, β, ends))) = (infeasible y, (β, ends))
final_gives inst s (inr (inr (y, β, α, q, ends))) =
    (unbounded (point inst s β) (ray inst s q (direction (reduced inst s y q)) α), (y, β, α, q, ends, refl, refl))

module _ (inst : Instance) (h : IsWellFormed inst) where
  -- there is a whole run
  pub whole_run : (log : List Entry) × (s : State) × IsWholeRun inst log s
  whole_run =
      let (log, s, leads, final) = ends inst (is_bounded inst h) (start_of inst) (start_holds inst h) in
      (log, s, (leads, final))

  -- and an outcome
  pub some_outcome : (log : List Entry) × (o : Outcome) × HasOutcome inst log o
  some_outcome =
      let (log, s, (leads, final)) = whole_run in
      let (o, gives) = final_gives inst s final in
      (log, o, (s, leads, gives))

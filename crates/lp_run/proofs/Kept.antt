-- Every state of a run has a table, so it is regular, and there is one run.
use Rattle.std.proofs.Common.{◌≡◌, ◌≢◌, ℕ, ◌<◌, inl, inr, List, [], ◌∷◌, ◌++◌, length, Option, Some, None, refl, sym, ◌∙◌, ap, ap₂, subst, get_or-set_other, get_or-set_same, length-set, arith}
use Rattle.std.specs.declared.cmp.Ordering.TheVariants.{Equal}
use Rattle.std.specs.Option.{option_map}
use Rattle.lp_model.specs.declared.Entry.{Entry}
use Rattle.lp_model.specs.declared.Entry.TheVariants.{Flip, Swap, Turn}
use Rattle.lp_model.specs.declared.Side.{Side}
use Rattle.rational.specs.Rational.{ℚ, zero_ℚ, neg_ℚ, cmp_ℚ, ◌*ℚ◌}
use Rattle.rational.proofs.RationalRing.{ring_ℚ}
use Rattle.rational.proofs.Ring.{◌≐◌, ◌⊗◌, ⊝◌, 𝟘}
use Rattle.rational.specs.Sum.{at}
use Rattle.rational.proofs.SumLaws.{at_or_other}
use Rattle.lp_run.specs.Instance.{Instance, bounds, column_count, row_count}
use Rattle.lp_run.specs.State.{State, after, basic}
use Rattle.lp_run.specs.Solution.{Regular, reduced}
use Rattle.lp_run.specs.Step.{IsFinal, IsLimit, IsNext, Limit, StepsBy, direction, distance_at, distance_by, limit_at}
use Rattle.lp_run.specs.Run.{Leads}
use Rattle.lp_run.specs.Tableau.{HasTable, logical_part, pivoted, table_column}
use Rattle.lp_run.proofs.Pivot.{Exchanges, pivot_entries, pivot_inverse}
use Rattle.rational.proofs.VectorLaws.{get-map-upto}
use Rattle.lp_run.proofs.Regularity.{one_column, column_solves, regular_from_inverse, table_solves}
use Rattle.lp_run.proofs.Unique.{mapped, no_next_at_end, one_next, own_limit_is}

pub regular_from_table : (inst : Instance) (s : State) → HasTable inst s → Regular inst s
regular_from_table inst s h = regular_from_inverse inst s (logical_part inst h.table) h.inverse

cmp-zero : cmp_ℚ zero_ℚ zero_ℚ ≡ Equal
unfolding cmp_ℚ zero_ℚ
cmp-zero = refl

not_mapped : {A : Type 0} (f : A → Limit) (o : Option A) (limit : Limit) → o ≡ None → option_map f o ≡ Some limit → ⊥
not_mapped f None limit none e = cc e
not_mapped f (Some d) limit none e = cc none

-- a position that has a limit has an element that is not 0
pub limit_element : (inst : Instance) (s : State) (q : ℕ) (t : ℚ) (β α : List ℚ) (p : ℕ) (limit : Limit) → limit_at inst s q t β α p ≡ Some limit → at α p ≢ zero_ℚ
limit_element inst s q t β α p limit e none =
    let rate : cmp_ℚ (neg_ℚ t *ℚ at α p) zero_ℚ ≡ Equal = ap (λ a. cmp_ℚ (neg_ℚ t *ℚ a) zero_ℚ) none ∙ ap (λ a. cmp_ℚ a zero_ℚ) (ring_ℚ 1 (λ t. ⊝ t ⊗ 𝟘 ≐ 𝟘) tt t) ∙ cmp-zero in
    not_mapped _ (distance_at inst s t β α p) limit (ap (λ o. distance_by o (bounds inst s.phase (basic s p)) (at β p)) rate) e

-- the limit of a position is a swap there
pub limit_swaps : (inst : Instance) (s : State) (q : ℕ) (t : ℚ) (β α : List ℚ) (p : ℕ) (limit : Limit) → limit_at inst s q t β α p ≡ Some limit → (end : Side) × (limit.entry ≡ Swap q p end)
limit_swaps inst s q t β α p limit e = mapped (λ a. (end : Side) × (a.entry ≡ Swap q p end)) _ (λ d. (d.1, refl)) (distance_at inst s t β α p) limit e

-- a swap that is the next entry puts the entering column into a position whose element is not 0
pub swap_element : (inst : Instance) (s : State) (h : HasTable inst s) (q p : ℕ) (end : Side) → StepsBy inst s (Swap q p end)
    → (p < row_count inst) × (q < column_count inst) × (h.table p q ≢ zero_ℚ)
swap_element inst s h q p end (y, β, α, q', limit, pivoting, leaves, is) = by_limit leaves.is_limit
  where
    same : α ≡ table_column inst h.table q'
    same = one_column inst s (regular_from_table inst s h) q' α (table_column inst h.table q') pivoting.column
        (column_solves inst s h.table (table_solves inst s h.table h.inverse h.entries) q' pivoting.enters.eligible.in_range)

    swapped : (k r l : ℕ) (e f : Side) → Swap k r e ≡ Swap l p f → (k ≡ l) × (r ≡ p)
    swapped k r l e f is = (cc, cc)

    flipped : (k : ℕ) → Flip k ≡ Swap q p end → ⊥
    flipped k is = cc

    by_limit : IsLimit inst s q' (direction (reduced inst s y q')) β α limit → (p < row_count inst) × (q < column_count inst) × (h.table p q ≢ zero_ℚ)
    by_limit (inl (r, within, e)) =
        let swap = limit_swaps inst s q' (direction (reduced inst s y q')) β α r limit e in
        let parts = swapped q' r q swap.0 end (sym swap.1 ∙ is) in
        let element : at α r ≡ h.table r q' = ap (λ v. at v r) same ∙ get-map-upto (λ k. h.table k q') zero_ℚ (row_count inst) r within in (
          subst (λ k. k < row_count inst) parts.1 within,
          subst (λ k. k < column_count inst) parts.0 pivoting.enters.eligible.in_range,
          λ none. limit_element inst s q' (direction (reduced inst s y q')) β α r limit e (element ∙ ap₂ h.table parts.1 parts.0 ∙ none),
        )
    by_limit (inr e) = absurd (flipped q' (sym (own_limit_is (bounds inst s.phase q').lower (bounds inst s.phase q').upper q' limit e).1 ∙ is))

after_swap : (inst : Instance) (s : State) (h : HasTable inst s) (q p : ℕ) (end : Side) → p < row_count inst → q < column_count inst → h.table p q ≢ zero_ℚ
    → Exchanges inst s (after s (Swap q p end)) h.table p q
after_swap inst s h q p end within column element =
    let there : p < length s.basis = subst (λ n. p < n) (sym h.positions) within in
    record {
      position = within;
      column = column;
      element = element;
      placed = get_or-set_same s.basis p q 0 there;
      kept = λ k b other. get_or-set_other s.basis p k q 0 other;
      basis_within = h.within;
      phase = refl;
    }

-- the state after an entry has a table where the state before it has one
pub after_has_table : (inst : Instance) (s : State) → HasTable inst s → (e : Entry) → IsNext inst s e → HasTable inst (after s e)
after_has_table inst s h (Flip q) next = record {
  table = h.table;
  inverse = record { right = h.inverse.right; left = h.inverse.left };
  entries = h.entries;
  positions = h.positions;
  within = h.within;
}
after_has_table inst s h Turn next = record { table = h.table; inverse = record { right = h.inverse.right; left = h.inverse.left }; entries = h.entries; positions = h.positions; within = h.within }
after_has_table inst s h (Swap q p end) next =
    let at_p = swap_element inst s h q p end next in
    let s' = after s (Swap q p end) in
    let x = after_swap inst s h q p end at_p.0 at_p.1 at_p.2 in
    record {
      table = pivoted h.table p q;
      inverse = pivot_inverse inst s s' h.table p q x h.entries h.inverse (λ i b. table_solves inst s h.table h.inverse h.entries i q b at_p.1);
      entries = pivot_entries inst s s' h.table p q x h.entries;
      positions = length-set s.basis p q ∙ h.positions;
      within = λ k b. at_or_other (λ k. k < row_count inst → basic s' k < column_count inst) p k
          (λ c. subst (λ j. j < column_count inst) (sym x.placed) at_p.1)
          (λ other c. subst (λ j. j < column_count inst) (sym (x.kept k c other)) (h.within k c)) b;
    }

-- ── one run ──

-- two logs from one state are one, as far as both go, and so are their states where both end together; a log goes on past no final state
pub one_log : (inst : Instance) (s : State) → HasTable inst s → (log log' : List Entry) (t t' : State) → Leads inst s log t → Leads inst s log' t' → length log ≡ length log' → (log ≡ log') × (t ≡ t')
one_log inst s h [] [] t t' leads leads' e = (refl, sym leads ∙ leads')
one_log inst s h [] (e' ∷ log') t t' leads leads' e = absurd (omega arith)
one_log inst s h (e ∷ log) [] t t' leads leads' same = absurd (omega arith)
one_log inst s h (e ∷ log) (e' ∷ log') t t' leads leads' same =
    let first : e' ≡ e = sym (one_next inst s (regular_from_table inst s h) e e' leads.0 leads'.0) in
    let rest = one_log inst (after s e) (after_has_table inst s h e leads.0) log log' t t' leads.1 (subst (λ a. Leads inst (after s a) log' t') first leads'.1) (omega arith) in
    (ap₂ ◌∷◌ (sym first) rest.0, rest.1)

-- a log that leads to a state with a next entry is shorter than one that leads to the end, which goes on by that entry
pub goes_on : (inst : Instance) (s : State) → HasTable inst s → (log whole : List Entry) (t end : State) (e : Entry) → Leads inst s log t → IsNext inst t e → Leads inst s whole end → IsFinal inst end
    → (more : List Entry) × (whole ≡ log ++ e ∷ more)
goes_on inst s h [] [] t end e leads next leads' final = absurd (no_next_at_end inst s (regular_from_table inst s h) e
    (subst (λ a. IsNext inst a e) (sym leads) next) (subst (IsFinal inst) (sym leads') final))
goes_on inst s h [] (e' ∷ whole) t end e leads next leads' final =
    (whole, ap (λ a. a ∷ whole) (one_next inst s (regular_from_table inst s h) e' e leads'.0 (subst (λ a. IsNext inst a e) (sym leads) next)))
goes_on inst s h (a ∷ log) [] t end e leads next leads' final = absurd (no_next_at_end inst s (regular_from_table inst s h) a leads.0 (subst (IsFinal inst) (sym leads') final))
goes_on inst s h (a ∷ log) (e' ∷ whole) t end e leads next leads' final =
    let first : e' ≡ a = one_next inst s (regular_from_table inst s h) e' a leads'.0 leads.0 in
    let rest = goes_on inst (after s a) (after_has_table inst s h a leads.0) log whole t end e leads.1 next (subst (λ b. Leads inst (after s b) whole end) first leads'.1) final in
    (rest.0, ap₂ ◌∷◌ first rest.1)

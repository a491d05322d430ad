-- The making of the table: what it lists, and that the table stands at the start.
use Rattle.std.proofs.Common.{◌≡◌, ℕ, zero, suc, ◌+◌, ◌<◌, ◌≤◌, List, [], ◌∷◌, ◌++◌, map, length, get_or, Some, None, Result, Ok, Err, OnOk, IsErrAnd, refl, sym, ◌∙◌, ap, ap₂, subst, arith}
use Rattle.std.specs.List.{range_with_len}
use Rattle.std.proofs.lemmas.List.{append-nil}
use Rattle.std.proofs.lemmas.Result.{err_from_is_err_and}
use Rattle.lp_model.specs.declared.Kind.TheVariants as kind
use Rattle.lp_model.specs.declared.Place.{Place}
use Rattle.rational.specs.Rational.{ℚ, zero_ℚ, ◌-ℚ◌, ◌*ℚ◌}
use Rattle.rational.proofs.SumLaws.{sum-cong}
use Rattle.rational.specs.Sparse.{upto}
use Rattle.rational.specs.Sum.{at}
use Rattle.rational.proofs.VectorLaws.{get-map-upto, length-map-upto, list_of}
use Rattle.lp_run.specs.Instance.{Instance, IsWellFormed, column_count, cost, row_count}
use Rattle.lp_run.specs.Listing.{Listed, MakingLists, StartFits, AllFit, cost_listing, costs_listing, entries_listing, or_first, place, start_entry, taken, first_unfit, Judges}
use Rattle.lp_run.specs.State.{State, basic, start_basic, start_of}
use Rattle.lp_run.specs.Tableau.{table_cost}
use Rattle.lp_run.proofs.FirstUnfit.{all-append, fit-append}
use Rattle.lp_run.proofs.Start.{start_within}
use Rattle.lp_run.proofs.StartStatuses.{start_length}
use Rattle.table_laws.specs.Fitted.{HasFitted, HasOverflown}
use Rattle.table_laws.specs.Stands.{StandsAt}
use Rattle.table_laws.proofs.Fitting.{fitted-start}
use Rattle.table_laws.proofs.Started.{started}
use Rattle.plain_table.specs.Inner.Costs.{cost_work, costs_work_listing}
use Rattle.plain_table.specs.Inner.Makings.{IsFilled, making_listing}
use Rattle.plain_table.specs.Inner.Starts.{AreStartRows, basic_start, start_values_listing}
use Rattle.plain_table.specs.Plain.{IsSized, Plain, Stands, cell}
use Rattle.plain_table.proofs.Anew.{costs_are, costs_lists}
use Rattle.plain_table.proofs.Parts.{judged_first, judged_next, same_parts}
use Rattle.plain_table.proofs.StartSolves.{values_solve}
use Rattle.plain_table.proofs.Stepping.{same_stands}

-- ── the same map, item by item ──

map_from : {A : Type 0} (f g : ℕ → A) (a n : ℕ) → ((k : ℕ) → a ≤ k → k < a + n → f k ≡ g k) → map f (range_with_len a n) ≡ map g (range_with_len a n)
map_from f g a zero e = refl
map_from f g a (suc n) e = ap₂ (λ x xs. x ∷ xs) (e a (omega arith) (omega arith)) (map_from f g (a + 1) n (λ k from below. e k (omega arith) (omega arith)))

pub same_map : {A : Type 0} (f g : ℕ → A) (n : ℕ) → ((k : ℕ) → k < n → f k ≡ g k) → map f (upto n) ≡ map g (upto n)
same_map f g n e = map_from f g 0 n (λ k from below. e k (omega arith))

-- ── the size of the start ──

pub start_sized : (inst : Instance) (h : IsWellFormed inst) (t : Plain) → t.state ≡ start_of inst → length t.rows ≡ row_count inst
    → ((p : ℕ) → p < row_count inst → length (get_or t.rows p []) ≡ column_count inst) → length t.values ≡ row_count inst → length t.costs ≡ column_count inst
    → IsSized (row_count inst) (column_count inst) t
start_sized inst h t is rows wide values costs = record {
  rows = rows;
  wide = wide;
  values = values;
  costs = costs;
  basis = ap (λ (s : State). length s.basis) is ∙ length-map-upto (start_basic inst) (row_count inst);
  statuses = ap (λ (s : State). length s.statuses) is ∙ start_length inst h.sides;
  within = λ p b. subst (λ (s : State). basic s p < column_count inst) (sym is) (start_within inst p b);
}

-- ── the reduced costs ──

module _ (inst : Instance) (s : State) (table table' : ℕ → ℕ → ℚ) (same : (p j : ℕ) → p < row_count inst → j < column_count inst → table p j ≡ table' p j) where
  pub same_costs_listing : (k : ℕ) → costs_listing inst k s table ≡ costs_listing inst k s table'
  same_costs_listing k =
      same_parts (cost_listing inst k s table) (cost_listing inst k s table') (column_count inst)
      (λ j b. ap (λ terms. or_first (place k kind.Cost None (Some j)) (cost inst s.phase j) (taken (cost inst s.phase j) terms))
      (same_map (λ p. (place k kind.Cost None (Some j), (cost inst s.phase (basic s p), table p j)))
      (λ p. (place k kind.Cost None (Some j), (cost inst s.phase (basic s p), table' p j))) (row_count inst)
      (λ p c. ap (λ x. (place k kind.Cost None (Some j), (cost inst s.phase (basic s p), x))) (same p j c b))))

  pub same_table_cost : (j : ℕ) → j < column_count inst → table_cost inst s table j ≡ table_cost inst s table' j
  same_table_cost j b = ap (λ z. cost inst s.phase j -ℚ z) (sum-cong (row_count inst) _ _ (λ p c. ap (λ z. cost inst s.phase (basic s p) *ℚ z) (same p j c b)))

module _ (inst : Instance) (s : State) (is : s ≡ start_of inst) (costs : List ℚ) (rows : List (List ℚ)) (positions : length rows ≡ row_count inst) (filled : AreStartRows inst rows)
    (basics : (p : ℕ) → p < row_count inst → at costs p ≡ cost inst s.phase (basic s p)) where
  pub start_costs_listed : costs_work_listing inst s.phase 0 costs rows ≡ costs_listing inst 0 (start_of inst) (start_entry inst)
  start_costs_listed =
      costs_lists inst s costs rows positions basics 0
      ∙ same_costs_listing inst s (λ p j. at (get_or rows p []) j) (start_entry inst) (λ p j b c. filled p b j c) 0
      ∙ ap (λ s. costs_listing inst 0 s (start_entry inst)) is

  pub start_costs_are : (j : ℕ) → j < column_count inst → (cost_work (cost inst s.phase j) costs rows j).answer ≡ table_cost inst (start_of inst) (start_entry inst) j
  start_costs_are j b =
      costs_are inst s costs rows positions basics j
      ∙ same_table_cost inst s (λ p j. at (get_or rows p []) j) (start_entry inst) (λ p j b c. filled p b j c) j b
      ∙ ap (λ s. table_cost inst s (start_entry inst) j) is

-- ── the listing, part by part ──

module _ (w : ℕ) (inst : Instance) where
  pub making_first : (here : Place) → first_unfit w (entries_listing inst) ≡ Some here → first_unfit w (making_listing inst) ≡ Some here
  making_first here e =
      judged_first w (entries_listing inst ++ start_values_listing inst) (costs_listing inst 0 (start_of inst) (start_entry inst)) here
      (judged_first w (entries_listing inst) (start_values_listing inst) here e)

  pub making_second : (here : Place) → AllFit w (entries_listing inst) → first_unfit w (start_values_listing inst) ≡ Some here → first_unfit w (making_listing inst) ≡ Some here
  making_second here fits e =
      judged_first w (entries_listing inst ++ start_values_listing inst) (costs_listing inst 0 (start_of inst) (start_entry inst)) here
      (fit-append w (entries_listing inst) (start_values_listing inst) fits ∙ e)

  pub making_third : {A : Type 0} (r : Result A Place) → AllFit w (entries_listing inst) → AllFit w (start_values_listing inst)
      → Judges w (costs_listing inst 0 (start_of inst) (start_entry inst)) r → Judges w (making_listing inst) r
  making_third r entries values costs =
      judged_next w (entries_listing inst ++ start_values_listing inst) (costs_listing inst 0 (start_of inst) (start_entry inst)) r
      (all-append w (entries_listing inst) (start_values_listing inst) entries values) costs

-- the same listing at the same width
pub judged_as : {A : Type 0} (w u : ℕ) (vs us : List Listed) (r : Result A Place) → u ≡ w → us ≡ vs → Judges u us r → Judges w vs r
judged_as w u vs us r same is h = subst (λ w. Judges w vs r) same (subst (λ vs. Judges u vs r) is h)

-- what follows of an answer
pub on_ok : {A E : Type 0} {P Q : Type 0} (r : Result A E) → (P → Q) → OnOk r P → OnOk r Q
on_ok (Ok a) f h = f h
on_ok (Err e) f h = h

-- an error that is handed on
pub judged_refusal : {A : Type 0} (w : ℕ) (vs : List Listed) (r : Result A Place) (here : Place) → first_unfit w vs ≡ Some here → IsErrAnd r (λ f. f ≡ here) → Judges w vs r
judged_refusal w vs r here first is = let at = err_from_is_err_and r is in subst (λ s. Judges w vs s) (sym at.1) (first ∙ ap Some (sym at.2))

-- ── the table that is made ──

module _ (inst : Instance) (h : IsWellFormed inst) where
  abbrev start_values : List ℚ
  start_values = map (basic_start inst) (upto (row_count inst))

  stands_there : StandsAt inst [] (start_of inst) (start_entry inst) start_values (table_cost inst (start_of inst) (start_entry inst))
  stands_there = started inst start_values (values_solve inst h)

  pub making_lists : MakingLists inst (making_listing inst)
  making_lists = (
    start_entry inst,
    start_values,
    stands_there.columns,
    values_solve inst h,
    ap (λ vs. entries_listing inst ++ vs ++ costs_listing inst 0 (start_of inst) (start_entry inst))
        (same_map (λ p. (place 0 kind.Value (Some p) None, basic_start inst p)) (λ p. (place 0 kind.Value (Some p) None, at start_values p)) (row_count inst)
        (λ p b. ap (λ v. (place 0 kind.Value (Some p) None, v)) (sym (get-map-upto (basic_start inst) zero_ℚ (row_count inst) p b)))),
  )

  pub start_stands : (t : Plain) → IsFilled inst t → Stands inst [] t
  start_stands t filled = record {
    table = subst (λ s. StandsAt inst [] s (cell t) t.values (at t.costs)) (sym filled.start.state)
        (subst (λ β. StandsAt inst [] (start_of inst) (cell t) β (at t.costs)) (sym (list_of (basic_start inst) (row_count inst) t.values filled.start.sized.values filled.values_filled))
        (same_stands inst [] (start_of inst) (start_entry inst) (cell t) start_values (table_cost inst (start_of inst) (start_entry inst)) (at t.costs)
        (λ p j b c. filled.rows_filled p b j c) filled.costs_filled stands_there));
    number = filled.start.number;
    sized = filled.start.sized;
  }

  pub start_fitted : (w : ℕ) → StartFits w inst → AllFit w (making_listing inst) → HasFitted w inst []
  start_fitted w start fits = fitted-start w inst (making_listing inst) start making_lists fits

  pub start_overflown : (w : ℕ) (here : Place) → first_unfit w (making_listing inst) ≡ Some here → HasOverflown w inst [] here
  start_overflown w here first = record { before = making_listing inst; worked = (making_listing inst, [], making_lists, refl, sym (append-nil (making_listing inst))); first = first }

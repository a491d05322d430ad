-- Worked decks: closed facts that the definitions give the expected start, run, outcome, proof and listing on small decks.
-- A heading spells its deck: the rows, then each column with its cost and entries, then right sides (RHS), ranges (RNG) and bounds (BND).
use Rattle.std.proofs.Common.{◌≡◌, ℕ, zero, suc, inl, inr, List, [], ◌∷◌, ◌++◌, map, Option, Some, None, pos, true≢false, refl, arith, sym, ap}
use Rattle.std.specs.List.{flat_map}
use Rattle.lp_model.specs.declared.Entry.TheVariants.{Flip, Swap, Turn}
use Rattle.lp_model.specs.declared.Kind.TheVariants as kind
use Rattle.lp_model.specs.declared.Phase.{Phase}
use Rattle.lp_model.specs.declared.Phase.TheVariants.{One, Two}
use Rattle.lp_model.specs.declared.RowKind.{RowKind}
use Rattle.lp_model.specs.declared.RowKind.TheVariants.{L, G, E}
use Rattle.lp_model.specs.declared.Sense.TheVariants.{Max, Min}
use Rattle.lp_model.specs.declared.Side.TheVariants as side
use Rattle.lp_model.specs.declared.Status.{Status}
use Rattle.lp_model.specs.declared.Status.TheVariants as status
use Rattle.rational.specs.Rational.{ℚ, whole, zero_ℚ, neg_ℚ, eq_ℚ}
use Rattle.rational.specs.Sum.{at}
use Rattle.lp_model.specs.Deck.{Deck, Row, Column, Interval, activity_interval, between, nonnegative}
use Rattle.lp_model.specs.Certificate.{Farkas, Proves, Ray}
use Rattle.lp_run.specs.Instance.{Structural, coefficient, instance_of}
use Rattle.lp_run.specs.State.{State, start_of}
use Rattle.lp_run.specs.Solution.{Values, reduced}
use Rattle.lp_run.specs.Step.{EndsFree, EndsInfeasible, EndsOptimal, Leaves, Limit, Pivoting, Turns}
use Rattle.lp_run.specs.Run.{IsRun}
use Rattle.lp_run.specs.Ends.{HasOutcome}
use Rattle.lp_model.specs.Outcome.{infeasible, optimal, unbounded}
use Rattle.lp_run.specs.Listing.{AllFit, Listed, MakingLists, StepLists, first_unfit, move_listing, place, ratio_listing, start_listing, start_sums, table_listing}
use Rattle.lp_run.proofs.Computed.{all_same, closed, each, free_by, leaves_by, pivoting_by, rests_by, steps_by, table_by}

abbrev int : ℕ → ℚ
int k = whole (pos k)

abbrev minus : ℕ → ℚ
minus k = neg_ℚ (int k)

abbrev row_of : RowKind → ℚ → Option ℚ → Row
row_of k b r = record { name = []; kind = k; right = b; range = r }

abbrev column_of : ℚ → List (ℕ × ℚ) → Interval → Column
column_of c entries ends = record { name = []; cost = c; entries = entries; bounds = ends }

abbrev deck_of : List Row → List Column → Deck
deck_of rows columns = record { name = []; objective = []; sense = Min; rows = rows; columns = columns; constant = int 0 }

abbrev structural_of : ℚ → List (ℕ × ℚ) → Interval → Structural
structural_of c entries ends = record { cost = c; entries = entries; bounds = ends }

abbrev state_of : List ℕ → List Status → Phase → State
state_of basis statuses phase = record { basis = basis; statuses = statuses; phase = phase }

-- the items of a listing
abbrev start_item : ℕ → Option ℕ → ℚ → Listed
start_item i j v = (place 0 kind.Start (Some i) j, v)

abbrev entry_item : ℕ → ℕ → ℕ → ℚ → Listed
entry_item k i j v = (place k kind.Entry (Some i) (Some j), v)

abbrev value_item : ℕ → ℕ → ℚ → Listed
value_item k i v = (place k kind.Value (Some i) None, v)

abbrev cost_item : ℕ → ℕ → ℚ → Listed
cost_item k j v = (place k kind.Cost None (Some j), v)

abbrev ratio_item : ℕ → ℕ → ℚ → Listed
ratio_item k i v = (place k kind.Ratio (Some i) None, v)

abbrev total_item : ℕ → ℕ → ℚ → Listed
total_item k j v = (place k kind.Total None (Some j), v)

-- ── one swap to an optimum: N COST, L R1, L R2 | X: COST -3, R1 1, R2 1; Y: COST -2, R1 1, R2 3 | RHS R1 4, R2 6 ──

abbrev small : Deck
small = deck_of (row_of L (int 4) None ∷ row_of L (int 6) None ∷ [])
    (column_of (minus 3) ((0, int 1) ∷ (1, int 1) ∷ []) nonnegative ∷ column_of (minus 2) ((0, int 1) ∷ (1, int 3) ∷ []) nonnegative ∷ [])

small-instance : instance_of small ≡ record {
  right = int 4 ∷ int 6 ∷ [];
  structurals = structural_of (minus 3) ((0, int 1) ∷ (1, int 1) ∷ []) nonnegative ∷ structural_of (minus 2) ((0, int 1) ∷ (1, int 3) ∷ []) nonnegative ∷ [];
  logicals = nonnegative ∷ nonnegative ∷ [];
  range_sums = None ∷ None ∷ [];
  passed = None ∷ None ∷ [];
  constant = int 0;
  sense = Min;
}
unfolding closed
small-instance = refl

abbrev small_start : State
small_start = state_of (2 ∷ 3 ∷ []) (status.Lower ∷ status.Lower ∷ status.Basic ∷ status.Basic ∷ status.Lower ∷ status.Lower ∷ []) Two

small-start : start_of (instance_of small) ≡ small_start
unfolding closed
small-start = refl

abbrev small_end : State
small_end = state_of (0 ∷ 3 ∷ []) (status.Basic ∷ status.Lower ∷ status.Lower ∷ status.Basic ∷ status.Lower ∷ status.Lower ∷ []) Two

small-run : IsRun (instance_of small) (Swap 0 0 side.Lower ∷ []) small_end
unfolding closed
small-run =
    let limit : Limit = record { ratio = int 4; column = 2; entry = Swap 0 0 side.Lower } in (
      steps_by _ _ (int 0 ∷ int 0 ∷ []) (int 4 ∷ int 6 ∷ []) (int 1 ∷ int 1 ∷ []) 0 limit
          (pivoting_by _ _ _ _ _ _ refl refl refl (refl, (refl, tt)) (refl, (refl, tt)) (refl, (refl, tt)) (record { in_range = omega arith; ends_differ = refl; improves = record { lt = tt } }) tt)
          (leaves_by _ _ _ _ _ _ _ (inl (0, omega arith, refl)) (inr (refl, omega arith), (inl (record { lt = tt }), tt)) tt),
      refl,
    )

small-optimal : EndsOptimal (instance_of small) small_end (minus 3 ∷ int 0 ∷ []) (int 4 ∷ int 2 ∷ [])
unfolding closed
small-optimal = (
  refl,
  rests_by _ _ _ _ refl refl (refl, (refl, tt)) (refl, (refl, tt))
      (λ h. h.improves, (λ h. h.improves.lt, (λ h. h.improves.lt, (λ h. h.improves, (λ h. true≢false h.ends_differ, (λ h. true≢false h.ends_differ, tt)))))),
)

small-outcome : HasOutcome (instance_of small) (Swap 0 0 side.Lower ∷ []) (optimal (int 4 ∷ int 0 ∷ []) (minus 3 ∷ int 0 ∷ []) (minus 12))
unfolding closed
small-outcome = (small_end, small-run, (minus 3 ∷ int 0 ∷ [], int 4 ∷ int 2 ∷ [], small-optimal, refl, refl, refl))

small-proves : Proves small (int 4 ∷ int 0 ∷ []) (minus 3 ∷ int 0 ∷ [])
unfolding closed
small-proves = record {
  feasible = record {
    one_each = refl;
    columns_within = each 2 _ ((record { le = tt }, tt), ((record { le = tt }, tt), tt));
    rows_within = each 2 _ ((tt, record { le = tt }), ((tt, record { le = tt }), tt));
  };
  one_each = refl;
  above = each 2 _ (λ h. absurd h.lt, (λ _. refl, tt));
  below = each 2 _ (λ h. absurd h.lt, (λ h. absurd h.lt, tt));
  price_above = each 2 _ (λ h. absurd h.lt, (λ h. absurd h.lt, tt));
  price_below = each 2 _ (λ _. refl, (λ h. absurd h.lt, tt));
}

-- ── the same to be maximised, with the costs' signs turned: the prices and the objective are those of the deck's own costs ──

abbrev greatest : Deck
greatest = record (deck_of (row_of L (int 4) None ∷ row_of L (int 6) None ∷ [])
    (column_of (int 3) ((0, int 1) ∷ (1, int 1) ∷ []) nonnegative ∷ column_of (int 2) ((0, int 1) ∷ (1, int 3) ∷ []) nonnegative ∷ [])) { sense = Max }

greatest-outcome : HasOutcome (instance_of greatest) (Swap 0 0 side.Lower ∷ []) (optimal (int 4 ∷ int 0 ∷ []) (int 3 ∷ int 0 ∷ []) (int 12))
unfolding closed
greatest-outcome =
    let limit : Limit = record { ratio = int 4; column = 2; entry = Swap 0 0 side.Lower } in (
      small_end,
      (
        steps_by _ _ (int 0 ∷ int 0 ∷ []) (int 4 ∷ int 6 ∷ []) (int 1 ∷ int 1 ∷ []) 0 limit
            (pivoting_by _ _ _ _ _ _ refl refl refl (refl, (refl, tt)) (refl, (refl, tt)) (refl, (refl, tt)) (record { in_range = omega arith; ends_differ = refl; improves = record { lt = tt } }) tt)
            (leaves_by _ _ _ _ _ _ _ (inl (0, omega arith, refl)) (inr (refl, omega arith), (inl (record { lt = tt }), tt)) tt),
        refl,
      ),
      (
        minus 3 ∷ int 0 ∷ [],
        int 4 ∷ int 2 ∷ [],
        (
          refl,
          rests_by _ _ _ _ refl refl (refl, (refl, tt)) (refl, (refl, tt))
              (λ h. h.improves, (λ h. h.improves.lt, (λ h. h.improves.lt, (λ h. h.improves, (λ h. true≢false h.ends_differ, (λ h. true≢false h.ends_differ, tt)))))),
        ),
        refl,
        refl,
        refl,
      ),
    )

greatest-proves : Proves greatest (int 4 ∷ int 0 ∷ []) (int 3 ∷ int 0 ∷ [])
unfolding closed
greatest-proves = record {
  feasible = record {
    one_each = refl;
    columns_within = each 2 _ ((record { le = tt }, tt), ((record { le = tt }, tt), tt));
    rows_within = each 2 _ ((tt, record { le = tt }), ((tt, record { le = tt }), tt));
  };
  one_each = refl;
  above = each 2 _ (λ h. absurd h.lt, (λ _. refl, tt));
  below = each 2 _ (λ h. absurd h.lt, (λ h. absurd h.lt, tt));
  price_above = each 2 _ (λ h. absurd h.lt, (λ h. absurd h.lt, tt));
  price_below = each 2 _ (λ _. refl, (λ h. absurd h.lt, tt));
}

-- ── two phases, an equality whose range goes down, all that is listed up to the turn: N COST, E R1 | X: COST 1, R1 1 | RHS R1 5 | RNG R1 -3 ──

abbrev ranged : Deck
ranged = deck_of (row_of E (int 5) (Some (minus 3)) ∷ []) (column_of (int 1) ((0, int 1) ∷ []) nonnegative ∷ [])

abbrev ranged_start : State
ranged_start = state_of (2 ∷ []) (status.Lower ∷ status.Upper ∷ status.Basic ∷ []) One

abbrev ranged_limit : Limit
ranged_limit = record { ratio = int 2; column = 2; entry = Swap 0 0 side.Lower }

ranged-pivoting : Pivoting (instance_of ranged) ranged_start (int 1 ∷ []) (int 2 ∷ []) (int 1 ∷ []) 0
unfolding closed
ranged-pivoting = pivoting_by _ _ _ _ _ _ refl refl refl (refl, tt) (refl, tt) (refl, tt) (record { in_range = omega arith; ends_differ = refl; improves = record { lt = tt } }) tt

ranged-leaves : Leaves (instance_of ranged) ranged_start 0 (int 1) (int 2 ∷ []) (int 1 ∷ []) ranged_limit
unfolding closed
ranged-leaves = leaves_by _ _ _ _ _ _ _ (inl (0, omega arith, refl)) (inr (refl, omega arith), tt) tt

abbrev ranged_turn : State
ranged_turn = state_of (0 ∷ []) (status.Basic ∷ status.Upper ∷ status.Lower ∷ []) One

ranged-turns : Turns (instance_of ranged) ranged_turn
unfolding closed
ranged-turns = (
  refl,
  (
    int 0 ∷ [],
    int 2 ∷ [],
    rests_by _ _ _ _ refl refl (refl, tt) (refl, tt) (λ h. h.improves, (λ h. h.improves.lt, (λ h. h.improves.lt, tt))),
    each 1 _ (λ h. absurd (omega (arith, h)), tt),
  ),
)

abbrev ranged_end : State
ranged_end = state_of (0 ∷ []) (status.Basic ∷ status.Upper ∷ status.Lower ∷ []) Two

ranged-outcome : HasOutcome (instance_of ranged) (Swap 0 0 side.Lower ∷ Turn ∷ []) (optimal (int 2 ∷ []) (int 1 ∷ []) (int 2))
unfolding closed
ranged-outcome = (
  ranged_end,
  (steps_by _ _ _ _ _ _ ranged_limit ranged-pivoting ranged-leaves, (ranged-turns, refl)),
  (int 1 ∷ [], int 2 ∷ [], (refl, rests_by _ _ _ _ refl refl (refl, tt) (refl, tt) (λ h. h.improves, (λ h. h.improves.lt, (λ h. true≢false h.ends_differ, tt)))), refl, refl, refl),
)

abbrev ranged_made : List Listed
ranged_made =
    entry_item 0 0 0 (int 1) ∷ entry_item 0 0 1 (int 1) ∷ entry_item 0 0 2 (int 1) ∷ value_item 0 0 (int 2)
    ∷ cost_item 0 0 (int 1) ∷ cost_item 0 0 (minus 1) ∷ cost_item 0 1 (int 1) ∷ cost_item 0 1 (minus 1) ∷ cost_item 0 2 (int 1) ∷ cost_item 0 2 (int 0) ∷ []

ranged-start_listing : start_listing (instance_of ranged) ≡ start_item 0 None (int 2) ∷ start_item 0 None (int 2) ∷ []
unfolding closed
ranged-start_listing = refl

abbrev ranged_stepped : List Listed
ranged_stepped =
    ratio_item 0 0 (int 2) ∷ ratio_item 0 0 (int 2)
    ∷ entry_item 0 0 0 (int 1) ∷ entry_item 0 0 1 (int 1) ∷ entry_item 0 0 2 (int 1) ∷ value_item 0 0 (int 2)
    ∷ cost_item 0 0 (minus 1) ∷ cost_item 0 0 (int 0) ∷ cost_item 0 1 (minus 1) ∷ cost_item 0 1 (int 0) ∷ cost_item 0 2 (minus 1) ∷ cost_item 0 2 (int 1) ∷ []

ranged-making : MakingLists (instance_of ranged) ranged_made
unfolding closed
ranged-making = (
  coefficient (instance_of ranged),
  int 2 ∷ [],
  table_by (instance_of ranged) ranged_start (coefficient (instance_of ranged))
      (all_same 1 3 (coefficient (instance_of ranged))),
  ranged-pivoting.values,
  refl,
)

ranged-lists : StepLists (instance_of ranged) 0 ranged_start ranged_stepped
unfolding closed
ranged-lists = inl (
  coefficient (instance_of ranged),
  record { prices = int 1 ∷ []; values = int 2 ∷ []; column = int 1 ∷ []; entering = 0; limit = ranged_limit; pivoting = ranged-pivoting; leaves = ranged-leaves },
  table_by (instance_of ranged) ranged_start (coefficient (instance_of ranged)) (all_same 1 3 (coefficient (instance_of ranged))),
  refl,
)

abbrev ranged_turned : List Listed
ranged_turned = cost_item 1 0 (int 1) ∷ cost_item 1 0 (int 0) ∷ cost_item 1 1 (int 1) ∷ cost_item 1 1 (minus 1) ∷ cost_item 1 2 (int 1) ∷ cost_item 1 2 (minus 1) ∷ []

ranged-turn-lists : StepLists (instance_of ranged) 1 ranged_turn ranged_turned
unfolding closed
ranged-turn-lists = inr (inl (
  coefficient (instance_of ranged),
  ranged-turns,
  table_by (instance_of ranged) ranged_turn (coefficient (instance_of ranged)) (all_same 1 3 (coefficient (instance_of ranged))),
  refl,
))

-- ── equal ratios, and an artificial that stays basic at 0: N COST, E R1, E R2 | X: COST 1, R1 1, R2 1; Y: COST 2, R1 1, R2 1 | RHS R1 2, R2 2 ──

abbrev equal : Deck
equal = deck_of (row_of E (int 2) None ∷ row_of E (int 2) None ∷ [])
    (column_of (int 1) ((0, int 1) ∷ (1, int 1) ∷ []) nonnegative ∷ column_of (int 2) ((0, int 1) ∷ (1, int 1) ∷ []) nonnegative ∷ [])

equal-outcome : HasOutcome (instance_of equal) (Swap 0 0 side.Lower ∷ Turn ∷ []) (optimal (int 2 ∷ int 0 ∷ []) (int 1 ∷ int 0 ∷ []) (int 2))
unfolding closed
equal-outcome =
    let limit : Limit = record { ratio = int 2; column = 4; entry = Swap 0 0 side.Lower } in
    let statuses : List Status = status.Basic ∷ status.Lower ∷ status.Upper ∷ status.Upper ∷ status.Lower ∷ status.Basic ∷ [] in (
      state_of (0 ∷ 5 ∷ []) statuses Two,
      (
        steps_by _ _ (int 1 ∷ int 1 ∷ []) (int 2 ∷ int 2 ∷ []) (int 1 ∷ int 1 ∷ []) 0 limit
            (pivoting_by _ _ _ _ _ _ refl refl refl (refl, (refl, tt)) (refl, (refl, tt)) (refl, (refl, tt)) (record { in_range = omega arith; ends_differ = refl; improves = record { lt = tt } }) tt)
            (leaves_by _ _ _ _ _ _ _ (inl (0, omega arith, refl)) (inr (refl, omega arith), (inr (refl, omega arith), tt)) tt),
        (
          (
            refl,
            (
              minus 1 ∷ int 1 ∷ [],
              int 2 ∷ int 0 ∷ [],
              rests_by _ _ _ _ refl refl (refl, (refl, tt)) (refl, (refl, tt))
                  (λ h. h.improves, (λ h. h.improves.lt, (λ h. true≢false h.ends_differ, (λ h. true≢false h.ends_differ, (λ h. h.improves.lt, (λ h. h.improves, tt)))))),
              each 2 _ (λ h. absurd (omega (arith, h)), (λ _. refl, tt)),
            ),
          ),
          refl,
        ),
      ),
      (
        int 1 ∷ int 0 ∷ [],
        int 2 ∷ int 0 ∷ [],
        (
          refl,
          rests_by _ _ _ _ refl refl (refl, (refl, tt)) (refl, (refl, tt))
              (λ h. h.improves, (λ h. h.improves.lt, (λ h. true≢false h.ends_differ, (λ h. true≢false h.ends_differ, (λ h. true≢false h.ends_differ, (λ h. h.improves, tt)))))),
        ),
        refl,
        refl,
        refl,
      ),
    )

-- ── phase one ends above 0: N COST, L R1, G R2 | X: COST 1, R1 1, R2 1 | RHS R1 1, R2 2 ──

abbrev apart : Deck
apart = deck_of (row_of L (int 1) None ∷ row_of G (int 2) None ∷ []) (column_of (int 1) ((0, int 1) ∷ (1, int 1) ∷ []) nonnegative ∷ [])

abbrev apart_end : State
apart_end = state_of (0 ∷ 4 ∷ []) (status.Basic ∷ status.Lower ∷ status.Upper ∷ status.Lower ∷ status.Basic ∷ []) One

apart-infeasible : EndsInfeasible (instance_of apart) apart_end (minus 1 ∷ int 1 ∷ []) (int 1 ∷ int 1 ∷ [])
unfolding closed
apart-infeasible = (
  refl,
  rests_by _ _ _ _ refl refl (refl, (refl, tt)) (refl, (refl, tt))
      (λ h. h.improves, (λ h. h.improves.lt, (λ h. h.improves.lt, (λ h. true≢false h.ends_differ, (λ h. h.improves, tt))))),
  λ h. true≢false (sym (ap (λ a. eq_ℚ a zero_ℚ) (h 1 (omega arith) (omega arith)))),
)

apart-outcome : HasOutcome (instance_of apart) (Swap 0 0 side.Lower ∷ []) (infeasible (minus 1 ∷ int 1 ∷ []))
unfolding closed
apart-outcome =
    let limit : Limit = record { ratio = int 1; column = 1; entry = Swap 0 0 side.Lower } in (
      apart_end,
      (
        steps_by _ _ (int 0 ∷ int 1 ∷ []) (int 1 ∷ int 2 ∷ []) (int 1 ∷ int 1 ∷ []) 0 limit
            (pivoting_by _ _ _ _ _ _ refl refl refl (refl, (refl, tt)) (refl, (refl, tt)) (refl, (refl, tt)) (record { in_range = omega arith; ends_differ = refl; improves = record { lt = tt } }) tt)
            (leaves_by _ _ _ _ _ _ _ (inl (0, omega arith, refl)) (inr (refl, omega arith), (inl (record { lt = tt }), tt)) tt),
        refl,
      ),
      (int 1 ∷ int 1 ∷ [], apart-infeasible),
    )

apart-farkas : Farkas apart (minus 1 ∷ int 1 ∷ [])
unfolding closed
apart-farkas = record { one_each = refl; columns_finite = each 1 _ (refl, tt); logicals_finite = each 2 _ (refl, (refl, tt)); gap = record { lt = tt } }

-- ── a row without columns: N COST, E R1 | RHS R1 1 ──

abbrev bare : Deck
bare = deck_of (row_of E (int 1) None ∷ []) []

bare-outcome : HasOutcome (instance_of bare) [] (infeasible (int 1 ∷ []))
unfolding closed
bare-outcome = (
  state_of (1 ∷ []) (status.Upper ∷ status.Basic ∷ []) One,
  refl,
  (
    int 1 ∷ [],
    (
      refl,
      rests_by _ _ _ _ refl refl (refl, tt) (refl, tt) (λ h. true≢false h.ends_differ, (λ h. h.improves, tt)),
      λ h. true≢false (sym (ap (λ a. eq_ℚ a zero_ℚ) (h 0 (omega arith) (omega arith)))),
    ),
  ),
)

bare-farkas : Farkas bare (int 1 ∷ [])
unfolding closed
bare-farkas = record { one_each = refl; columns_finite = each 0 _ tt; logicals_finite = each 1 _ (refl, tt); gap = record { lt = tt } }

-- ── a step without end: N COST, L R1 | X: COST -1, R1 1; Y: R1 -1 ──

abbrev endless : Deck
endless = deck_of (row_of L (int 0) None ∷ []) (column_of (minus 1) ((0, int 1) ∷ []) nonnegative ∷ column_of (int 0) ((0, minus 1) ∷ []) nonnegative ∷ [])

abbrev endless_end : State
endless_end = state_of (0 ∷ []) (status.Basic ∷ status.Lower ∷ status.Lower ∷ status.Lower ∷ []) Two

endless-free : EndsFree (instance_of endless) endless_end (minus 1 ∷ []) (int 0 ∷ []) (minus 1 ∷ []) 1
unfolding closed
endless-free = (
  pivoting_by _ _ _ _ _ _ refl refl refl (refl, tt) (refl, tt) (refl, tt) (record { in_range = omega arith; ends_differ = refl; improves = record { lt = tt } }) (λ h. h.improves, tt),
  free_by (instance_of endless) endless_end 1 (int 1) (int 0 ∷ []) (minus 1 ∷ []) (tt, tt) tt,
)

endless-outcome : HasOutcome (instance_of endless) (Swap 0 0 side.Lower ∷ []) (unbounded (int 0 ∷ int 0 ∷ []) (int 1 ∷ int 1 ∷ []))
unfolding closed
endless-outcome =
    let limit : Limit = record { ratio = int 0; column = 2; entry = Swap 0 0 side.Lower } in (
      endless_end,
      (
        steps_by _ _ (int 0 ∷ []) (int 0 ∷ []) (int 1 ∷ []) 0 limit
            (pivoting_by _ _ _ _ _ _ refl refl refl (refl, tt) (refl, tt) (refl, tt) (record { in_range = omega arith; ends_differ = refl; improves = record { lt = tt } }) tt)
            (leaves_by _ _ _ _ _ _ _ (inl (0, omega arith, refl)) (inr (refl, omega arith), tt) tt),
        refl,
      ),
      (minus 1 ∷ [], int 0 ∷ [], minus 1 ∷ [], 1, endless-free, refl, refl),
    )

endless-ray : Ray endless (int 0 ∷ int 0 ∷ []) (int 1 ∷ int 1 ∷ [])
unfolding closed
endless-ray = record {
  feasible = record { one_each = refl; columns_within = each 2 _ ((record { le = tt }, tt), ((record { le = tt }, tt), tt)); rows_within = each 1 _ ((tt, record { le = tt }), tt) };
  one_each = refl;
  column_rises = each 2 _ (λ _. refl, (λ _. refl, tt));
  column_falls = each 2 _ (λ h. absurd h.lt, (λ h. absurd h.lt, tt));
  row_rises = each 1 _ (λ h. absurd h.lt, tt);
  row_falls = each 1 _ (λ h. absurd h.lt, tt);
  cost_falls = record { lt = tt };
}

-- ── down from an upper end without end: N COST, L R1 | X: COST 1, R1 1 | RHS R1 10 | BND UP X -2 ──

abbrev downward : Deck
downward = deck_of (row_of L (int 10) None ∷ []) (column_of (int 1) ((0, int 1) ∷ []) (record { lower = None; upper = Some (minus 2) }) ∷ [])

abbrev downward_start : State
downward_start = state_of (1 ∷ []) (status.Upper ∷ status.Basic ∷ status.Lower ∷ []) Two

downward-outcome : HasOutcome (instance_of downward) [] (unbounded (minus 2 ∷ []) (minus 1 ∷ []))
unfolding closed
downward-outcome = (
  downward_start,
  refl,
  (
    int 0 ∷ [],
    int 12 ∷ [],
    int 1 ∷ [],
    0,
    (
      pivoting_by _ _ _ _ _ _ refl refl refl (refl, tt) (refl, tt) (refl, tt) (record { in_range = omega arith; ends_differ = refl; improves = record { lt = tt } }) tt,
      free_by (instance_of downward) downward_start 0 (minus 1) (int 12 ∷ []) (int 1 ∷ []) (tt, tt) tt,
    ),
    refl,
    refl,
  ),
)

-- ── a free column, which drives the other to its upper end: N COST, G R1 | X: COST 1, R1 1 | RHS R1 -3 | BND FR X ──

abbrev free : Deck
free = deck_of (row_of G (minus 3) None ∷ []) (column_of (int 1) ((0, int 1) ∷ []) (record { lower = None; upper = None }) ∷ [])

free-outcome : HasOutcome (instance_of free) (Swap 0 0 side.Upper ∷ []) (optimal (minus 3 ∷ []) (int 1 ∷ []) (minus 3))
unfolding closed
free-outcome =
    let limit : Limit = record { ratio = int 3; column = 1; entry = Swap 0 0 side.Upper } in (
      state_of (0 ∷ []) (status.Basic ∷ status.Upper ∷ status.Lower ∷ []) Two,
      (
        steps_by _ _ (int 0 ∷ []) (minus 3 ∷ []) (int 1 ∷ []) 0 limit
            (pivoting_by _ _ _ _ _ _ refl refl refl (refl, tt) (refl, tt) (refl, tt)
            (record { in_range = omega arith; ends_differ = refl; improves = λ e. true≢false (sym (ap (λ a. eq_ℚ a zero_ℚ) e)) }) tt)
            (leaves_by _ _ _ _ _ _ _ (inl (0, omega arith, refl)) (inr (refl, omega arith), tt) tt),
        refl,
      ),
      (int 1 ∷ [], minus 3 ∷ [], (refl, rests_by _ _ _ _ refl refl (refl, tt) (refl, tt) (λ h. h.improves, (λ h. h.improves.lt, (λ h. true≢false h.ends_differ, tt)))), refl, refl, refl),
    )

-- ── a flip, and all that is listed: N COST, L R1 | X: COST -1, R1 1 | RHS R1 10 | BND UP X 5 ──

abbrev bounded : Deck
bounded = deck_of (row_of L (int 10) None ∷ []) (column_of (minus 1) ((0, int 1) ∷ []) (between (int 0) (int 5)) ∷ [])

abbrev bounded_start : State
bounded_start = state_of (1 ∷ []) (status.Lower ∷ status.Basic ∷ status.Lower ∷ []) Two

abbrev bounded_limit : Limit
bounded_limit = record { ratio = int 5; column = 0; entry = Flip 0 }

bounded-pivoting : Pivoting (instance_of bounded) bounded_start (int 0 ∷ []) (int 10 ∷ []) (int 1 ∷ []) 0
unfolding closed
bounded-pivoting = pivoting_by _ _ _ _ _ _ refl refl refl (refl, tt) (refl, tt) (refl, tt) (record { in_range = omega arith; ends_differ = refl; improves = record { lt = tt } }) tt

bounded-leaves : Leaves (instance_of bounded) bounded_start 0 (int 1) (int 10 ∷ []) (int 1 ∷ []) bounded_limit
unfolding closed
bounded-leaves = leaves_by _ _ _ _ _ _ _ (inr refl) (inl (record { lt = tt }), tt) (inr (refl, omega arith))

abbrev bounded_end : State
bounded_end = state_of (1 ∷ []) (status.Upper ∷ status.Basic ∷ status.Lower ∷ []) Two

bounded-optimal : EndsOptimal (instance_of bounded) bounded_end (int 0 ∷ []) (int 5 ∷ [])
unfolding closed
bounded-optimal = (refl, rests_by _ _ _ _ refl refl (refl, tt) (refl, tt) (λ h. h.improves.lt, (λ h. h.improves, (λ h. true≢false h.ends_differ, tt))))

bounded-outcome : HasOutcome (instance_of bounded) (Flip 0 ∷ []) (optimal (int 5 ∷ []) (int 0 ∷ []) (minus 5))
unfolding closed
bounded-outcome = (bounded_end, (steps_by _ _ _ _ _ _ bounded_limit bounded-pivoting bounded-leaves, refl), (int 0 ∷ [], int 5 ∷ [], bounded-optimal, refl, refl, refl))

abbrev bounded_made : List Listed
bounded_made =
    entry_item 0 0 0 (int 1) ∷ entry_item 0 0 1 (int 1) ∷ entry_item 0 0 2 (int 1) ∷ value_item 0 0 (int 10)
    ∷ cost_item 0 0 (minus 1) ∷ cost_item 0 1 (int 0) ∷ cost_item 0 2 (int 0) ∷ []

abbrev bounded_stepped : List Listed
bounded_stepped = ratio_item 0 0 (int 10) ∷ ratio_item 0 0 (int 10) ∷ (place 0 kind.Ratio None (Some 0), int 5) ∷ value_item 0 0 (int 5) ∷ value_item 0 0 (int 5) ∷ []

bounded-making : MakingLists (instance_of bounded) bounded_made
unfolding closed
bounded-making = (
  coefficient (instance_of bounded),
  int 10 ∷ [],
  table_by (instance_of bounded) bounded_start (coefficient (instance_of bounded))
      (all_same 1 3 (coefficient (instance_of bounded))),
  bounded-pivoting.values,
  refl,
)

bounded-lists : StepLists (instance_of bounded) 0 bounded_start bounded_stepped
unfolding closed
bounded-lists = inl (
  coefficient (instance_of bounded),
  record { prices = int 0 ∷ []; values = int 10 ∷ []; column = int 1 ∷ []; entering = 0; limit = bounded_limit; pivoting = bounded-pivoting; leaves = bounded-leaves },
  table_by (instance_of bounded) bounded_start (coefficient (instance_of bounded)) (all_same 1 3 (coefficient (instance_of bounded))),
  refl,
)

abbrev bounded_total : List Listed
bounded_total = total_item 1 0 (minus 5) ∷ total_item 1 0 (minus 5) ∷ []

bounded-end-lists : StepLists (instance_of bounded) 1 bounded_end bounded_total
unfolding closed
bounded-end-lists = inr (inr (inl (int 0 ∷ [], int 5 ∷ [], bounded-optimal, refl)))

-- ── a start in phase one: the rows L LIM1, G LIM2, E MYEQN, with two artificials ──

abbrev three : Deck
three = deck_of (row_of L (int 4) None ∷ row_of G (int 1) None ∷ row_of E (int 7) None ∷ [])
    (column_of (int 1) ((0, int 1) ∷ (1, int 1) ∷ []) (between (int 0) (int 4))
    ∷ column_of (int 4) ((0, int 1) ∷ (2, minus 1) ∷ []) (between (minus 1) (int 1))
    ∷ column_of (int 9) ((1, int 1) ∷ (2, int 1) ∷ []) nonnegative ∷ [])

three-start : start_of (instance_of three) ≡ state_of (3 ∷ 7 ∷ 8 ∷ [])
    (status.Lower ∷ status.Lower ∷ status.Lower ∷ status.Basic ∷ status.Upper ∷ status.Upper ∷ status.Lower ∷ status.Basic ∷ status.Basic ∷ []) One
unfolding closed
three-start = refl

three-passed : (instance_of three).passed ≡ None ∷ Some side.Upper ∷ Some side.Upper ∷ []
unfolding closed
three-passed = refl

three-values : Values (instance_of three) (start_of (instance_of three)) (int 5 ∷ int 1 ∷ int 6 ∷ [])
unfolding closed
three-values = record { one_each = refl; solves = each 3 _ (refl, (refl, (refl, tt))) }

three-start_sums : flat_map (start_sums (instance_of three)) (0 ∷ 1 ∷ 2 ∷ []) ≡
    start_item 0 (Some 1) (minus 1) ∷ start_item 0 (Some 1) (int 5) ∷ start_item 1 None (int 1)
    ∷ start_item 2 (Some 1) (int 1) ∷ start_item 2 (Some 1) (int 6) ∷ start_item 2 None (int 6) ∷ []
unfolding closed
three-start_sums = refl

-- ── the start sums of rows with ranges, where one column starts at 3 ──

abbrev ranges : Deck
ranges = deck_of (row_of L (int 1) None ∷ row_of L (int 4) (Some (minus 3)) ∷ row_of G (int 1) (Some (minus 2)) ∷ row_of E (int 5) (Some (int 2)) ∷ row_of E
    (int 2) (Some (minus 4)) ∷ row_of E (int 3) (Some (int 0)) ∷ [])
    (column_of (int 1) ((0, int 1) ∷ (1, int 1) ∷ (2, int 1) ∷ (3, int 1) ∷ (4, int 1) ∷ (5, int 1) ∷ []) (between (int 3) (int 4)) ∷ [])

ranges-start_sums : flat_map (start_sums (instance_of ranges)) (0 ∷ 1 ∷ 2 ∷ 3 ∷ 4 ∷ 5 ∷ []) ≡
    start_item 0 (Some 0) (int 3) ∷ start_item 0 (Some 0) (minus 2) ∷ start_item 0 None (minus 2)
    ∷ start_item 1 (Some 0) (int 3) ∷ start_item 1 (Some 0) (int 1) ∷ start_item 1 None (int 1)
    ∷ start_item 2 (Some 0) (int 3) ∷ start_item 2 (Some 0) (minus 2) ∷ start_item 2 None (int 3)
    ∷ start_item 3 (Some 0) (int 3) ∷ start_item 3 (Some 0) (int 2) ∷ start_item 3 None (int 2) ∷ start_item 3 None (int 7)
    ∷ start_item 4 (Some 0) (int 3) ∷ start_item 4 (Some 0) (minus 1) ∷ start_item 4 None (minus 1) ∷ start_item 4 None (minus 2)
    ∷ start_item 5 (Some 0) (int 3) ∷ start_item 5 (Some 0) (int 0) ∷ []
unfolding closed
ranges-start_sums = refl

ranges-start : start_of (instance_of ranges) ≡ state_of (7 ∷ 2 ∷ 3 ∷ 10 ∷ 11 ∷ 6 ∷ [])
    (status.Lower ∷ status.Lower ∷ status.Basic ∷ status.Basic ∷ status.Upper ∷ status.Lower ∷ status.Basic
    ∷ status.Basic ∷ status.Lower ∷ status.Lower ∷ status.Basic ∷ status.Basic ∷ status.Lower ∷ []) One
unfolding closed
ranges-start = refl

ranges-passed : (instance_of ranges).passed ≡ Some side.Lower ∷ None ∷ None ∷ Some side.Upper ∷ Some side.Lower ∷ None ∷ []
unfolding closed
ranges-passed = refl

ranges-sums : (instance_of ranges).range_sums ≡ None ∷ Some (int 1) ∷ Some (int 3) ∷ Some (int 7) ∷ Some (minus 2) ∷ None ∷ []
unfolding closed
ranges-sums = refl

ranges-logicals : (instance_of ranges).logicals ≡ nonnegative ∷ between (int 0) (int 3) ∷ between (minus 2) (int 0) ∷ between (minus 2) (int 0) ∷ between (int 0) (int 4) ∷ between (int 0) (int 0) ∷ []
unfolding closed
ranges-logicals = refl

ranges-intervals : map activity_interval ranges.rows ≡ record { lower = None; upper = Some (int 1) } ∷ between (int 1) (int 4) ∷ between (int 1)
    (int 3) ∷ between (int 5) (int 7) ∷ between (minus 2) (int 2) ∷ between (int 3) (int 3) ∷ []
unfolding closed
ranges-intervals = refl

-- ── narrow arithmetic: N COST, L R1, L R2 | X: COST -3, R1 1, R2 -1; Z: COST -3, R2 1; W: COST -14, R1 5, R2 -4 | RHS R1 1, R2 1 ──

abbrev narrow : Deck
narrow = deck_of (row_of L (int 1) None ∷ row_of L (int 1) None ∷ [])
    (column_of (minus 3) ((0, int 1) ∷ (1, minus 1) ∷ []) nonnegative
    ∷ column_of (minus 3) ((1, int 1) ∷ []) nonnegative
    ∷ column_of (minus 14) ((0, int 5) ∷ (1, minus 4) ∷ []) nonnegative ∷ [])

abbrev narrow_start : State
narrow_start = state_of (3 ∷ 4 ∷ []) (status.Lower ∷ status.Lower ∷ status.Lower ∷ status.Basic ∷ status.Basic ∷ status.Lower ∷ status.Lower ∷ []) Two

abbrev narrow_limit : Limit
narrow_limit = record { ratio = int 1; column = 3; entry = Swap 0 0 side.Lower }

narrow-pivoting : Pivoting (instance_of narrow) narrow_start (int 0 ∷ int 0 ∷ []) (int 1 ∷ int 1 ∷ []) (int 1 ∷ minus 1 ∷ []) 0
unfolding closed
narrow-pivoting = pivoting_by _ _ _ _ _ _ refl refl refl (refl, (refl, tt)) (refl, (refl, tt)) (refl, (refl, tt))
    (record { in_range = omega arith; ends_differ = refl; improves = record { lt = tt } }) tt

narrow-leaves : Leaves (instance_of narrow) narrow_start 0 (int 1) (int 1 ∷ int 1 ∷ []) (int 1 ∷ minus 1 ∷ []) narrow_limit
unfolding closed
narrow-leaves = leaves_by _ _ _ _ _ _ _ (inl (0, omega arith, refl)) (inr (refl, omega arith), (tt, tt)) tt

abbrev narrow_made : List Listed
narrow_made = table_listing (instance_of narrow) narrow_start (coefficient (instance_of narrow)) (int 1 ∷ int 1 ∷ [])

abbrev narrow_stepped : List Listed
narrow_stepped =
    ratio_listing (instance_of narrow) 0 narrow_start 0 (int 1) (int 1 ∷ int 1 ∷ []) (int 1 ∷ minus 1 ∷ [])
    ++ move_listing (instance_of narrow) 0 narrow_start (coefficient (instance_of narrow)) (int 1 ∷ int 1 ∷ []) (int 1 ∷ minus 1 ∷ [])
    (reduced (instance_of narrow) narrow_start (int 0 ∷ int 0 ∷ [])) 0 (int 1) (int 1) (Swap 0 0 side.Lower)

narrow-making : MakingLists (instance_of narrow) narrow_made
unfolding closed
narrow-making = (
  coefficient (instance_of narrow),
  int 1 ∷ int 1 ∷ [],
  table_by (instance_of narrow) narrow_start (coefficient (instance_of narrow))
      (all_same 2 7 (coefficient (instance_of narrow))),
  narrow-pivoting.values,
  refl,
)

narrow-lists : StepLists (instance_of narrow) 0 narrow_start narrow_stepped
unfolding closed
narrow-lists = inl (
  coefficient (instance_of narrow),
  record { prices = int 0 ∷ int 0 ∷ []; values = int 1 ∷ int 1 ∷ []; column = int 1 ∷ minus 1 ∷ []; entering = 0; limit = narrow_limit; pivoting = narrow-pivoting; leaves = narrow-leaves },
  table_by (instance_of narrow) narrow_start (coefficient (instance_of narrow)) (all_same 2 7 (coefficient (instance_of narrow))),
  refl,
)

-- at width 3 the cost of W is the first that does not fit; at width 4 all of number 0 fits
narrow-first_unfit : first_unfit 3 (narrow_made ++ narrow_stepped) ≡ Some (place 0 kind.Cost None (Some 2))
unfolding closed
narrow-first_unfit = refl

narrow-fit : AllFit 4 (narrow_made ++ narrow_stepped)
unfolding closed
narrow-fit = refl

abbrev narrow_mid : State
narrow_mid = state_of (0 ∷ 4 ∷ []) (status.Basic ∷ status.Lower ∷ status.Lower ∷ status.Lower ∷ status.Basic ∷ status.Lower ∷ status.Lower ∷ []) Two

abbrev narrow_mid_limit : Limit
narrow_mid_limit = record { ratio = int 2; column = 4; entry = Swap 1 1 side.Lower }

narrow-mid-pivoting : Pivoting (instance_of narrow) narrow_mid (minus 3 ∷ int 0 ∷ []) (int 1 ∷ int 2 ∷ []) (int 0 ∷ int 1 ∷ []) 1
unfolding closed
narrow-mid-pivoting = pivoting_by _ _ _ _ _ _ refl refl refl (refl, (refl, tt)) (refl, (refl, tt)) (refl, (refl, tt))
    (record { in_range = omega arith; ends_differ = refl; improves = record { lt = tt } }) (λ h. h.improves, tt)

narrow-mid-leaves : Leaves (instance_of narrow) narrow_mid 1 (int 1) (int 1 ∷ int 2 ∷ []) (int 0 ∷ int 1 ∷ []) narrow_mid_limit
unfolding closed
narrow-mid-leaves = leaves_by _ _ _ _ _ _ _ (inl (1, omega arith, refl)) (tt, (inr (refl, omega arith), tt)) tt

-- the table of the two later states
abbrev narrow_table : ℕ → ℕ → ℚ
narrow_table zero j = at (int 1 ∷ int 0 ∷ int 5 ∷ int 1 ∷ int 0 ∷ int 1 ∷ int 0 ∷ []) j
narrow_table (suc p) j = at (int 0 ∷ int 1 ∷ int 1 ∷ int 1 ∷ int 1 ∷ int 1 ∷ int 1 ∷ []) j

abbrev narrow_second : List Listed
narrow_second = ratio_item 1 1 (int 2) ∷ ratio_item 1 1 (int 2)
    ∷ entry_item 1 1 0 (int 0) ∷ entry_item 1 1 1 (int 1) ∷ entry_item 1 1 2 (int 1) ∷ entry_item 1 1 3 (int 1) ∷ entry_item 1 1 4 (int 1) ∷ entry_item 1 1 5 (int 1) ∷ entry_item 1 1 6 (int 1)
    ∷ value_item 1 1 (int 2)
    ∷ cost_item 1 1 (minus 3) ∷ cost_item 1 1 (int 0) ∷ cost_item 1 2 (minus 3) ∷ cost_item 1 2 (int 4) ∷ cost_item 1 3 (minus 3) ∷ cost_item 1 3 (int 6)
    ∷ cost_item 1 4 (minus 3) ∷ cost_item 1 4 (int 3) ∷ cost_item 1 5 (minus 3) ∷ cost_item 1 5 (int 6) ∷ cost_item 1 6 (minus 3) ∷ cost_item 1 6 (int 3) ∷ []

narrow-second : StepLists (instance_of narrow) 1 narrow_mid narrow_second
unfolding closed
narrow-second = inl (
  narrow_table,
  record {
    prices = minus 3 ∷ int 0 ∷ [];
    values = int 1 ∷ int 2 ∷ [];
    column = int 0 ∷ int 1 ∷ [];
    entering = 1;
    limit = narrow_mid_limit;
    pivoting =
        narrow-mid-pivoting;
    leaves = narrow-mid-leaves;
  },
  table_by (instance_of narrow) narrow_mid narrow_table (all_same 2 7 (coefficient (instance_of narrow))),
  refl,
)

abbrev narrow_end : State
narrow_end = state_of (0 ∷ 1 ∷ []) (status.Basic ∷ status.Basic ∷ status.Lower ∷ status.Lower ∷ status.Lower ∷ status.Lower ∷ status.Lower ∷ []) Two

narrow-outcome : HasOutcome (instance_of narrow) (Swap 0 0 side.Lower ∷ Swap 1 1 side.Lower ∷ []) (optimal (int 1 ∷ int 2 ∷ int 0 ∷ []) (minus 6 ∷ minus 3 ∷ []) (minus 9))
unfolding closed
narrow-outcome = (
  narrow_end,
  (steps_by _ _ _ _ _ _ narrow_limit narrow-pivoting narrow-leaves, (steps_by _ _ _ _ _ _ narrow_mid_limit narrow-mid-pivoting narrow-mid-leaves, refl)),
  (
    minus 6 ∷ minus 3 ∷ [],
    int 1 ∷ int 2 ∷ [],
    (
      refl,
      rests_by _ _ _ _ refl refl (refl, (refl, tt)) (refl, (refl, tt))
          (λ h. h.improves, (λ h. h.improves, (λ h. h.improves.lt, (λ h. h.improves.lt, (λ h. h.improves.lt, (λ h. true≢false h.ends_differ, (λ h. true≢false h.ends_differ, tt))))))),
    ),
    refl,
    refl,
    refl,
  ),
)

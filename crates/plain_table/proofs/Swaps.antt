-- What a swap works is what the listing of a move has.
use Rattle.std.proofs.Common.{◌≡◌, ℕ, ◌<◌, ◌≤◌, List, [], ◌∷◌, ◌++◌, map, length, get_or, flat_map, Bool, true, false, ◌||◌, cond, eqb, ne_eqb, Some, None, refl, sym, ◌∙◌, ap, ap₂, subst, arith}
use Rattle.std.proofs.lemmas.List.{get_or-map, length-map}
use Rattle.std.proofs.lemmas.Bool.{eqb-true}
use Rattle.lp_model.specs.declared.Entry.TheVariants.{Swap}
use Rattle.lp_model.specs.declared.Kind.TheVariants as kind
use Rattle.lp_model.specs.declared.Side.{Side}
use Rattle.rational.specs.Rational.{ℚ, zero_ℚ, one_ℚ, neg_ℚ, ◌+ℚ◌, ◌-ℚ◌, ◌*ℚ◌, ◌/ℚ◌, eq_ℚ, lt_ℚ}
use Rattle.rational.specs.Sparse.{upto}
use Rattle.rational.specs.Sum.{at}
use Rattle.rational.specs.Worked.{less, more, placed, work}
use Rattle.lp_run.specs.Instance.{Instance, column_count, row_count}
use Rattle.lp_run.specs.Listing.{entered, move_listing, pivot_listing, pivot_row, place, value_listing}
use Rattle.lp_run.specs.State.{State, rest}
use Rattle.lp_run.specs.Tableau.{pivoted, repriced}
use Rattle.plain_table.specs.Inner.Lines.{less_listing, quotients_listing}
use Rattle.plain_table.specs.Inner.Pivots.{quotients, swap_listing}
use Rattle.plain_table.specs.Inner.Rows.{AreWide, row_listing, rows_listing}
use Rattle.plain_table.specs.Inner.Values.{entered_by, moved, value_work, values_listing}
use Rattle.plain_table.proofs.Eliminations.{rows_from_first}
use Rattle.plain_table.proofs.Parts.{same_parts}

-- -1 where a column falls, else 1
abbrev pub turned_by : Bool → ℚ
turned_by down = cond down (neg_ℚ one_ℚ) one_ℚ

falls : (down : Bool) → lt_ℚ (turned_by down) zero_ℚ ≡ down
unfolding lt_ℚ neg_ℚ one_ℚ zero_ℚ
falls true = refl
falls false = refl

-- a value after the step
pub value_same : (k i : ℕ) (down : Bool) (ratio x a : ℚ)
    → placed (place k kind.Value (Some i) None) (moved down x a ratio) ≡ placed (place k kind.Value (Some i) None) (cond (lt_ℚ (turned_by down) zero_ℚ) (more x a ratio) (less x a ratio))
value_same k i down ratio x a = ap (λ t. placed (place k kind.Value (Some i) None) (cond t (more x a ratio) (less x a ratio))) (sym (falls down))

entered_same : (down : Bool) (v ratio : ℚ) → entered_by down v ratio ≡ entered (turned_by down) v ratio
entered_same down v ratio = ap (λ t. cond t (v -ℚ ratio) (v +ℚ ratio)) (sym (falls down))

-- ── the basic values after a move of column q, which falls or rises by the ratio ──

module _ (m k p : ℕ) (down : Bool) (v ratio : ℚ) (values alpha : List ℚ) (each : length values ≡ m) where
  -- where it takes a position
  pub swapped_lists : values_listing k p down v ratio values alpha
      ≡ flat_map (λ i. cond (eqb i p) ((place k kind.Value (Some p) None, entered (turned_by down) v ratio) ∷ []) (value_listing k (turned_by down) ratio values alpha i)) (upto m)
  unfolding work
  swapped_lists =
      ap (λ n. flat_map (λ i. placed (place k kind.Value (Some i) None) (value_work (eqb i p) down v (at values i) (at alpha i) ratio)) (upto n)) each
      ∙ same_parts _ _ m (λ i b. by_test i (eqb i p) refl)
    where
      by_test : (i : ℕ) (t : Bool) → eqb i p ≡ t
          → placed (place k kind.Value (Some i) None) (value_work t down v (at values i) (at alpha i) ratio)
          ≡ cond t ((place k kind.Value (Some p) None, entered (turned_by down) v ratio) ∷ []) (value_listing k (turned_by down) ratio values alpha i)
      by_test i true e = ap₂ (λ i v. (place k kind.Value (Some i) None, v) ∷ []) (eqb-true i p e) (entered_same down v ratio)
      by_test i false e = value_same k i down ratio (at values i) (at alpha i)

  -- where it takes none
  pub flipped_lists : m ≤ p → values_listing k p down v ratio values alpha ≡ flat_map (value_listing k (turned_by down) ratio values alpha) (upto m)
  flipped_lists past =
      ap (λ n. flat_map (λ i. placed (place k kind.Value (Some i) None) (value_work (eqb i p) down v (at values i) (at alpha i) ratio)) (upto n)) each
      ∙ same_parts _ _ m (λ i b. ap (λ o. placed (place k kind.Value (Some i) None) (value_work o down v (at values i) (at alpha i) ratio)) (ne_eqb i p (omega arith))
      ∙ value_same k i down ratio (at values i) (at alpha i))

module _ (inst : Instance) (s : State) (k q p : ℕ) (down : Bool) (ratio : ℚ) (rows : List (List ℚ)) (values costs alpha : List ℚ)
    (positions : length rows ≡ row_count inst) (wide : AreWide (column_count inst) rows) (each : length values ≡ row_count inst) (all : length costs ≡ column_count inst) (below : p < length rows)
    (d : ℕ → ℚ) (shown : (j : ℕ) → j < column_count inst → at costs j ≡ d j) (entering : q < column_count inst) where
  abbrev table : ℕ → ℕ → ℚ
  table i j = at (get_or rows i []) j

  abbrev by : List ℚ
  by = quotients (get_or rows p []) (at (get_or rows p []) q)

  -- the pivot row
  by_row : (j : ℕ) → j < column_count inst → at by j ≡ pivot_row table p q j
  by_row j b = get_or-map (λ x. x /ℚ at (get_or rows p []) q) (get_or rows p []) j zero_ℚ zero_ℚ (subst (λ n. j < n) (sym (wide p below)) b)

  -- a line less a multiple of the pivot row
  line_same : (i : ℕ) → i < length rows
      → less_listing (place k kind.Entry (Some i) None) (get_or rows i []) (at (get_or rows i []) q) by
      ≡ flat_map (λ j. placed (place k kind.Entry (Some i) (Some j)) (less (table i j) (table i q) (pivot_row table p q j))) (upto (column_count inst))
  line_same i b =
      ap (λ n. flat_map (λ j. placed (place k kind.Entry (Some i) (Some j)) (less (at (get_or rows i []) j) (at (get_or rows i []) q) (at by j))) (upto n)) (wide i b)
      ∙ same_parts _ _ (column_count inst) (λ j in_range. ap (λ y. placed (place k kind.Entry (Some i) (Some j)) (less (at (get_or rows i []) j) (at (get_or rows i []) q) y)) (by_row j in_range))

  rows_same : quotients_listing (place k kind.Entry (Some p) None) (get_or rows p []) (at (get_or rows p []) q) ++ rows_listing k p 0 q by rows ≡ pivot_listing inst k table p q
  rows_same =
      ap₂ (λ xs ys. xs ++ ys)
      (ap (λ n. map (λ j. (place k kind.Entry (Some p) (Some j), at (get_or rows p []) j /ℚ at (get_or rows p []) q)) (upto n)) (wide p below))
      (rows_from_first k p q by rows
      ∙ ap (λ n. flat_map (λ i. row_listing k (eqb i p) i q by (get_or rows i [])) (upto n)) positions
      ∙ same_parts _ _ (row_count inst) (λ i b. ap (λ xs. cond (eqb i p || eq_ℚ (at (get_or rows i []) q) zero_ℚ) [] xs) (line_same i (subst (λ n. i < n) (sym positions) b))))

  values_same : values_listing k p down (rest inst s q) ratio values alpha
      ≡ flat_map (λ i. cond (eqb i p) ((place k kind.Value (Some p) None, entered (turned_by down) (rest inst s q) ratio) ∷ [])
      (value_listing k (turned_by down) ratio values alpha i)) (upto (row_count inst))
  values_same = swapped_lists (row_count inst) k p down (rest inst s q) ratio values alpha each

  costs_same : less_listing (place k kind.Cost None None) costs (at costs q) by ≡ flat_map
      (λ j. placed (place k kind.Cost None (Some j)) (less (d j) (d q) (pivot_row table p q j))) (upto (column_count inst))
  costs_same =
      ap (λ n. flat_map (λ j. placed (place k kind.Cost None (Some j)) (less (at costs j) (at costs q) (at by j))) (upto n)) all
      ∙ same_parts _ _ (column_count inst) (λ j b. ap (λ y. placed (place k kind.Cost None (Some j)) (less (at costs j) (at costs q) y)) (by_row j b)
      ∙ ap₂ (λ x f. placed (place k kind.Cost None (Some j)) (less x f (pivot_row table p q j))) (shown j b) (shown q entering))

  pub swap_lists : (end : Side) → swap_listing (record { number = k; position = p; column = q; down = down; rest = rest inst s q; ratio = ratio }) alpha rows values costs
      ≡ move_listing inst k s (λ i j. at (get_or rows i []) j) values alpha d q (turned_by down) ratio (Swap q p end)
  swap_lists end = ap₂ (λ xs ys. xs ++ ys) (ap₂ (λ xs ys. xs ++ ys) rows_same values_same) costs_same

  -- the rows that are taken over are those of the table after the pivot
  pub entries_after : (new : List ℚ) (i j : ℕ) → j < column_count inst → ((j : ℕ) → j < length by
      → at new j ≡ cond (eqb i p) (at by j) (at (get_or rows i []) j -ℚ at (get_or rows i []) q *ℚ at by j)) → at new j ≡ pivoted table p q i j
  entries_after new i j b eliminated =
      eliminated j (subst (λ n. j < n) (sym (length-map (get_or rows p []) (λ x. x /ℚ at (get_or rows p []) q) ∙ wide p below)) b)
      ∙ ap (λ y. cond (eqb i p) y (at (get_or rows i []) j -ℚ at (get_or rows i []) q *ℚ y)) (by_row j b)

  -- and the reduced costs
  pub costs_after : (out : List ℚ) (j : ℕ) → j < column_count inst → ((j : ℕ) → j < length costs → at out j ≡ at costs j -ℚ at costs q *ℚ at by j) → at out j ≡ repriced table (at costs) p q j
  costs_after out j b less = less j (subst (λ n. j < n) (sym all) b) ∙ ap (λ y. at costs j -ℚ at costs q *ℚ y) (by_row j b)

-- What holds of a deck's parts, after a row or a column is added or changed.
use Rattle.std.proofs.Common.{◌≡◌, ℕ, ◌+◌, ◌^◌, ◌<◌, ◌≤◌, List, [], ◌∷◌, length, map, get_or, slice_get, false, Some, nat_eq, sym, ap, subst, arith}
use Rattle.std.specs.Cmp.Lexicographic.{pointwise}
use Rattle.std.specs.List.{All, AllByRecursion}
use Rattle.std.specs.Map.{values_of}
use Rattle.std.proofs.lemmas.List.{length-map}
use Rattle.std.proofs.lemmas.List.Elements.{All-set, All-get_or, All-from_recursion, recursion_from_All}
use Rattle.std.proofs.lemmas.Option.{get_or_from_slice_get, slice_get_within}
use Rattle.deck_model.specs.declared.deck.RowData.{RowData}
use Rattle.deck_model.specs.declared.deck.ColumnData.{ColumnData}
use Rattle.deck_model.specs.declared.deck.Deck.TheInside.{Inside}
use Rattle.deck_model.specs.Parts.{row_of, column_of, deck_of, FitsRows, IsSound}
use Rattle.deck_model.proofs.Count.{count_in, entry_count-count_of, count_of-set_value_at}
use Rattle.deck_model.proofs.Lists.{map-set_value_at, values_of-set_value_at}
use Rattle.indexmap.proofs.CallerLemmas.{keys-with_value_at, index_map_len-with_value_at}
use Rattle.indexmap.specs.IndexMap.{with_value_at}
use Rattle.lp_model.specs.Deck.{Column, Row, IsDeck, IsUncrossed, no_row, no_column}
use Rattle.rational.specs.Sparse.{IsSparse}
use Rattle.lp_model.specs.Edit.{change_row, change_column}

record FitsDeck (m : ℕ) (c : Column) : Type 0 where
  sparse : IsSparse m 0 c.entries
  uncrossed : IsUncrossed c.bounds

columns_fit : (m : ℕ) (es : List (List ℕ × ColumnData)) → AllByRecursion (FitsRows m) (values_of es) → AllByRecursion (FitsDeck m) (map column_of es)
columns_fit m [] fits = fits
columns_fit m (e ∷ es) fits = (record { sparse = fits.0.sparse; uncrossed = fits.0.uncrossed }, columns_fit m es fits.1)

module _ (a : Inside) (sound : IsSound a) where
  column_fits : (j : ℕ) → j < length (map column_of a.columns.entries) → FitsDeck (length a.rows.entries) (get_or (map column_of a.columns.entries) j no_column)
  column_fits j within =
      let m = length a.rows.entries in
      All-from_recursion (FitsDeck m) (map column_of a.columns.entries)
      (columns_fit m a.columns.entries (recursion_from_All (FitsRows m) (values_of a.columns.entries) sound.columns)) j no_column within

  -- such a deck's columns are sparse columns over its rows
  pub IsDeck-deck_of : IsDeck (deck_of a)
  IsDeck-deck_of = record {
    sparse = λ j within. subst (λ m. IsSparse m 0 (get_or (map column_of a.columns.entries) j no_column).entries) (sym (length-map a.rows.entries row_of)) (column_fits j within).sparse;
    uncrossed = λ j within. (column_fits j within).uncrossed;
  }

  pub column_at : (j : ℕ) (v : ColumnData) → slice_get (values_of a.columns.entries) j ≡ Some v → FitsRows (length a.rows.entries) v
  column_at j v at =
      subst (FitsRows (length a.rows.entries)) (get_or_from_slice_get (values_of a.columns.entries) j v v at)
      (All-get_or (FitsRows (length a.rows.entries)) (values_of a.columns.entries) j v (slice_get_within (values_of a.columns.entries) j v at) sound.columns)

  module _ (i : ℕ) (w : RowData) where
    pub row_changed : IsSound (record a { rows = with_value_at a.rows i w })
    row_changed =
        let long = index_map_len-with_value_at a.rows i w in
        record {
          columns = subst (λ m. All (FitsRows m) (values_of a.columns.entries)) (sym long) sound.columns;
          unnamed = subst (All (λ name. pointwise nat_eq a.objective name ≡ false)) (sym (keys-with_value_at a.rows i w)) sound.unnamed;
          few_rows = subst (λ m. m ≤ 65535) (sym long) sound.few_rows;
          few_columns = sound.few_columns;
          counted = sound.counted;
        }

  module _ (j : ℕ) (v w : ColumnData) (n : ℕ) (at : slice_get (values_of a.columns.entries) j ≡ Some v) where
    pub column_changed : FitsRows (length a.rows.entries) w → n + count_in v ≡ a.nonzeros + count_in w → IsSound (record a { columns = with_value_at a.columns j w; nonzeros = n })
    column_changed fits count =
        let m = length a.rows.entries in
        record {
          columns = subst (All (FitsRows m)) (sym (values_of-set_value_at a.columns.entries j w)) (All-set (FitsRows m) (values_of a.columns.entries) j w fits sound.columns);
          unnamed = sound.unnamed;
          few_rows = sound.few_rows;
          few_columns = subst (λ k. k ≤ 2 ^ 31) (sym (index_map_len-with_value_at a.columns j w)) sound.few_columns;
          counted = omega (
            arith,
            count,
            sound.counted,
            entry_count-count_of a.columns.entries,
            count_of-set_value_at a.columns.entries j v w at,
            entry_count-count_of (with_value_at a.columns j w).entries,
          );
        }

module _ (a : Inside) where
  pub deck_of-row_changed : (g : Row → Row) (i : ℕ) (v w : RowData) → slice_get (values_of a.rows.entries) i ≡ Some v
      → ((k : List ℕ) → row_of (k, w) ≡ g (row_of (k, v))) → deck_of (record a { rows = with_value_at a.rows i w }) ≡ change_row (deck_of a) i g
  deck_of-row_changed g i v w at same = ap (λ rs. record (deck_of a) { rows = rs }) (map-set_value_at row_of g a.rows.entries i v w no_row at same)

  pub deck_of-column_changed : (g : Column → Column) (j : ℕ) (v w : ColumnData) (n : ℕ) → slice_get (values_of a.columns.entries) j ≡ Some v
      → ((k : List ℕ) → column_of (k, w) ≡ g (column_of (k, v))) → deck_of (record a { columns = with_value_at a.columns j w; nonzeros = n }) ≡ change_column (deck_of a) j g
  deck_of-column_changed g j v w n at same = ap (λ cs. record (deck_of a) { columns = cs }) (map-set_value_at column_of g a.columns.entries j v w no_column at same)

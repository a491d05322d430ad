-- What holds of a deck's parts after a row or a column is added.
use Rattle.std.proofs.Common.{◌≡◌, ℕ, ◌+◌, ◌^◌, ◌<◌, false, List, [], ◌∷◌, ◌++◌, length, map, sum_by, Some, None, cond, pos, nat_eq, refl, sym, ap, ap₂, ◌∙◌, subst, arith, length-append}
use Rattle.std.specs.Cmp.Lexicographic.{pointwise}
use Rattle.std.specs.HashMap.{HashMap}
use Rattle.std.specs.List.{All}
use Rattle.std.specs.Map.{keys_of, values_of}
use Rattle.std.specs.declared.hash.BuildHasherDefault.{BuildHasherDefault}
use Rattle.std.specs.declared.hash.FoldHasher.{FoldHasher}
use Rattle.std.proofs.lemmas.List.Elements.{All-push}
use Rattle.std.proofs.lemmas.List.Sums.{sum_by_push}
use Rattle.std.proofs.lemmas.Map.Entries.{length-values_of}
use Rattle.deck_model.specs.declared.deck.RowData.{RowData}
use Rattle.deck_model.specs.declared.deck.ColumnData.{ColumnData}
use Rattle.deck_model.specs.declared.deck.Deck.TheInside.{Inside}
use Rattle.deck_model.specs.Parts.{row_of, column_of, deck_of, FitsRows, IsSound}
use Rattle.deck_model.proofs.Count.{count_in, entry_count-count_of}
use Rattle.deck_model.proofs.Lists.{map-push}
use Rattle.exact_frac.specs.Constants.{ratio-zero}
use Rattle.lp_model.specs.declared.RowKind.{RowKind}
use Rattle.rational.specs.Sparse.{IsSparse}
use Rattle.lp_model.specs.Deck.{no_row, no_column}
use Rattle.rational.specs.Rational.{ℚ, one_unless_zero, ratio, zero_ℚ}
use Rattle.rational.proofs.OrderLaws.{eq_ℚ-decides}
use Rattle.sparse_cols.specs.Sparse.{Sparse}

-- the data of a new row, and of a new column with these entries
abbrev pub new_row : RowKind → RowData
new_row kind = record { kind = kind; right = ratio (pos 0) 1; range = None }

abbrev pub new_column : Sparse ℚ → ColumnData
new_column entries = record { cost = ratio (pos 0) 1; entries = entries; lower = Some (ratio (pos 0) 1); upper = None }

pub row_of-new_row : (name : List ℕ) (kind : RowKind) → row_of (name, new_row kind) ≡ record no_row { name = name; kind = kind }
row_of-new_row name kind = ap (λ z. record { name = name; kind = kind; right = z; range = None }) ratio-zero

module _ (entries : Sparse ℚ) (m : ℕ) (none : entries ≡ record { length = m; pairs = [] }) where
  pub column_of-new_column : (name : List ℕ) → column_of (name, new_column entries) ≡ record no_column { name = name }
  column_of-new_column name =
      ap₂ (λ z ps. record { name = name; cost = z; entries = ps; bounds = record { lower = Some z; upper = None } }) ratio-zero (ap (λ (s : Sparse ℚ). s.pairs) none)

  pub FitsRows-new_column : FitsRows m (new_column entries)
  FitsRows-new_column = record {
    long = ap (λ (s : Sparse ℚ). s.length) none;
    sparse = subst (λ (s : Sparse ℚ). IsSparse m 0 s.pairs) (sym none) tt;
    uncrossed = λ l u lower upper. absurd (cc);
  }

  pub count_in-new_column : count_in (new_column entries) ≡ 0
  count_in-new_column =
      ap₂ (λ ps z. length ps + one_unless_zero z) (ap (λ (s : Sparse ℚ). s.pairs) none) ratio-zero
      ∙ ap (λ b. length {A = ℕ × ℚ} [] + cond b 0 1) ((eq_ℚ-decides zero_ℚ zero_ℚ).1 refl)

-- a map from names, as the deck has it
abbrev Named : Type 0 → Type 0
Named X = HashMap (List ℕ) X (BuildHasherDefault FoldHasher)

length-push : {X : Type 0} (xs : List X) (x : X) → length (xs ++ x ∷ []) ≡ length xs + 1
length-push xs x = length-append xs (x ∷ [])

module _ (a : Inside) (sound : IsSound a) where
  module _ (rows : Named RowData) (name : List ℕ) (v : RowData) (added : rows.entries ≡ a.rows.entries ++ (name, v) ∷ []) where
    pub row_added : length a.columns.entries ≡ 0 → length a.rows.entries < 65535 → pointwise nat_eq a.objective name ≡ false → IsSound (record a { rows = rows })
    row_added empty room apart =
        record {
          columns = λ k d within. absurd (omega (arith, length-values_of a.columns.entries));
          unnamed = subst (All (λ key. pointwise nat_eq a.objective key ≡ false)) (sym (ap keys_of added ∙ map-push (λ (e : List ℕ × RowData). e.0) a.rows.entries (name, v)))
              (All-push (λ key. pointwise nat_eq a.objective key ≡ false) (keys_of a.rows.entries) name sound.unnamed apart);
          few_rows = omega (arith, ap length added, length-push a.rows.entries (name, v));
          few_columns = sound.few_columns;
          counted = sound.counted;
        }

  module _ (columns : Named ColumnData) (name : List ℕ) (v : ColumnData) (added : columns.entries ≡ a.columns.entries ++ (name, v) ∷ []) where
    pub column_added : length a.columns.entries < 2 ^ 31 → FitsRows (length a.rows.entries) v → count_in v ≡ 0 → IsSound (record a { columns = columns })
    column_added room fits nothing =
        let values : values_of columns.entries ≡ values_of a.columns.entries ++ v ∷ [] = ap values_of added ∙ map-push (λ (e : List ℕ × ColumnData). e.1) a.columns.entries (name, v) in
        record {
          columns = subst (All (FitsRows (length a.rows.entries))) (sym values) (All-push (FitsRows (length a.rows.entries)) (values_of a.columns.entries) v sound.columns fits);
          unnamed = sound.unnamed;
          few_rows = sound.few_rows;
          few_columns = omega (arith, ap length added, length-push a.columns.entries (name, v));
          counted = omega (
            arith,
            sound.counted,
            entry_count-count_of a.columns.entries,
            entry_count-count_of columns.entries,
            ap (sum_by count_in) values,
            sum_by_push count_in (values_of a.columns.entries) v,
            nothing,
          );
        }

module _ (a : Inside) where
  pub deck_of-row_added : (rows : Named RowData) (name : List ℕ) (v : RowData) → rows.entries ≡ a.rows.entries ++ (name, v) ∷ []
      → deck_of (record a { rows = rows }) ≡ record (deck_of a) { rows = (deck_of a).rows ++ row_of (name, v) ∷ [] }
  deck_of-row_added rows name v added = ap (λ rs. record (deck_of a) { rows = rs }) (ap (map row_of) added ∙ map-push row_of a.rows.entries (name, v))

  pub deck_of-column_added : (columns : Named ColumnData) (name : List ℕ) (v : ColumnData) → columns.entries ≡ a.columns.entries ++ (name, v) ∷ []
      → deck_of (record a { columns = columns }) ≡ record (deck_of a) { columns = (deck_of a).columns ++ column_of (name, v) ∷ [] }
  deck_of-column_added columns name v added = ap (λ cs. record (deck_of a) { columns = cs }) (ap (map column_of) added ∙ map-push column_of a.columns.entries (name, v))

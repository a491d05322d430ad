-- What holds of a deck's parts after an entry is put into a column.
use Rattle.std.proofs.Common.{◌≡◌, ◌≢◌, ℕ, ◌+◌, ◌<◌, true, false, cond, length, map, slice_get, Some, Result, Ok, Err, refl, sym, ap, ◌∙◌, subst, arith}
use Rattle.std.specs.Map.{values_of}
use Rattle.std.specs.Result.{OnErr}
use Rattle.std.proofs.lemmas.List.{set-get_or}
use Rattle.deck_model.specs.declared.deck.ColumnData.{ColumnData}
use Rattle.deck_model.specs.declared.deck.Deck.TheInside.{Inside}
use Rattle.deck_model.specs.Parts.{column_of, deck_of, IsSound}
use Rattle.deck_model.proofs.Sound.{column_at, column_changed, deck_of-column_changed}
use Rattle.deck_model.proofs.Sparse.{length-insert_entry, sparse-insert_entry, insert_pair-insert_entry}
use Rattle.indexmap.specs.IndexMap.{with_value_at}
use Rattle.lp_model.specs.Deck.{Deck, no_column}
use Rattle.rational.specs.Sparse.{IsSparse}
use Rattle.lp_model.specs.Edit.{change_column, has_entry, insert_entry, with_entry}
use Rattle.rational.specs.Rational.{ℚ, eq_ℚ, zero_ℚ}
use Rattle.rational.proofs.OrderLaws.{eq_ℚ-other}
use Rattle.sparse_cols.specs.Sparse.{Sparse, with_pair}

module _ (a : Inside) (j : ℕ) (v : ColumnData) (at : slice_get (values_of a.columns.entries) j ≡ Some v) (entries : Sparse ℚ) where
  -- a is the same where the column's entries are
  module _ (same : entries ≡ v.entries) where
    pub IsSound-same : IsSound a → IsSound (record a { columns = with_value_at a.columns j (record v { entries = entries }) })
    IsSound-same sound =
        subst (λ e. IsSound (record a { columns = with_value_at a.columns j (record v { entries = e }) })) (sym same)
        (column_changed a sound j v v a.nonzeros at (column_at a sound j v at) refl)

    pub deck_of-same : deck_of (record a { columns = with_value_at a.columns j (record v { entries = entries }) }) ≡ deck_of a
    deck_of-same =
        ap (λ e. deck_of (record a { columns = with_value_at a.columns j (record v { entries = e }) })) same
        ∙ deck_of-column_changed a (λ c. c) j v v a.nonzeros at (λ k. refl)
        ∙ ap (λ cs. record (deck_of a) { columns = cs }) (set-get_or (map column_of a.columns.entries) j no_column)

  module _ (row : ℕ) (value : ℚ) (added : entries ≡ with_pair v.entries row value) (some : value ≢ zero_ℚ) where
    pub IsSound-inserted : IsSound a → row < length a.rows.entries → has_entry v.entries.pairs row ≡ false → IsSound (record a { columns = with_value_at a.columns j (record v { entries = entries }); nonzeros = a.nonzeros + 1 })
    IsSound-inserted sound within absent =
        let old = column_at a sound j v at in
        let m = length a.rows.entries in
        let pairs = ap (λ (s : Sparse ℚ). s.pairs) added ∙ insert_pair-insert_entry row value v.entries.pairs in
        column_changed a sound j v (record v { entries = entries }) (a.nonzeros + 1) at
        (record {
          long = ap (λ (s : Sparse ℚ). s.length) added ∙ old.long;
          sparse = subst (IsSparse m 0) (sym pairs) (sparse-insert_entry m row value within some 0 v.entries.pairs (omega arith) absent old.sparse);
          uncrossed = old.uncrossed;
        })
        (omega (arith, ap (λ ps. length ps) pairs, length-insert_entry row value v.entries.pairs))

    pub deck_of-inserted : deck_of (record a { columns = with_value_at a.columns j (record v { entries = entries }); nonzeros = a.nonzeros + 1 }) ≡ with_entry (deck_of a) j row value
    deck_of-inserted =
        let pairs = ap (λ (s : Sparse ℚ). s.pairs) added ∙ insert_pair-insert_entry row value v.entries.pairs in
        deck_of-column_changed a (λ c. record c { entries = insert_entry row value c.entries }) j v (record v { entries = entries }) (a.nonzeros + 1) at
        (λ k. ap (λ ps. record (column_of (k, v)) { entries = ps }) pairs)
        ∙ ap (λ b. cond b (deck_of a) (change_column (deck_of a) j (λ c. record c { entries = insert_entry row value c.entries }))) (sym (eq_ℚ-other value some))

-- a 0 is not kept
pub with_entry-zero : (d : Deck) (j i : ℕ) (v : ℚ) → eq_ℚ v zero_ℚ ≡ true → with_entry d j i v ≡ d
with_entry-zero d j i v nothing = ap (λ b. cond b d (change_column d j (λ c. record c { entries = insert_entry i v c.entries }))) nothing

pub on_err : {T E Q : Type 0} (r : Result T E) → Q → OnErr r Q
on_err (Ok x) q = tt
on_err (Err e) q = q

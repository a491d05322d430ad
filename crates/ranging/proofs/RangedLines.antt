-- The lines of ranges, one by one.
use Rattle.std.proofs.Common.{◌≡◌, ℕ, ◌<◌, List, [], length, get_or, sym, ap₂, ◌∙◌, arith}
use Rattle.std.proofs.lemmas.List.FromFn.{get_or-map-range_with_len, length-map-range_with_len}
use Rattle.lp_model.specs.Deck.{Interval}
use Rattle.plain_table.proofs.Lines.{item_read}
use Rattle.ranging.specs.Ranges.{everything}
use Rattle.ranging.specs.Text.{range_line, ranged_lines}

module _ (word : List ℕ) (ranges : List Interval) (names : List (List ℕ)) where
  pub length-ranged_lines : length (ranged_lines word ranges names) ≡ length names
  length-ranged_lines = length-map-range_with_len (λ j. range_line word (get_or ranges j everything) (get_or names j [])) 0 (length names)

  pub get_or-ranged_lines : (j : ℕ) (range : Interval) (name : List ℕ) → j < length names → j < length ranges → range ≡ get_or ranges j range → name ≡ get_or names j []
      → get_or (ranged_lines word ranges names) j [] ≡ range_line word range name
  get_or-ranged_lines j range name within also is same =
      get_or-map-range_with_len (λ j. range_line word (get_or ranges j everything) (get_or names j [])) 0 (length names) j j [] within (omega arith)
      ∙ ap₂ (range_line word) (sym (item_read ranges j range everything also is)) (sym same)

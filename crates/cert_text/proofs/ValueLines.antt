-- The lines of values, one by one.
use Rattle.std.proofs.Common.{◌≡◌, ℕ, ◌<◌, List, [], length, get_or, slice_get, Some, sym, ap₂, ◌∙◌, arith}
use Rattle.std.proofs.lemmas.List.FromFn.{get_or-map-range_with_len, length-map-range_with_len}
use Rattle.std.proofs.lemmas.Option.{get_or_from_slice_get}
use Rattle.rational.specs.Rational.{ℚ, zero_ℚ}
use Rattle.rational.specs.Sum.{at}
use Rattle.lp_text.specs.Report.{value_line, value_lines}

module _ (word : List ℕ) (values : List ℚ) (names : List (List ℕ)) where
  pub length-value_lines : length (value_lines word values names) ≡ length names
  length-value_lines = length-map-range_with_len (λ j. value_line word (at values j) (get_or names j [])) 0 (length names)

  pub get_or-value_lines : (j : ℕ) (v : ℚ) (name : List ℕ) → j < length names → slice_get values j ≡ Some v → name ≡ get_or names j []
      → get_or (value_lines word values names) j [] ≡ value_line word v name
  get_or-value_lines j v name within value same =
      get_or-map-range_with_len (λ j. value_line word (at values j) (get_or names j [])) 0 (length names) j j [] within (omega arith)
      ∙ ap₂ (value_line word) (get_or_from_slice_get values j v zero_ℚ value) (sym same)

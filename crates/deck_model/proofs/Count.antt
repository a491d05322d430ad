-- How many entries and costs are not 0: in one column, and after a column is changed.
use Rattle.std.proofs.Common.{◌≡◌, ℕ, ◌+◌, ◌*◌, ◌^◌, ◌≤◌, List, length, map, sum_by, set, slice_get, Some, sym, ap, ◌∙◌, arith}
use Rattle.std.specs.List.{All}
use Rattle.std.specs.Map.{values_of}
use Rattle.std.proofs.lemmas.List.Elements.{All-weaker}
use Rattle.std.proofs.lemmas.List.Sums.{sum_by-set, sum_by-le, sum_by_more_le}
use Rattle.std.proofs.lemmas.Map.Entries.{length-values_of}
use Rattle.std.proofs.lemmas.Option.{get_or_from_slice_get, slice_get_within}
use Rattle.deck_model.specs.declared.deck.ColumnData.{ColumnData}
use Rattle.deck_model.specs.Parts.{column_of, FitsRows}
use Rattle.deck_model.proofs.Lists.{sum_by-map, values_of-set_value_at}
use Rattle.indexmap.specs.IndexMap.{set_value_at}
use Rattle.lp_model.specs.Deck.{Column}
use Rattle.rational.specs.Rational.{one_unless_zero}
use Rattle.rational.proofs.OrderLaws.{one_unless_zero-le}
use Rattle.rational.proofs.SparseLaws.{length-le-sparse}

abbrev pub count_in : ColumnData → ℕ
count_in c = length c.entries.pairs + one_unless_zero c.cost

abbrev pub count_of : List (List ℕ × ColumnData) → ℕ
count_of es = sum_by count_in (values_of es)

pub entry_count-count_of : (es : List (List ℕ × ColumnData)) → sum_by (λ (c : Column). length c.entries + one_unless_zero c.cost) (map column_of es) ≡ count_of es
entry_count-count_of es = sum_by-map column_of (λ (c : Column). length c.entries + one_unless_zero c.cost) es ∙ sym (sum_by-map (λ (e : List ℕ × ColumnData). e.1) count_in es)

-- the value v at j is replaced by w
pub count_of-set_value_at : (es : List (List ℕ × ColumnData)) (j : ℕ) (v w : ColumnData) → slice_get (values_of es) j ≡ Some v → count_of (set_value_at es j w) + count_in v ≡ count_of es + count_in w
count_of-set_value_at es j v w at =
    ap (λ vs. sum_by count_in vs + count_in v) (values_of-set_value_at es j w)
    ∙ ap (λ c. sum_by count_in (set (values_of es) j w) + count_in c) (sym (get_or_from_slice_get (values_of es) j v v at))
    ∙ sum_by-set count_in (values_of es) j w v (slice_get_within (values_of es) j v at)

pub count_in-le-count_of : (es : List (List ℕ × ColumnData)) (j : ℕ) (v : ColumnData) → slice_get (values_of es) j ≡ Some v → count_in v ≤ count_of es
count_in-le-count_of es j v at =
    let most = sum_by_more_le count_in (values_of es) j v (slice_get_within (values_of es) j v at) in
    omega (arith, most, ap count_in (get_or_from_slice_get (values_of es) j v v at))

count_in-le : (m : ℕ) (c : ColumnData) → FitsRows m c → count_in c ≤ m + 1
count_in-le m c fits = omega (arith, length-le-sparse m c.entries.pairs fits.sparse, one_unless_zero-le c.cost)

-- the count is far below what a machine word holds
pub count_of-le : (es : List (List ℕ × ColumnData)) (m : ℕ) → All (FitsRows m) (values_of es) → m ≤ 65535 → length es ≤ 2 ^ 31 → count_of es ≤ 2 ^ 31 * 65536
count_of-le es m fits few_rows few_columns =
    let each : All (λ c. count_in c ≤ 65536) (values_of es) = All-weaker (FitsRows m) (λ c. count_in c ≤ 65536) (λ c f. omega (arith, count_in-le m c f)) (values_of es) fits in
    omega (arith, sum_by-le count_in 65536 (values_of es) each, length-values_of es)

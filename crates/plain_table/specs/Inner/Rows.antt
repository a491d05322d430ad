-- What is listed where the rows of a table are worked, and what becomes of them.
use Rattle.std.specs.Prelude.{◌≡◌, ◌≢◌, ℕ, ◌+◌, ◌<◌, List, [], length, get_or, Some, None, Bool, true, false, ◌||◌, ◌==◌, if◌then◌else◌}
use Rattle.std.specs.List.{flat_map}
use Rattle.lp_model.specs.declared.Kind.TheVariants as kind
use Rattle.rational.specs.Rational.{ℚ, zero_ℚ, ◌-ℚ◌, ◌*ℚ◌, eq_ℚ}
use Rattle.rational.specs.Sparse.{upto}
use Rattle.rational.specs.Sum.{at}
use Rattle.lp_run.specs.Listing.{Listed, place}
use Rattle.plain_table.specs.Inner.Lines.{IsUnpacked, less_listing}

-- what a row lists where column q is taken out of it by the pivot row, which is not its own: nothing where it has no entry there
abbrev pub row_listing : ℕ → Bool → ℕ → ℕ → List ℚ → List ℚ → List Listed
row_listing k own i q by row = if own || eq_ℚ (at row q) zero_ℚ then [] else less_listing (place k kind.Entry (Some i) None) row (at row q) by

-- what the rows list, the first of which stands in position `base`
abbrev pub rows_listing : ℕ → ℕ → ℕ → ℕ → List ℚ → List (List ℚ) → List Listed
rows_listing k p base q by rows = flat_map (λ i. row_listing k (i + base == p) (i + base) q by (get_or rows i [])) (upto (length rows))

-- the pivot's own row becomes `by`, another loses its entry of column q times `by`
abbrev pub IsEliminated : Bool → ℕ → List ℚ → List ℚ → List ℚ → Type 0
IsEliminated own q by row new = (j : ℕ) → j < length by → at new j ≡ (if own then at by j else at row j -ℚ at row q *ℚ at by j)

-- what is taken over of a row: the line in the pivot's own position, the packed numbers where the row has an entry in column q, and else nothing
pub record IsTaken (own : Bool) (q : ℕ) (by : List ℚ) (columns : List ℕ) (row packed new : List ℚ) : Type 0 where
  pub line : own ≡ true → new ≡ by
  pub kept : own ≡ false → at row q ≡ zero_ℚ → new ≡ row
  pub unpacked : own ≡ false → at row q ≢ zero_ℚ → IsUnpacked columns packed row new

abbrev pub AreTaken : ℕ → ℕ → ℕ → List ℚ → List ℕ → List (List ℚ) → List (List ℚ) → List (List ℚ) → Type 0
AreTaken p base q by columns rows out new =
    (i : ℕ) → i < length rows → IsTaken (i + base == p) q by columns (get_or rows i []) (get_or out i []) (get_or new i [])

-- the packed numbers are such that what is taken over is the row without column q
abbrev pub EliminatesRow : Bool → ℕ → List ℚ → List ℕ → List ℚ → List ℚ → Type 0
EliminatesRow own q by columns row packed = (new : List ℚ) → IsTaken own q by columns row packed new → IsEliminated own q by row new

abbrev pub AreEliminated : ℕ → ℕ → ℕ → List ℚ → List ℕ → List (List ℚ) → List (List ℚ) → Type 0
AreEliminated p base q by columns rows out = (i : ℕ) → i < length rows → EliminatesRow (i + base == p) q by columns (get_or rows i []) (get_or out i [])

-- all rows have so many columns
abbrev pub AreWide : ℕ → List (List ℚ) → Type 0
AreWide width rows = (k : ℕ) → k < length rows → length (get_or rows k []) ≡ width

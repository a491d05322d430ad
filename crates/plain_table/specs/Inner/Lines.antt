-- What is listed where a line of numbers is worked by column, and what becomes of the line.
use Rattle.std.specs.Prelude.{◌≡◌, ◌≢◌, ℕ, ◌<◌, List, map, length, get_or, Some}
use Rattle.std.specs.List.{flat_map}
use Rattle.lp_model.specs.declared.Place.{Place}
use Rattle.rational.specs.Rational.{ℚ, zero_ℚ, ◌-ℚ◌, ◌*ℚ◌, ◌/ℚ◌}
use Rattle.rational.specs.Sparse.{upto}
use Rattle.rational.specs.Sum.{at}
use Rattle.rational.specs.Worked.{less, placed}
use Rattle.lp_run.specs.Listing.{Listed}

-- the place in a column
abbrev pub in_column : Place → ℕ → Place
in_column here j = record { number = here.number; kind = here.kind; row = here.row; column = Some j }

abbrev pub quotients_listing : Place → List ℚ → ℚ → List Listed
quotients_listing here line pivot = map (λ j. (in_column here j, at line j /ℚ pivot)) (upto (length line))

-- out is the line divided by the pivot
abbrev pub AreDivided : List ℚ → ℚ → List ℚ → Type 0
AreDivided line pivot out = (j : ℕ) → j < length line → at out j ≡ at line j /ℚ pivot

abbrev pub less_listing : Place → List ℚ → ℚ → List ℚ → List Listed
less_listing here line factor by = flat_map (λ j. placed (in_column here j) (less (at line j) factor (at by j))) (upto (length line))

-- out is the line less the multiple of another
abbrev pub AreLess : List ℚ → ℚ → List ℚ → List ℚ → Type 0
AreLess line factor by out = (j : ℕ) → j < length line → at out j ≡ at line j -ℚ factor *ℚ at by j

-- the columns rise
abbrev pub AreRising : List ℕ → Type 0
AreRising columns = (k l : ℕ) → k < l → l < length columns → get_or columns k 0 < get_or columns l 0

-- the columns are those in which the line has a number that is not 0, in rising order
pub record IsSupport (line : List ℚ) (columns : List ℕ) : Type 0 where
  pub rising : AreRising columns
  pub within : (k : ℕ) → k < length columns → get_or columns k 0 < length line
  pub apart : (k : ℕ) → k < length columns → at line (get_or columns k 0) ≢ zero_ℚ
  pub found : (j : ℕ) → j < length line → at line j ≢ zero_ℚ → (k : ℕ) × (k < length columns) × (get_or columns k 0 ≡ j)

-- out has, one after another, the numbers of the line less the multiple of another in these columns
abbrev pub AreLessPacked : List ℚ → ℚ → List ℚ → List ℕ → List ℚ → Type 0
AreLessPacked line factor by columns out =
    (k : ℕ) → k < length columns → at out k ≡ at line (get_or columns k 0) -ℚ factor *ℚ at by (get_or columns k 0)

-- new is the line with the packed numbers in these columns
pub record IsUnpacked (columns : List ℕ) (packed line new : List ℚ) : Type 0 where
  pub written : (k : ℕ) → k < length columns → at new (get_or columns k 0) ≡ at packed k
  pub others : (j : ℕ) → ((k : ℕ) → k < length columns → get_or columns k 0 ≢ j) → at new j ≡ at line j

-- What is listed where the reduced costs are worked anew, and what they become.
use Rattle.std.specs.Prelude.{◌≡◌, ◌≢◌, ℕ, ◌<◌, List, [], ◌∷◌, map, length, get_or, Some, None}
use Rattle.std.specs.List.{flat_map, range_with_len}
use Rattle.lp_model.specs.declared.Kind.TheVariants as kind
use Rattle.lp_model.specs.declared.Phase.{Phase}
use Rattle.rational.specs.Rational.{ℚ, zero_ℚ}
use Rattle.rational.specs.Sparse.{upto}
use Rattle.rational.specs.Sum.{at}
use Rattle.rational.specs.Worked.{Worked, bind, done, less, placed}
use Rattle.lp_run.specs.Instance.{Instance, column_count, cost}
use Rattle.lp_run.specs.Listing.{Listed, place}

-- a cost less the products, one after another
abbrev pub priced : ℚ → List (ℚ × ℚ) → Worked ℚ
priced rest [] = done rest
priced rest ((a, b) ∷ terms) = bind (less rest a b) (λ left. priced left terms)

-- the factors of so many products, from one on
abbrev pub factors_from : (ℕ → ℚ) → (ℕ → ℚ) → ℕ → ℕ → List (ℚ × ℚ)
factors_from f g from count = map (λ p. (f p, g p)) (range_with_len from count)

-- the products of a column from a position on: the costs of the basic columns with the column's entries
abbrev pub terms_from : List ℚ → List (List ℚ) → ℕ → ℕ → ℕ → List (ℚ × ℚ)
terms_from costs rows j = factors_from (at costs) (λ p. at (get_or rows p []) j)

-- the number alone where nothing is worked
abbrev pub or_single : ℚ → List ℚ → List ℚ
or_single first [] = first ∷ []
or_single first (v ∷ vs) = v ∷ vs

-- a calculation, or where it works nothing the number alone
abbrev pub first_or : ℚ → Worked ℚ → Worked ℚ
first_or first calculation = record { values = or_single first calculation.values; answer = calculation.answer }

-- the reduced cost of column j
abbrev pub cost_work : ℚ → List ℚ → List (List ℚ) → ℕ → Worked ℚ
cost_work own costs rows j = first_or own (priced own (terms_from costs rows j 0 (length rows)))

abbrev pub costs_work_listing : Instance → Phase → ℕ → List ℚ → List (List ℚ) → List Listed
costs_work_listing inst phase k costs rows =
    flat_map (λ j. placed (place k kind.Cost None (Some j)) (cost_work (cost inst phase j) costs rows j)) (upto (column_count inst))

abbrev pub AreCosts : Instance → Phase → List ℚ → List (List ℚ) → List ℚ → Type 0
AreCosts inst phase costs rows out = (j : ℕ) → j < column_count inst → at out j ≡ (cost_work (cost inst phase j) costs rows j).answer

-- some basic column with a cost has an entry in column j
abbrev pub HasProduct : List ℚ → List (List ℚ) → ℕ → Type 0
HasProduct costs rows j = (p : ℕ) × (p < length rows) × (at costs p ≢ zero_ℚ) × (at (get_or rows p []) j ≢ zero_ℚ)

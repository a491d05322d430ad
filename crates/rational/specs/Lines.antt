-- A sparse column worked into a vector, or out of one item. The column is its pairs of row and entry, in order; one row may be left
-- out, and none is where the given one is no row of the column.
use Rattle.std.specs.Prelude.{ℕ, ◌==◌, List, [], ◌∷◌, slice_set}
use Rattle.rational.specs.Rational.{ℚ}
use Rattle.rational.specs.Sum.{at}
use Rattle.rational.specs.Worked.{Worked, done, bind, less_unless}

-- an item less the product of each entry with the vector's item in its row
abbrev pub gather : ℕ → List ℚ → ℚ → List (ℕ × ℚ) → Worked ℚ
gather skip v r [] = done r
gather skip v r ((i, e) ∷ column) = bind (less_unless (i == skip) r e (at v i)) (λ rest. gather skip v rest column)

-- a vector of which each item in the row of an entry is less the product of the entry with x
abbrev pub subtract : ℕ → ℚ → List ℚ → List (ℕ × ℚ) → Worked (List ℚ)
subtract skip x v [] = done v
subtract skip x v ((i, e) ∷ column) = bind (less_unless (i == skip) (at v i) e x) (λ item. subtract skip x (slice_set v i item) column)

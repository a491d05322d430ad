-- The text of ranges.
use Rattle.std.specs.Prelude.{◌≡◌, ℕ, List, [], ◌∷◌, ◌++◌, map, length, get_or, Option, Some, None, codes}
use Rattle.rational.specs.Rational.{ℚ}
use Rattle.rational.specs.Sparse.{upto}
use Rattle.lp_model.specs.Deck.{Deck, Interval}
use Rattle.lp_text.specs.Fraction.{fraction_text}
use Rattle.lp_text.specs.Lines.{text_of}
use Rattle.lp_text.specs.Report.{column_names, row_names}
use Rattle.ranging.specs.Ranges.{Ranges, everything}

-- there is a range for each column and for each row of the deck
pub record HasLengthsOf (d : Deck) (found : Ranges) : Type 0 where
  pub costs : length found.costs ≡ length d.columns
  pub rights : length found.rights ≡ length d.rows

-- an end; one that is absent is infinite
abbrev pub low_text : Option ℚ → List ℕ
low_text None = codes "-INF"
low_text (Some v) = fraction_text v

abbrev pub high_text : Option ℚ → List ℕ
high_text None = codes "INF"
high_text (Some v) = fraction_text v

-- a word, both ends of a range, and a name
abbrev pub range_line : List ℕ → Interval → List ℕ → List ℕ
range_line word range name = word ++ 32 ∷ low_text range.lower ++ 32 ∷ high_text range.upper ++ 32 ∷ name

-- a line for each name, with the range of its index
abbrev pub ranged_lines : List ℕ → List Interval → List (List ℕ) → List (List ℕ)
ranged_lines word ranges names = map (λ j. range_line word (get_or ranges j everything) (get_or names j [])) (upto (length names))

abbrev pub range_lines : Deck → Ranges → List (List ℕ)
range_lines d found =
    codes "LPRANGE 1" ∷ (codes "DECK " ++ d.name) ∷ codes "OPTIMAL"
    ∷ ranged_lines (codes "COST") found.costs (column_names d) ++ ranged_lines (codes "RIGHT") found.rights (row_names d) ++ codes "END" ∷ []

-- the text of the ranges of a deck at an optimum
abbrev pub range_text : Deck → Ranges → List ℕ
range_text d found = text_of (range_lines d found)

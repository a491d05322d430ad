-- Edits of a deck: what it is after a row, a column or a number is added or set.
use Rattle.std.specs.Prelude.{ℕ, ◌+◌, List, [], ◌∷◌, ◌++◌, Option, Some, Bool, true, false, ◌&&◌, ◌||◌, ◌==◌, nat_lt, position, set, is_some, if◌then◌else◌, length, sum_by}
use Rattle.lp_model.specs.declared.RowKind.{RowKind}
use Rattle.lp_model.specs.declared.Sense.{Sense}
use Rattle.lp_model.specs.declared.Sense.TheVariants.{Min}
use Rattle.rational.specs.Rational.{ℚ, zero_ℚ, eq_ℚ, one_unless_zero}
use Rattle.lp_model.specs.Deck.{Column, Deck, Interval, Row, no_column, no_row, row, column}

-- the same bytes
abbrev pub same_bytes : List ℕ → List ℕ → Bool
same_bytes [] [] = true
same_bytes [] (d ∷ ds) = false
same_bytes (c ∷ cs) [] = false
same_bytes (c ∷ cs) (d ∷ ds) = c == d && same_bytes cs ds

-- a deck without rows and columns, to be minimised
abbrev pub new_deck : List ℕ → List ℕ → Deck
new_deck name objective = record { name = name; objective = objective; sense = Min; rows = []; columns = []; constant = zero_ℚ }

-- the index of the row, or of the column, of a name
abbrev pub find_row : Deck → List ℕ → Option ℕ
find_row d name = position (λ r. same_bytes r.name name) d.rows

abbrev pub find_column : Deck → List ℕ → Option ℕ
find_column d name = position (λ c. same_bytes c.name name) d.columns

-- whether a name is taken among the rows, of which the objective is one
abbrev pub is_row_name : Deck → List ℕ → Bool
is_row_name d name = same_bytes d.objective name || is_some (find_row d name)

abbrev pub is_column_name : Deck → List ℕ → Bool
is_column_name d name = is_some (find_column d name)

-- a new row, with right side 0 and no range
abbrev pub with_row : Deck → List ℕ → RowKind → Deck
with_row d name kind = record d { rows = d.rows ++ record no_row { name = name; kind = kind } ∷ [] }

-- a new column, with cost 0, no entry and bounds from 0 up
abbrev pub with_column : Deck → List ℕ → Deck
with_column d name = record d { columns = d.columns ++ record no_column { name = name } ∷ [] }

abbrev pub change_row : Deck → ℕ → (Row → Row) → Deck
change_row d i f = record d { rows = set d.rows i (f (row d i)) }

abbrev pub change_column : Deck → ℕ → (Column → Column) → Deck
change_column d j f = record d { columns = set d.columns j (f (column d j)) }

-- a pair put into a list of pairs of rising index that has none of this index
abbrev pub insert_entry : ℕ → ℚ → List (ℕ × ℚ) → List (ℕ × ℚ)
insert_entry i v [] = (i, v) ∷ []
insert_entry i v ((k, u) ∷ pairs) = if nat_lt i k then (i, v) ∷ (k, u) ∷ pairs else (k, u) ∷ insert_entry i v pairs

-- an entry of column j in row i; a 0 is not kept
abbrev pub with_entry : Deck → ℕ → ℕ → ℚ → Deck
with_entry d j i v = if eq_ℚ v zero_ℚ then d else change_column d j (λ c. record c { entries = insert_entry i v c.entries })

abbrev pub with_cost : Deck → ℕ → ℚ → Deck
with_cost d j v = change_column d j (λ c. record c { cost = v })

abbrev pub with_bounds : Deck → ℕ → Interval → Deck
with_bounds d j bounds = change_column d j (λ c. record c { bounds = bounds })

abbrev pub with_right : Deck → ℕ → ℚ → Deck
with_right d i v = change_row d i (λ r. record r { right = v })

abbrev pub with_range : Deck → ℕ → ℚ → Deck
with_range d i v = change_row d i (λ r. record r { range = Some v })

abbrev pub with_sense : Deck → Sense → Deck
with_sense d sense = record d { sense = sense }

abbrev pub with_constant : Deck → ℚ → Deck
with_constant d v = record d { constant = v }

-- whether a column has an entry in a row
abbrev pub has_entry : List (ℕ × ℚ) → ℕ → Bool
has_entry [] i = false
has_entry ((k, v) ∷ pairs) i = k == i || has_entry pairs i

-- how many entries and costs are not 0
abbrev pub entry_count : Deck → ℕ
entry_count d = sum_by (λ c. length c.entries + one_unless_zero c.cost) d.columns

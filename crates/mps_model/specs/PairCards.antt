-- Cards with pairs of a row's name and a number: those of the columns, of the right sides and of the ranges.
use Rattle.std.specs.Prelude.{ℕ, ◌+◌, ◌-◌, List, [], ◌∷◌, length, Some, None, Result, Ok, Err, Bool, ◌||◌, ◌==◌, nat_lt, if◌then◌else◌}
use Rattle.std.specs.Option.{unwrap_or}
use Rattle.rational.specs.Rational.{ℚ, eq_ℚ, neg_ℚ, zero_ℚ}
use Rattle.lp_model.specs.Edit.{entry_count, find_column, same_bytes, with_column, with_constant, with_cost, with_entry, with_range, with_right}
use Rattle.lp_text.specs.Cards.{field_of}
use Rattle.lp_text.specs.Limits.{column_limit, entry_limit}
use Rattle.lp_text.specs.declared.Counted.TheVariants as counted
use Rattle.lp_text.specs.declared.LineFault.{LineFault}
use Rattle.lp_text.specs.declared.LineFault.TheVariants as fault
use Rattle.mps_model.specs.NumberField.{field_value}
use Rattle.mps_model.specs.DeckSoFar.{DeckSoFar, RowPlace, and_then, dropped, is_among, objective, place_of, row}

-- ── pairs ──

-- what a number makes of the deck so far at the place that it is given for
abbrev pub UseOfNumber : Type 0
UseOfNumber = DeckSoFar → RowPlace → ℚ → Result DeckSoFar LineFault

-- the number in a field
abbrev pub number_in : List ℕ → Result ℚ LineFault
number_in text = elim (field_value text) [ Err why ↦ Err fault.Number | Ok v ↦ Ok v ]

-- the deck so far with a row named
abbrev pub with_named : DeckSoFar → List ℕ → DeckSoFar
with_named s name = record s { named = name ∷ s.named }

-- a pair: a row that is unknown, one that was named before, a number that is none, then what the use refuses
abbrev pub judge_pair : UseOfNumber → DeckSoFar → List ℕ → List ℕ → Result DeckSoFar LineFault
judge_pair use_number s name text =
    elim (place_of s name) [
      | None ↦ Err fault.UnknownRow
      | Some place ↦ if is_among name s.named then Err fault.Repeated else and_then (number_in text) (λ v. use_number (with_named s name) place v)
    ]

-- a second pair is there where one of its fields is not empty
abbrev pub has_second_pair : List (List ℕ) → Bool
has_second_pair fields = nat_lt 0 (length (field_of fields 5) + length (field_of fields 6))

-- the pairs of a card, one after the other
abbrev pub judge_pairs : UseOfNumber → DeckSoFar → List (List ℕ) → Result DeckSoFar LineFault
judge_pairs use_number s fields =
    and_then (judge_pair use_number s (field_of fields 3) (field_of fields 4))
    (λ after. if has_second_pair fields then judge_pair use_number after (field_of fields 5) (field_of fields 6) else Ok after)

-- ── columns ──

-- a number that is not 0 wants room for one more
abbrev pub has_room : DeckSoFar → ℚ → Bool
has_room s v = eq_ℚ v zero_ℚ || nat_lt (entry_count s.deck) entry_limit

-- a number of the last column: a cost or an entry
abbrev pub use_in_column : UseOfNumber
use_in_column s objective v = if has_room s v then Ok (record s { deck = with_cost s.deck (length s.deck.columns - 1) v }) else Err (fault.Limit counted.Entries)
use_in_column s (row i) v = if has_room s v then Ok (record s { deck = with_entry s.deck (length s.deck.columns - 1) i v }) else Err (fault.Limit counted.Entries)
use_in_column s dropped v = Ok s

-- a new column, which has named no row
abbrev pub begin_column : DeckSoFar → List ℕ → Result DeckSoFar LineFault
begin_column s name = if nat_lt (length s.deck.columns) column_limit then Ok (record s { deck = with_column s.deck name; named = [] }) else Err (fault.Limit counted.Columns)

-- the column of a card: the last one, or a new one; one before the last is scattered
abbrev pub at_column : DeckSoFar → List ℕ → Result DeckSoFar LineFault
at_column s name = elim (find_column s.deck name) [ None ↦ begin_column s name | Some j ↦ if j + 1 == length s.deck.columns then Ok s else Err fault.Scattered ]

-- a card of a column: the column, then the pairs
abbrev pub judge_column : DeckSoFar → List (List ℕ) → Result DeckSoFar LineFault
judge_column s fields = and_then (at_column s (field_of fields 2)) (λ after. judge_pairs use_in_column after fields)

-- ── right sides and ranges ──

-- a right side; on the objective its negative is the constant
abbrev pub use_as_right : UseOfNumber
use_as_right s objective v = Ok (record s { deck = with_constant s.deck (neg_ℚ v) })
use_as_right s (row i) v = Ok (record s { deck = with_right s.deck i v })
use_as_right s dropped v = Ok s

-- a range; on the objective it is dropped
abbrev pub use_as_range : UseOfNumber
use_as_range s objective v = Ok s
use_as_range s (row i) v = Ok (record s { deck = with_range s.deck i v })
use_as_range s dropped v = Ok s

-- the set that the section uses, once a card has named this one
abbrev pub with_set : DeckSoFar → List ℕ → DeckSoFar
with_set s name = record s { set = Some (unwrap_or s.set name) }

-- a card of a section with sets: it is judged where its set is that of the section's first card, else passed over
abbrev pub judge_in_set : (DeckSoFar → List (List ℕ) → Result DeckSoFar LineFault) → DeckSoFar → List (List ℕ) → Result DeckSoFar LineFault
judge_in_set judge s fields =
    let name = field_of fields 2 in
    if same_bytes (unwrap_or s.set name) name then judge (with_set s name) fields else Ok s

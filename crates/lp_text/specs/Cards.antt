-- The cards of a deck in fixed MPS columns: what a line is by itself, before it is judged by the cards before it.
-- Columns count from 1.
use Rattle.std.specs.Prelude.{ℕ, ◌-◌, List, [], ◌∷◌, reverse, length, map, take, filter, find, slice_index, slice_index_or, slice_range, Option, Some, None, Result, Ok, Err, Bool, true, false, ◌||◌, ◌&&◌, ◌==◌, nat_le, nat_lt, not, if◌then◌else◌}
use Rattle.std.specs.List.{list_all, take_while}
use Rattle.lp_text.specs.declared.LineFault.{LineFault}
use Rattle.lp_text.specs.declared.LineFault.TheVariants as fault

-- a card of a section, with its word as field 1, its second word as field 2 and the text of columns 15 to 22 as field 3, or a card of data; six fields
pub record Card : Type 0 where
  pub is_section : Bool
  pub fields : List (List ℕ)

abbrev pub is_blank : ℕ → Bool
is_blank c = c == 32

abbrev pub is_printable : ℕ → Bool
is_printable c = nat_le 32 c && nat_le c 126

-- a line without the carriage return that may stand at its end
abbrev pub without_return : List ℕ → List ℕ
without_return line = let last = length line - 1 in if slice_index line last == 13 then take last line else line

-- the columns of a line that count, the first 61
abbrev pub counted : List ℕ → List ℕ
counted line = take 61 (without_return line)

-- the byte in a column, a blank past the end
abbrev pub byte_in : List ℕ → ℕ → ℕ
byte_in text column = slice_index_or text (column - 1) 32

-- the bytes from one column through another
abbrev pub bytes_in : List ℕ → ℕ → ℕ → List ℕ
bytes_in text first last = slice_range text (first - 1) last

abbrev pub without_leading : List ℕ → List ℕ
without_leading [] = []
without_leading (c ∷ text) = if is_blank c then without_leading text else c ∷ text

-- a text without the blanks around it; those within stay
abbrev pub trimmed : List ℕ → List ℕ
trimmed text = reverse (without_leading (reverse (without_leading text)))

-- a byte before the first piece's others
abbrev pub onto_first_piece : ℕ → List (List ℕ) → List (List ℕ)
onto_first_piece c [] = (c ∷ []) ∷ []
onto_first_piece c (piece ∷ pieces) = (c ∷ piece) ∷ pieces

-- the pieces of a text that is cut at each blank
abbrev pub pieces_of : List ℕ → List (List ℕ)
pieces_of [] = []
pieces_of (c ∷ text) = if is_blank c then [] ∷ pieces_of text else onto_first_piece c (pieces_of text)

-- the words of a text, between blanks: its pieces that are not empty
abbrev pub words_of : List ℕ → List (List ℕ)
words_of text = filter (λ piece. nat_lt 0 (length piece)) (pieces_of text)

-- the columns that are blank in a card of data
abbrev pub gaps : List ℕ
gaps = 4 ∷ 13 ∷ 14 ∷ 23 ∷ 24 ∷ 37 ∷ 38 ∷ 39 ∷ 48 ∷ 49 ∷ []

abbrev pub filled_gap : List ℕ → Option ℕ
filled_gap text = find (λ column. not (is_blank (byte_in text column))) gaps

-- the first and the last column of each field in a card of data
abbrev pub field_columns : List (ℕ × ℕ)
field_columns = (2, 3) ∷ (5, 12) ∷ (15, 22) ∷ (25, 36) ∷ (40, 47) ∷ (50, 61) ∷ []

abbrev pub data_fields : List ℕ → List (List ℕ)
data_fields text = map (λ (ends : ℕ × ℕ). trimmed (bytes_in text ends.0 ends.1)) field_columns

-- a field of a card, counted from 1
abbrev pub field_of : List (List ℕ) → ℕ → List ℕ
field_of fields number = slice_index_or fields (number - 1) []

abbrev pub section_fields : List ℕ → List (List ℕ)
section_fields text = take_while (λ c. not (is_blank c)) text ∷ field_of (words_of text) 2 ∷ trimmed (bytes_in text 15 22) ∷ [] ∷ [] ∷ [] ∷ []

-- a comment or a line of blanks
abbrev pub is_ignored : List ℕ → Bool
is_ignored text = byte_in text 1 == 42 || list_all is_blank text

abbrev pub data_card : List ℕ → Option ℕ → Result (Option Card) LineFault
data_card text None = Ok (Some (record { is_section = false; fields = data_fields text }))
data_card text (Some column) = Err (fault.Columns column)

-- the card in the columns that count, its first fault, or none where the line is ignored
abbrev pub card_in : List ℕ → Result (Option Card) LineFault
card_in text =
    if is_ignored text then Ok None
    else if not (list_all is_printable text) then Err fault.NotAscii
    else if is_blank (byte_in text 1) then data_card text (filled_gap text)
    else Ok (Some (record { is_section = true; fields = section_fields text }))

-- the card of a line, which is without its line feed
abbrev pub card_of : List ℕ → Result (Option Card) LineFault
card_of line = card_in (counted line)

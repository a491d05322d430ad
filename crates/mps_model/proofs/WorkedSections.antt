-- Worked texts of the sections, each with its deck or its first fault, and what is judged first.
use Rattle.std.proofs.Common.{◌≡◌, [], ◌∷◌, ◌++◌, Some, Ok, Err, true, false, pos, negsuc, replicate, refl}
use Rattle.std.specs.Prelude.{codes}
use Rattle.rational.specs.Rational.{eq_ℚ, le_ℚ, lt_ℚ, neg_ℚ, one_ℚ, ratio, whole, zero_ℚ, ◌*ℚ◌}
use Rattle.rational.specs.Width.{fits_width}
use Rattle.lp_model.specs.Deck.{Deck, no_column, no_row, nonnegative}
use Rattle.lp_model.specs.Edit.{new_deck}
use Rattle.lp_model.specs.declared.RowKind.TheVariants.{G, E}
use Rattle.lp_text.specs.Limits.{column_limit, entry_limit, row_limit}
use Rattle.lp_text.specs.Lines.{text_of}
use Rattle.lp_text.specs.declared.Counted.TheVariants as counted
use Rattle.lp_text.specs.declared.Form.TheVariants.{Fixed}
use Rattle.lp_text.specs.declared.LineFault.TheVariants as fault
use Rattle.mps_model.specs.DeckSoFar.{no_cards}
use Rattle.mps_model.specs.RowCards.{judge_row}
use Rattle.mps_model.specs.PairCards.{judge_column}
use Rattle.mps_model.specs.Judgement.{judge_line}
use Rattle.mps_model.specs.DeckOf.{HasFault, IsDeckOf, in_line}

plain_deck : Deck
plain_deck = record (new_deck [] (codes "COST")) {
  rows = record no_row { name = codes "R1" } ∷ [];
  columns = record no_column { name = codes "X"; cost = whole (pos 2) } ∷ [];
}

rich_deck : Deck
rich_deck = record (new_deck [] (codes "COST")) {
  rows = record { name = codes "R1"; kind = E; right = zero_ℚ; range = Some zero_ℚ } ∷ record { name = codes "R2"; kind = G; right = ratio (pos 1) 2; range = Some (whole (negsuc 1)) } ∷ [];
  columns = record { name = codes "X"; cost = zero_ℚ; entries = (0, whole (pos 1)) ∷ (1, whole (pos 3)) ∷ []; bounds = nonnegative } ∷ [];
  constant = whole (negsuc 6);
}

abbrev full_of_rows : Deck
full_of_rows = record (new_deck [] []) { rows = replicate row_limit no_row }

abbrev full_of_columns : Deck
full_of_columns = record (new_deck [] (codes "COST")) { columns = replicate column_limit no_column }

abbrev full_of_entries : Deck
full_of_entries = record (new_deck [] (codes "COST")) { columns = record no_column { entries = replicate entry_limit (0, one_ℚ) } ∷ [] }

-- ── sections ──

unknown_word : HasFault Fixed (text_of (codes "NAME          T" ∷ codes "Rows" ∷ [])) (in_line 2 fault.Section)
unfolding whole zero_ℚ ratio ◌*ℚ◌ eq_ℚ lt_ℚ le_ℚ neg_ℚ fits_width
unknown_word = refl

-- the title comes first or never
title-second : HasFault Fixed (text_of (codes "ROWS" ∷ codes " N  COST" ∷ codes " L  R1" ∷ codes "NAME          T" ∷ [])) (in_line 4 fault.Section)
unfolding whole zero_ℚ ratio ◌*ℚ◌ eq_ℚ lt_ℚ le_ℚ neg_ℚ fits_width
title-second = refl

rows-twice : HasFault Fixed (text_of (codes "ROWS" ∷ codes " N  COST" ∷ codes " L  R1" ∷ codes "ROWS" ∷ [])) (in_line 4 fault.Section)
unfolding whole zero_ℚ ratio ◌*ℚ◌ eq_ℚ lt_ℚ le_ℚ neg_ℚ fits_width
rows-twice = refl

columns-first : HasFault Fixed (text_of (codes "NAME          T" ∷ codes "COLUMNS" ∷ [])) (in_line 2 fault.Section)
unfolding whole zero_ℚ ratio ◌*ℚ◌ eq_ℚ lt_ℚ le_ℚ neg_ℚ fits_width
columns-first = refl

right_sides-early : HasFault Fixed (text_of (codes "ROWS" ∷ codes " N  COST" ∷ codes " L  R1" ∷ codes "RHS" ∷ [])) (in_line 4 fault.Section)
unfolding whole zero_ℚ ratio ◌*ℚ◌ eq_ℚ lt_ℚ le_ℚ neg_ℚ fits_width
right_sides-early = refl

ranges-twice : HasFault Fixed (text_of (codes "ROWS" ∷ codes " N  COST" ∷ codes " L  R1" ∷ codes "COLUMNS" ∷ codes "    X         COST      2" ∷ codes "RANGES" ∷
    codes "BOUNDS" ∷ codes "RANGES" ∷ [])) (in_line 8 fault.Section)
unfolding whole zero_ℚ ratio ◌*ℚ◌ eq_ℚ lt_ℚ le_ℚ neg_ℚ fits_width
ranges-twice = refl

columns-twice : HasFault Fixed (text_of (codes "ROWS" ∷ codes " N  COST" ∷ codes " L  R1" ∷ codes "COLUMNS" ∷ codes "    X         COST      2" ∷ codes "COLUMNS" ∷ [])) (in_line 6 fault.Section)
unfolding whole zero_ℚ ratio ◌*ℚ◌ eq_ℚ lt_ℚ le_ℚ neg_ℚ fits_width
columns-twice = refl

-- a deck without columns has their section
finish-early : HasFault Fixed (text_of (codes "ROWS" ∷ codes " N  COST" ∷ codes " L  R1" ∷ codes "ENDATA" ∷ [])) (in_line 4 fault.Section)
unfolding whole zero_ℚ ratio ◌*ℚ◌ eq_ℚ lt_ℚ le_ℚ neg_ℚ fits_width
finish-early = refl

-- a card of data where no section admits one
data-early : HasFault Fixed (text_of (codes "NAME          T" ∷ codes " N  COST" ∷ [])) (in_line 2 fault.Section)
unfolding whole zero_ℚ ratio ◌*ℚ◌ eq_ℚ lt_ℚ le_ℚ neg_ℚ fits_width
data-early = refl

-- ── lines ──

-- a comment of any bytes, a blank line, carriage returns, and a line past the end, which is not judged
ignored : IsDeckOf Fixed ((42 ∷ 200 ∷ 10 ∷ 13 ∷ 10 ∷ []) ++ text_of (codes "ROWS" ∷ codes " N  COST" ∷ codes " L  R1" ∷ codes "COLUMNS" ∷ codes
    "    X         COST      2" ∷ []) ++ codes "ENDATA and more" ++ 13 ∷ 10 ∷ 200 ∷ []) (plain_deck) 8
unfolding whole zero_ℚ ratio ◌*ℚ◌ eq_ℚ lt_ℚ le_ℚ neg_ℚ fits_width plain_deck
ignored = refl

-- the last line may lack its line feed
unended : IsDeckOf Fixed (text_of (codes "ROWS" ∷ codes " N  COST" ∷ codes " L  R1" ∷ codes "COLUMNS" ∷ codes "    X         COST      2" ∷ []) ++ codes "ENDATA") plain_deck 6
unfolding whole zero_ℚ ratio ◌*ℚ◌ eq_ℚ lt_ℚ le_ℚ neg_ℚ fits_width plain_deck
unended = refl

-- a byte that does not print, before a column that is not blank
order_in_line : HasFault Fixed (text_of (codes "NAME          T" ∷ (codes "  X" ++ 9 ∷ codes "") ∷ [])) (in_line 2 fault.NotAscii)
unfolding whole zero_ℚ ratio ◌*ℚ◌ eq_ℚ lt_ℚ le_ℚ neg_ℚ fits_width
order_in_line = refl

-- a column that is not blank, before a section that admits no card
columns-before : HasFault Fixed (text_of (codes "NAME          T" ∷ codes " N XCOST" ∷ [])) (in_line 2 (fault.Columns 4))
unfolding whole zero_ℚ ratio ◌*ℚ◌ eq_ℚ lt_ℚ le_ℚ neg_ℚ fits_width
columns-before = refl

-- a line whose line feed is one byte too many
bytes-limit : judge_line Fixed 16777212 no_cards (record { bytes = codes "ROWS"; is_ended = true }) ≡ Err (fault.Limit counted.Bytes)
bytes-limit = refl

-- the same bytes without it
bytes-limit-unended : judge_line Fixed 16777212 no_cards (record { bytes = codes "Rows"; is_ended = false }) ≡ Err fault.Section
bytes-limit-unended = refl

-- ── rows ──

-- the type is judged before the name
row_type-first : HasFault Fixed (text_of (codes "ROWS" ∷ codes " N  COST" ∷ codes " L  R1" ∷ codes " X  COST" ∷ [])) (in_line 4 fault.RowType)
unfolding whole zero_ℚ ratio ◌*ℚ◌ eq_ℚ lt_ℚ le_ℚ neg_ℚ fits_width
row_type-first = refl

row-repeated : HasFault Fixed (text_of (codes "ROWS" ∷ codes " N  COST" ∷ codes " L  R1" ∷ codes " G  R1" ∷ [])) (in_line 4 fault.Repeated)
unfolding whole zero_ℚ ratio ◌*ℚ◌ eq_ℚ lt_ℚ le_ℚ neg_ℚ fits_width
row-repeated = refl

objective-repeated : HasFault Fixed (text_of (codes "ROWS" ∷ codes " N  COST" ∷ codes " L  R1" ∷ codes " G  COST" ∷ [])) (in_line 4 fault.Repeated)
unfolding whole zero_ℚ ratio ◌*ℚ◌ eq_ℚ lt_ℚ le_ℚ neg_ℚ fits_width
objective-repeated = refl

-- the names of further N rows count
free_row-repeated : HasFault Fixed (text_of (codes "ROWS" ∷ codes " N  COST" ∷ codes " L  R1" ∷ codes " N  COST2" ∷ codes " E  COST2" ∷ [])) (in_line 5 fault.Repeated)
unfolding whole zero_ℚ ratio ◌*ℚ◌ eq_ℚ lt_ℚ le_ℚ neg_ℚ fits_width
free_row-repeated = refl

-- the deck has as many rows as it may
rows-limit : judge_row (record no_cards { deck = full_of_rows }) (codes "L" ∷ codes "R" ∷ []) ≡ Err (fault.Limit counted.Rows)
rows-limit = refl

-- N rows do not count
rows-limit-free : judge_row (record no_cards { deck = full_of_rows }) (codes "N" ∷ codes "R" ∷ []) ≡ Ok
    (record no_cards { deck = record full_of_rows { objective = codes "R" }; free_rows = codes "R" ∷ [] })
rows-limit-free = refl

-- ── columns ──

marker : HasFault Fixed (text_of (codes "ROWS" ∷ codes " N  COST" ∷ codes " L  R1" ∷ codes "COLUMNS" ∷ codes "    M         'MARKER'                 'INTORG'" ∷ [])) (in_line 5 fault.Integer)
unfolding whole zero_ℚ ratio ◌*ℚ◌ eq_ℚ lt_ℚ le_ℚ neg_ℚ fits_width
marker = refl

marker-number : HasFault Fixed (text_of (codes "ROWS" ∷ codes " N  COST" ∷ codes " L  R1" ∷ codes "COLUMNS" ∷ codes "    X         COST      'MARKER'" ∷ [])) (in_line 5 fault.Integer)
unfolding whole zero_ℚ ratio ◌*ℚ◌ eq_ℚ lt_ℚ le_ℚ neg_ℚ fits_width
marker-number = refl

-- the row is judged before the number
column_row-unknown : HasFault Fixed (text_of (codes "ROWS" ∷ codes " N  COST" ∷ codes " L  R1" ∷ codes "COLUMNS" ∷ codes "    X         R2        1X" ∷ [])) (in_line 5 fault.UnknownRow)
unfolding whole zero_ℚ ratio ◌*ℚ◌ eq_ℚ lt_ℚ le_ℚ neg_ℚ fits_width
column_row-unknown = refl

-- also after a 0, and before the number
column_row-repeated : HasFault Fixed (text_of (codes "ROWS" ∷ codes " N  COST" ∷ codes " L  R1" ∷ codes "COLUMNS" ∷ codes
    "    X         R1        0              R1        1X" ∷ [])) (in_line 5 fault.Repeated)
unfolding whole zero_ℚ ratio ◌*ℚ◌ eq_ℚ lt_ℚ le_ℚ neg_ℚ fits_width
column_row-repeated = refl

column_cost-repeated : HasFault Fixed (text_of (codes "ROWS" ∷ codes " N  COST" ∷ codes " L  R1" ∷ codes "COLUMNS" ∷ codes "    X         COST      1" ∷ codes
    "    X         R1        1              COST      1" ∷ [])) (in_line 6 fault.Repeated)
unfolding whole zero_ℚ ratio ◌*ℚ◌ eq_ℚ lt_ℚ le_ℚ neg_ℚ fits_width
column_cost-repeated = refl

-- a second pair without its number
column_number : HasFault Fixed (text_of (codes "ROWS" ∷ codes " N  COST" ∷ codes " L  R1" ∷ codes "COLUMNS" ∷ codes "    X         R1        1              COST" ∷ [])) (in_line 5 fault.Number)
unfolding whole zero_ℚ ratio ◌*ℚ◌ eq_ℚ lt_ℚ le_ℚ neg_ℚ fits_width
column_number = refl

-- a second pair without its name, which is then the empty name
second_name-empty : HasFault Fixed (text_of (codes "ROWS" ∷ codes " N  COST" ∷ codes " L  R1" ∷ codes "COLUMNS" ∷ codes
    "    X         R1        1                        1" ∷ [])) (in_line 5 fault.UnknownRow)
unfolding whole zero_ℚ ratio ◌*ℚ◌ eq_ℚ lt_ℚ le_ℚ neg_ℚ fits_width
second_name-empty = refl

-- the deck has as many columns as it may; the limit comes before a row that is unknown
columns-limit : judge_column (record no_cards { deck = full_of_columns; free_rows = codes "COST" ∷ [] }) ([] ∷ codes "X" ∷ codes "R" ∷ []) ≡ Err (fault.Limit counted.Columns)
columns-limit = refl

-- the last column has as many entries as the deck may
entries-limit : judge_column (record no_cards { deck = full_of_entries; free_rows = codes "COST" ∷ [] }) ([] ∷ [] ∷ codes "COST" ∷ codes "1" ∷ [] ∷ [] ∷ []) ≡ Err (fault.Limit counted.Entries)
unfolding whole zero_ℚ ratio ◌*ℚ◌ eq_ℚ lt_ℚ le_ℚ neg_ℚ fits_width
entries-limit = refl

-- a 0 is not kept
entries-limit-zero : judge_column (record no_cards { deck = full_of_entries; free_rows = codes "COST" ∷ [] })
    ([] ∷ [] ∷ codes "COST" ∷ codes "0" ∷ [] ∷ [] ∷ []) ≡ Ok (record no_cards {
      deck = full_of_entries;
      free_rows = codes "COST" ∷ [];
      named =
          codes "COST" ∷ [];
    })
unfolding whole zero_ℚ ratio ◌*ℚ◌ eq_ℚ lt_ℚ le_ℚ neg_ℚ fits_width
entries-limit-zero = refl

-- ── right sides and ranges ──

-- further N rows are dropped with their numbers, a cost of 0 is not kept, a right side of the objective makes the constant, and other sets are passed over
rich-read : IsDeckOf Fixed (text_of (codes "ROWS" ∷ codes " N  COST" ∷ codes " E  R1" ∷ codes " N  SPARE" ∷ codes " G  R2" ∷ codes "COLUMNS" ∷ codes
    "    X         COST      0              R2        3" ∷ codes "    X         SPARE     9              R1        1" ∷ codes "RANGES" ∷ codes
    "    A         R2        -2             COST      1" ∷ codes "    A         R1        0" ∷ codes "RHS" ∷ codes "    A         COST      7" ∷ codes
    "    B         R9        1X" ∷ codes "    A         SPARE     1              R2        .5" ∷ codes "ENDATA" ∷ [])) rich_deck 16
unfolding whole zero_ℚ ratio ◌*ℚ◌ eq_ℚ lt_ℚ le_ℚ neg_ℚ fits_width rich_deck
rich-read = refl

right_row-unknown : HasFault Fixed (text_of (codes "ROWS" ∷ codes " N  COST" ∷ codes " L  R1" ∷ codes "COLUMNS" ∷ codes "    X         COST      2" ∷ codes "RHS" ∷
    codes "    A         R1        1" ∷ codes "    A         R2        1X" ∷ [])) (in_line 8 fault.UnknownRow)
unfolding whole zero_ℚ ratio ◌*ℚ◌ eq_ℚ lt_ℚ le_ℚ neg_ℚ fits_width
right_row-unknown = refl

right_side-repeated : HasFault Fixed (text_of (codes "ROWS" ∷ codes " N  COST" ∷ codes " L  R1" ∷ codes "COLUMNS" ∷ codes "    X         COST      2" ∷ codes "RHS" ∷
    codes "    A         R1        1" ∷ codes "    A         COST      1              R1        1X" ∷ [])) (in_line 8 fault.Repeated)
unfolding whole zero_ℚ ratio ◌*ℚ◌ eq_ℚ lt_ℚ le_ℚ neg_ℚ fits_width
right_side-repeated = refl

right_number : HasFault Fixed (text_of (codes "ROWS" ∷ codes " N  COST" ∷ codes " L  R1" ∷ codes "COLUMNS" ∷ codes "    X         COST      2" ∷ codes "RHS" ∷ codes
    "    A         R1        1" ∷ codes "    A         COST      1X" ∷ [])) (in_line 8 fault.Number)
unfolding whole zero_ℚ ratio ◌*ℚ◌ eq_ℚ lt_ℚ le_ℚ neg_ℚ fits_width
right_number = refl

-- also of an N row, whose ranges are dropped
range_row-repeated : HasFault Fixed (text_of (codes "ROWS" ∷ codes " N  COST" ∷ codes " L  R1" ∷ codes "COLUMNS" ∷ codes "    X         COST      2" ∷ codes "RANGES"
    ∷ codes "    A         COST      1" ∷ codes "    A         COST      1" ∷ [])) (in_line 8 fault.Repeated)
unfolding whole zero_ℚ ratio ◌*ℚ◌ eq_ℚ lt_ℚ le_ℚ neg_ℚ fits_width
range_row-repeated = refl

-- the set whose name is empty
empty_set : HasFault Fixed (text_of (codes "ROWS" ∷ codes " N  COST" ∷ codes " L  R1" ∷ codes "COLUMNS" ∷ codes "    X         COST      2" ∷ codes "RHS" ∷ codes
    "              R1        1" ∷ codes "    A         R9        1" ∷ codes "              R9        1" ∷ [])) (in_line 9 fault.UnknownRow)
unfolding whole zero_ℚ ratio ◌*ℚ◌ eq_ℚ lt_ℚ le_ℚ neg_ℚ fits_width
empty_set = refl

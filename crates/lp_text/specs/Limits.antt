-- The limits of texts: what a deck may have, and what a report may have.
use Rattle.std.specs.Prelude.{ℕ}

-- ── a deck ──

-- rows that the deck keeps, which leaves N rows out
abbrev pub row_limit : ℕ
row_limit = 1000

abbrev pub column_limit : ℕ
column_limit = 10000

-- costs and entries that are not 0
abbrev pub entry_limit : ℕ
entry_limit = 100000

-- bytes through the line that ends the deck: 16 MiB
abbrev pub byte_limit : ℕ
byte_limit = 16777216

-- bytes of a line in free form, without its line feed
abbrev pub free_line_limit : ℕ
free_line_limit = 255

-- bytes of a token in free form
abbrev pub token_limit : ℕ
token_limit = 64

-- ── a report ──

-- bytes of a report: 32 MiB
abbrev pub report_limit : ℕ
report_limit = 33554432

-- bytes of a line of a report, without its line feed
abbrev pub report_line_limit : ℕ
report_line_limit = 255

-- The line of each fault of a deck.
use Rattle.std.specs.Prelude.{ℕ, List, [], ◌++◌, Some, None, codes}
use Rattle.std.specs.Fmt.{decimal}
use Rattle.lp_main.specs.Refusals.{ended, memory_line, read_line}
use Rattle.lp_text.specs.declared.Counted.{Counted}
use Rattle.lp_text.specs.declared.Counted.TheVariants as counted
use Rattle.lp_text.specs.declared.LineFault.{LineFault}
use Rattle.lp_text.specs.declared.LineFault.TheVariants.{Bound, Columns, Integer, Limit, NotAscii, Number, Repeated, RowType, Scattered, Section, Sense, Token, UnknownColumn, UnknownRow}
use Rattle.mps_model.specs.DeckOf.{TextFault, crossed_bounds, in_line, no_end, no_objective}
use Rattle.mps_reader.specs.declared.faults.DeckFault.{DeckFault}
use Rattle.mps_reader.specs.declared.faults.DeckFault.TheVariants as deck
use Rattle.mps_reader.specs.Faults.{text_fault}

-- what is said of a limit
abbrev pub limit_words : Counted → List ℕ
limit_words counted.Rows = codes ": limit of rows"
limit_words counted.Columns = codes ": limit of columns"
limit_words counted.Entries = codes ": limit of entries"
limit_words counted.Bytes = codes ": limit of bytes"

-- what is said of a line behind its number
abbrev pub line_words : LineFault → List ℕ
line_words (Limit what) = limit_words what
line_words NotAscii = codes ": byte not printable"
line_words (Columns c) = codes ": column " ++ decimal c
line_words Token = codes ": token"
line_words Sense = codes ": sense"
line_words Section = codes ": section"
line_words RowType = codes ": row type"
line_words UnknownRow = codes ": unknown row"
line_words UnknownColumn = codes ": unknown column"
line_words Repeated = codes ": repeated"
line_words Scattered = codes ": scattered column"
line_words Number = codes ": number"
line_words Bound = codes ": bound"
line_words Integer = codes ": integer"

-- the line of a text's first fault
abbrev pub fault_line : TextFault → List ℕ
fault_line (in_line n fault) = ended (codes "lp: line " ++ decimal n ++ line_words fault)
fault_line no_objective = ended (codes "lp: no objective row")
fault_line (no_end n) = ended (codes "lp: deck ends without ENDATA after " ++ decimal n ++ codes " lines")
fault_line (crossed_bounds name) = ended (codes "lp: column " ++ name ++ codes ": crossed bounds")

-- the line of what the reader answers; a failed read and want of memory are no faults of a text
abbrev pub reader_line : DeckFault → List ℕ
reader_line deck.Read = read_line
reader_line deck.Memory = memory_line
reader_line fault = elim (text_fault fault) [ None ↦ [] | Some first ↦ fault_line first ]

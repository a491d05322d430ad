-- The text of a line that the writer makes.
use Rattle.std.specs.Prelude.{ℕ, List, ◌++◌, codes}
use Rattle.lp_text.specs.Fraction.{fraction_text}
use Rattle.lp_text.specs.Report.{entry_line, number_line, value_line}
use Rattle.cert_text.specs.declared.line.Line.{Line}
use Rattle.cert_text.specs.declared.line.Line.TheVariants as line

abbrev pub line_text : Line → List ℕ
line_text (line.Word word) = word.now
line_text (line.Deck name) = codes "DECK " ++ name.now
line_text (line.Objective value) = codes "OBJECTIVE " ++ fraction_text value
line_text (line.Value word value name) = value_line word.now value name.now
line_text (line.Number word number) = number_line word.now number
line_text (line.Entry entry) = entry_line entry

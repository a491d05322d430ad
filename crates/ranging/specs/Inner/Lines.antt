-- The text of a line that the writer makes.
use Rattle.std.specs.Prelude.{ℕ, List, ◌++◌, codes}
use Rattle.ranging.specs.Text.{range_line}
use Rattle.ranging.specs.declared.line.Line.{Line}
use Rattle.ranging.specs.declared.line.Line.TheVariants as line

abbrev pub line_text : Line → List ℕ
line_text (line.Word word) = word.now
line_text (line.Deck name) = codes "DECK " ++ name.now
line_text (line.Range word range name) = range_line word.now range name.now

-- A reading from one line on, by the verdict on that line.
use Rattle.std.proofs.Common.{ℕ, suc, ◌+◌, List, Result, Ok, Err, if◌then◌else◌}
use Rattle.lp_text.specs.Lines.{Line, size_of}
use Rattle.lp_text.specs.declared.Form.{Form}
use Rattle.lp_text.specs.declared.LineFault.{LineFault}
use Rattle.mps_model.specs.DeckSoFar.{DeckSoFar}
use Rattle.mps_model.specs.Judgement.{has_finished}
use Rattle.mps_model.specs.DeckOf.{Reading, finished, has_fault, in_line, read_lines}

-- what the lines are after the verdict on the first
abbrev pub after_line : Form → ℕ → ℕ → Line → List Line → Result DeckSoFar LineFault → Reading
after_line form n used line lines (Err fault) = has_fault (in_line (suc n) fault)
after_line form n used line lines (Ok after) = if has_finished after.begun then finished after (suc n) else read_lines form (suc n) (used + size_of line) after lines

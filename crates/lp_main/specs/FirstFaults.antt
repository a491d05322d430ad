-- The first fault of a deck's text, and a text that was cut off before one.
use Rattle.std.specs.Prelude.{ℕ, List, Option, MatchOption, Some}
use Rattle.io_ends.specs.Bytes.{Gives}
use Rattle.lp_text.specs.declared.Form.{Form}
use Rattle.mps_model.specs.DeckOf.{HasFault}
use Rattle.mps_reader.specs.declared.faults.DeckFault.{DeckFault}
use Rattle.mps_reader.specs.Answers.{IsReadNeeded}
use Rattle.mps_reader.specs.Faults.{text_fault}

-- the fault that the reader answers is the text's first
abbrev pub IsTextFault : Form → List ℕ → DeckFault → Type 0
IsTextFault form text fault = MatchOption (text_fault fault) ⊥ (HasFault form text)

-- what was taken before a read failed has no whole line with a fault, and none that ends the deck; it is no more than a deck may have
abbrev pub IsDeckCutOff : Form → Option (List ℕ) → List ℕ → Type 0
IsDeckCutOff form left text = (taken : List ℕ) × Gives (Some text) left taken × IsReadNeeded form taken

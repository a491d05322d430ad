-- What a text is as a deck in its form: the deck, or the text's first fault.
use Rattle.std.specs.Prelude.{◌≡◌, ℕ, suc, ◌+◌, List, [], ◌∷◌, find, Option, Some, None, Ok, Err, Bool, false, if◌then◌else◌}
use Rattle.rational.specs.Rational.{ℚ, lt_ℚ}
use Rattle.lp_model.specs.Deck.{Deck, Interval}
use Rattle.lp_text.specs.Lines.{Line, lines_of, size_of, whole_lines}
use Rattle.lp_text.specs.declared.Form.{Form}
use Rattle.lp_text.specs.declared.LineFault.{LineFault}
use Rattle.mps_model.specs.DeckSoFar.{DeckSoFar, no_cards}
use Rattle.mps_model.specs.Judgement.{has_finished, judge_line}

-- ── faults and readings ──

-- what is wrong with a text
pub data TextFault : Type 0 where
  -- the fault of the line of a number
  in_line : ℕ → LineFault → TextFault
  no_objective : TextFault
  -- the column's lower end is above its upper end
  crossed_bounds : List ℕ → TextFault
  -- the deck does not end within so many lines
  no_end : ℕ → TextFault

-- a deck with the number of the line that ends it, or the first fault
pub data Reading : Type 0 where
  is_deck : Deck → ℕ → Reading
  has_fault : TextFault → Reading

-- ── the end of the deck ──

-- whether a lower end is above an upper end
abbrev pub are_crossed : Option ℚ → Option ℚ → Bool
are_crossed (Some l) (Some u) = lt_ℚ u l
are_crossed None u = false
are_crossed (Some l) None = false

-- whether bounds cross
abbrev pub is_crossed : Interval → Bool
is_crossed bounds = are_crossed bounds.lower bounds.upper

-- the deck at its last line, unless it has no objective or its bounds cross in a column, of which the first is named
abbrev pub finished : DeckSoFar → ℕ → Reading
finished s line =
    elim s.free_rows [
      | [] ↦ has_fault no_objective
      | name ∷ others ↦ elim (find (λ c. is_crossed c.bounds) s.deck.columns) [ None ↦ is_deck s.deck line | Some c ↦ has_fault (crossed_bounds c.name) ]
    ]

-- ── reading ──

-- what the lines are after n lines of so many bytes
abbrev pub read_lines : Form → ℕ → ℕ → DeckSoFar → List Line → Reading
read_lines form n used s [] = has_fault (no_end n)
read_lines form n used s (line ∷ lines) =
    elim (judge_line form used s line) [
      | Err fault ↦ has_fault (in_line (suc n) fault)
      | Ok after ↦ if has_finished after.begun then finished after (suc n) else read_lines form (suc n) (used + size_of line) after lines
    ]

-- what a text is
abbrev pub reading_of : Form → List ℕ → Reading
reading_of form text = read_lines form 0 0 no_cards (lines_of text)

-- the text is this deck, which ends at the line
abbrev pub IsDeckOf : Form → List ℕ → Deck → ℕ → Type 0
IsDeckOf form text d line = reading_of form text ≡ is_deck d line

-- the text has this first fault
abbrev pub HasFault : Form → List ℕ → TextFault → Type 0
HasFault form text fault = reading_of form text ≡ has_fault fault

-- no line that stands whole in the text has a fault, and none ends the deck
abbrev pub IsOpen : Form → List ℕ → Type 0
IsOpen form text = (n : ℕ) × (read_lines form 0 0 no_cards (whole_lines text) ≡ has_fault (no_end n))

-- A line judged by the cards before it: the deck so far, or the line's first fault.
use Rattle.std.specs.Prelude.{ℕ, ◌+◌, List, [], ◌∷◌, Option, Some, None, Result, Ok, Err, Bool, true, false, ◌&&◌, is_some, nat_le, not, if◌then◌else◌}
use Rattle.lp_model.specs.declared.Sense.{Sense}
use Rattle.lp_model.specs.Edit.{with_sense}
use Rattle.lp_text.specs.Cards.{Card, card_in, counted, field_of, without_return}
use Rattle.lp_text.specs.FreeCards.{FreeCard, free_card_in}
use Rattle.lp_text.specs.Lines.{Line, size_of}
use Rattle.lp_text.specs.Limits.{byte_limit}
use Rattle.lp_text.specs.Senses.{sense_of}
use Rattle.lp_text.specs.declared.Counted.TheVariants as limit
use Rattle.lp_text.specs.declared.Form.{Form}
use Rattle.lp_text.specs.declared.Form.TheVariants.{Fixed, Free}
use Rattle.lp_text.specs.declared.LineFault.{LineFault}
use Rattle.lp_text.specs.declared.LineFault.TheVariants as fault
use Rattle.mps_model.specs.declared.Section.{Section}
use Rattle.mps_model.specs.declared.Section.TheVariants.{Bounds, Columns, Finish, ObjectiveSense, Ranges, RightSides, Rows, Title}
use Rattle.mps_model.specs.Sections.{may_begin, section_of}
use Rattle.mps_model.specs.DeckSoFar.{DeckSoFar, and_then}
use Rattle.mps_model.specs.RowCards.{judge_row}
use Rattle.mps_model.specs.PairCards.{judge_column, judge_in_set, judge_pairs, use_as_range, use_as_right}
use Rattle.mps_model.specs.BoundCards.{judge_bound}
use Rattle.mps_model.specs.CardFields.{fixed_fields, free_fields}

-- ── the sense ──

-- the deck so far with a sense, which is awaited where none is given
abbrev pub with_sense_given : DeckSoFar → Option Sense → DeckSoFar
with_sense_given s sense = record s { awaits_sense = not (is_some sense); deck = elim sense [ None ↦ s.deck | Some v ↦ with_sense s.deck v ] }

-- a word that is there and is no sense
abbrev pub is_no_sense : List ℕ → Bool
is_no_sense [] = false
is_no_sense (c ∷ word) = not (is_some (sense_of (c ∷ word)))

-- the card that is to hold the sense: one of data, whose first word is the sense
abbrev pub judge_sense : DeckSoFar → FreeCard → Result DeckSoFar LineFault
judge_sense s card =
    let sense = sense_of (field_of card.tokens 1) in
    if not card.is_section && is_some sense then Ok (with_sense_given s sense) else Err fault.Sense

-- ── cards of sections ──

-- the deck so far with a section begun, which has named no set and no row; the title's card has the deck's name, and the sense's card may have the sense
abbrev pub begin_section : DeckSoFar → Section → List ℕ → List ℕ → DeckSoFar
begin_section s Title second name = record s { begun = Title ∷ s.begun; deck = record s.deck { name = name } }
begin_section s ObjectiveSense second name = record (with_sense_given s (sense_of second)) { begun = ObjectiveSense ∷ s.begun }
begin_section s kind second name = record s { begun = kind ∷ s.begun; set = None; named = [] }

-- whether a section's card has a second word that ought to be a sense and is none
abbrev pub has_no_sense : Section → List ℕ → Bool
has_no_sense ObjectiveSense second = is_no_sense second
has_no_sense kind second = false

-- a section's card, with its word, its second word and what the deck's name is on the title's card: a second word that is no sense, then a section that may not begin here
abbrev pub judge_section : DeckSoFar → List ℕ → List ℕ → List ℕ → Result DeckSoFar LineFault
judge_section s word second name =
    elim (section_of word) [
      | None ↦ Err fault.Section
      | Some kind ↦ if has_no_sense kind second then Err fault.Sense
          else if may_begin kind s.begun then Ok (begin_section s kind second name)
          else Err fault.Section
    ]

-- ── cards of data ──

-- a card of data, by the section that it stands in; in that of the sense, the sense was given
abbrev pub judge_data : List Section → DeckSoFar → List (List ℕ) → Result DeckSoFar LineFault
judge_data (Rows ∷ begun) s fields = judge_row s fields
judge_data (Columns ∷ begun) s fields = judge_column s fields
judge_data (RightSides ∷ begun) s fields = judge_in_set (judge_pairs use_as_right) s fields
judge_data (Ranges ∷ begun) s fields = judge_in_set (judge_pairs use_as_range) s fields
judge_data (Bounds ∷ begun) s fields = judge_in_set judge_bound s fields
judge_data (ObjectiveSense ∷ begun) s fields = Err fault.Sense
judge_data (Title ∷ begun) s fields = Err fault.Section
judge_data (Finish ∷ begun) s fields = Err fault.Section
judge_data [] s fields = Err fault.Section

-- ── cards ──

-- a card in fixed columns
abbrev pub judge_card : DeckSoFar → Card → Result DeckSoFar LineFault
judge_card s card =
    if card.is_section then judge_section s (field_of card.fields 1) (field_of card.fields 2) (field_of card.fields 3)
    else and_then (fixed_fields s.begun card.fields) (judge_data s.begun s)

-- a card in free form, where the second word of the title's card is the deck's name
abbrev pub judge_free_card : DeckSoFar → FreeCard → Result DeckSoFar LineFault
judge_free_card s card =
    if card.is_section then judge_section s (field_of card.tokens 1) (field_of card.tokens 2) (field_of card.tokens 2)
    else and_then (free_fields s.begun card.tokens) (judge_data s.begun s)

-- ── lines ──

-- the bytes of a line that count: in fixed columns the first 61
abbrev pub bytes_counted : Form → List ℕ → List ℕ
bytes_counted Fixed line = counted line
bytes_counted Free line = without_return line

-- what a card makes of the deck so far; a line that is none leaves it
abbrev pub judged_by : {C : Type 0} → (DeckSoFar → C → Result DeckSoFar LineFault) → DeckSoFar → Result (Option C) LineFault → Result DeckSoFar LineFault
judged_by judge s (Err why) = Err why
judged_by judge s (Ok None) = Ok s
judged_by judge s (Ok (Some card)) = judge s card

-- the bytes of a line that count, where no sense is awaited
abbrev pub judge_by_form : Form → DeckSoFar → List ℕ → Result DeckSoFar LineFault
judge_by_form Fixed s text = judged_by judge_card s (card_in text)
judge_by_form Free s text = judged_by judge_free_card s (free_card_in text)

-- the card that is to hold the sense is cut into words in either form
abbrev pub judge_text : Form → DeckSoFar → List ℕ → Result DeckSoFar LineFault
judge_text form s text = if s.awaits_sense then judged_by judge_sense s (free_card_in text) else judge_by_form form s text

-- a line after so many bytes: the limit of bytes through the line, then the bytes that count and their card
abbrev pub judge_line : Form → ℕ → DeckSoFar → Line → Result DeckSoFar LineFault
judge_line form used s line = if nat_le (used + size_of line) byte_limit then judge_text form s (bytes_counted form line.bytes) else Err (fault.Limit limit.Bytes)

-- whether the last card ended the deck
abbrev pub has_finished : List Section → Bool
has_finished [] = false
has_finished (Finish ∷ begun) = true
has_finished (kind ∷ begun) = false

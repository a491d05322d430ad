-- What a line is split into: the card that it is.
use Rattle.std.specs.Prelude.{◌≡◌, ℕ, List, Option, Some, None, Result, Ok, Err, Bool, true, false, if◌then◌else◌}
use Rattle.lp_text.specs.Cards.{Card as TextCard, without_return}
use Rattle.lp_text.specs.declared.LineFault.{LineFault}
use Rattle.mps_cards.specs.declared.cards.CardKind.{CardKind}
use Rattle.mps_cards.specs.declared.cards.CardKind.TheVariants as kinds
use Rattle.mps_cards.specs.declared.cards.CardFault.{CardFault}
use Rattle.mps_cards.specs.declared.cards.CardFault.TheVariants as faults
use Rattle.mps_cards.specs.declared.cards.Card.{Card}
use Rattle.mps_cards.specs.declared.lines.Line.{Line}

abbrev pub is_section : CardKind → Bool
is_section kinds.Section = true
is_section kinds.Data = false

-- a card apart from its line
abbrev pub text_card : Card → TextCard
text_card card = record { is_section = is_section card.kind; fields = card.fields }

-- the bytes of a line that are there, without a carriage return at the line's end
abbrev pub kept_bytes : Line → List ℕ
kept_bytes line = if line.longer then line.bytes else without_return line.bytes

-- an answer to a line of this number says what the line is
abbrev pub Says : ℕ → Result (Option TextCard) LineFault → Result (Option Card) CardFault → Type 0
Says number what (Ok None) = what ≡ Ok None
Says number what (Ok (Some card)) = (what ≡ Ok (Some (text_card card))) × (card.line ≡ number)
Says number what (Err faults.Memory) = Unit {0}
Says number what (Err (faults.InLine line fault)) = (what ≡ Err fault) × (line ≡ number)

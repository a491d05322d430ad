-- What a line in free form is cut into: the card that it is.
use Rattle.std.specs.Prelude.{◌≡◌, ℕ, Option, Some, None, Result, Ok, Err, true, false}
use Rattle.lp_text.specs.FreeCards.{FreeCard as TextCard}
use Rattle.lp_text.specs.declared.LineFault.{LineFault}
use Rattle.lp_text.specs.declared.LineFault.TheVariants as fault
use Rattle.mps_free.specs.declared.cards.FreeCard.{FreeCard}
use Rattle.mps_free.specs.declared.cards.FreeCard.TheVariants.{Data, Section}
use Rattle.mps_free.specs.declared.cards.FreeFault.{FreeFault}
use Rattle.mps_free.specs.declared.cards.FreeFault.TheVariants.{Memory, NotAscii, Token}

-- a card, as the definitions have it
abbrev pub text_card : FreeCard → TextCard
text_card (Section tokens) = record { is_section = true; tokens = tokens }
text_card (Data tokens) = record { is_section = false; tokens = tokens }

-- an answer to a line of this number says what the line is
abbrev pub Says : ℕ → Result (Option TextCard) LineFault → Result (Option FreeCard) FreeFault → Type 0
Says number what (Ok None) = what ≡ Ok None
Says number what (Ok (Some card)) = what ≡ Ok (Some (text_card card))
Says number what (Err Memory) = Unit {0}
Says number what (Err (NotAscii line)) = (what ≡ Err fault.NotAscii) × (line ≡ number)
Says number what (Err (Token line)) = (what ≡ Err fault.Token) × (line ≡ number)

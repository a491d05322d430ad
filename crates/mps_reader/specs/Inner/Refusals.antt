-- Refusals of a card.
use Rattle.std.specs.Prelude.{ℕ, Option, Some, None}
use Rattle.lp_text.specs.declared.LineFault.{LineFault}
use Rattle.lp_text.specs.declared.LineFault.TheVariants.{NotAscii, Repeated, Token}
use Rattle.deck_model.specs.declared.fault.EditFault.{EditFault}
use Rattle.deck_model.specs.declared.fault.EditFault.TheVariants as edit
use Rattle.mps_cards.specs.declared.cards.CardFault.{CardFault}
use Rattle.mps_cards.specs.declared.cards.CardFault.TheVariants as card
use Rattle.mps_free.specs.declared.cards.FreeFault.{FreeFault}
use Rattle.mps_free.specs.declared.cards.FreeFault.TheVariants as free
use Rattle.mps_reader.specs.declared.faults.DeckFault.{DeckFault}
use Rattle.mps_reader.specs.declared.faults.DeckFault.TheVariants as deck
use Rattle.mps_reader.specs.declared.refusal.Refusal.{Refusal}
use Rattle.mps_reader.specs.declared.refusal.Refusal.TheVariants.{Fault, Memory}

-- the fault of a line that a refusal is; want of memory is none
abbrev pub line_fault : Refusal → Option LineFault
line_fault Memory = None
line_fault (Fault fault) = Some fault

-- the refusal that a refused edit of the deck is
abbrev pub edit_refusal : EditFault → Refusal
edit_refusal edit.Memory = Memory
edit_refusal edit.Repeated = Fault Repeated

-- the refusal that the fault of a line is
abbrev pub card_refusal : CardFault → Refusal
card_refusal card.Memory = Memory
card_refusal (card.InLine n fault) = Fault fault

-- the refusal that the fault of a line in free form is
abbrev pub free_refusal : FreeFault → Refusal
free_refusal free.Memory = Memory
free_refusal (free.NotAscii n) = Fault NotAscii
free_refusal (free.Token n) = Fault Token

-- the refusal of a card in the line of a number
abbrev pub at_line : ℕ → Refusal → DeckFault
at_line n Memory = deck.Memory
at_line n (Fault fault) = deck.InLine n fault

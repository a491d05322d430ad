-- What is replied to a deck that is to be written in its layout.
use Rattle.std.specs.Prelude.{◌≡◌, ℕ, List, Option, IfSome, Result, Ok, Err}
use Rattle.lp_text.specs.declared.Form.{Form}
use Rattle.deck_tools.specs.Layout.{deck_text}
use Rattle.lp_model.specs.Deck.{Deck}
use Rattle.mps_model.specs.DeckOf.{IsDeckOf}
use Rattle.lp_main.specs.declared.refusal.Refusal.TheVariants as refusal
use Rattle.lp_main.specs.declared.status.Answer.TheVariants as answer
use Rattle.lp_main.specs.FirstFaults.{IsTextFault}
use Rattle.lp_main.specs.Reply.{Reply, gives, refuses}

-- the text is a deck, and this is its layout, or else the name of its first number that has no spelling on a card
abbrev pub IsLayout : Form → Result (List ℕ) (List ℕ) → List ℕ → Type 0
IsLayout form layout text = (d : Deck) × (line : ℕ) × IsDeckOf form text d line × (deck_text form d ≡ layout)

-- the deck in its layout; the text's first fault; or the first number without a spelling
abbrev pub LaysOut : Form → Option (List ℕ) → Reply → Type 0
LaysOut form text (gives answer.Done bytes) = IfSome text (IsLayout form (Ok bytes))
LaysOut form text (refuses (refusal.Deck fault)) = IfSome text (λ t. IsTextFault form t fault)
LaysOut form text (refuses (refusal.Wide name)) = IfSome text (IsLayout form (Err name))
LaysOut form text other = ⊥

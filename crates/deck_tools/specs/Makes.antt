-- What a call leaves that makes lines of a deck's text.
use Rattle.std.specs.Prelude.{◌≡◌, ℕ, List, [], ◌∷◌, ◌++◌, Result, Ok, Err, MatchResult, Option, None}
use Rattle.deck_tools.specs.declared.fault.DeckWriteFault.{DeckWriteFault}
use Rattle.deck_tools.specs.declared.fault.DeckWriteFault.TheVariants.{Memory, Wide, Write}
use Rattle.lp_text.specs.declared.Form.{Form}
use Rattle.deck_tools.specs.declared.page.Card.{Card as Filled}
use Rattle.deck_tools.specs.Layout.{Card, Line, text_of_lines}

-- the card that the writer fills
abbrev pub card_of : Filled → Card
card_of c = record { kind = c.kind.now; first = c.first.now; second = c.second.now; number = c.number; owner = c.owner.now }

-- why a text has not the lines: the first of their numbers without a spelling, or want of memory
abbrev pub IsUnmade : Result (List ℕ) (List ℕ) → DeckWriteFault → Type 0
IsUnmade text (Wide name) = text ≡ Err name
IsUnmade text Memory = Unit {0}
IsUnmade text Write = ⊥

-- the text gained the lines, or it did not for this reason
pub record Makes (form : Form) (old new : List ℕ) (lines : List Line) (result : Result (Unit {0}) DeckWriteFault) : Type 0 where
  pub made : MatchResult result (λ _. (text : List ℕ) × (text_of_lines form lines ≡ Ok text) × (new ≡ old ++ text)) (IsUnmade (text_of_lines form lines))

-- why a number that belongs to a name is not spelled: it has no spelling, or memory ran out
abbrev pub IsUnspelled : Option (List ℕ) → List ℕ → DeckWriteFault → Type 0
IsUnspelled spelling owner (Wide name) = (spelling ≡ None) × (name ≡ owner)
IsUnspelled spelling owner Memory = Unit {0}
IsUnspelled spelling owner Write = ⊥

-- the text of a section by the text of its lines
abbrev pub section_text : List ℕ → List ℕ → List ℕ
section_text word [] = []
section_text word (c ∷ text) = word ++ 10 ∷ c ∷ text

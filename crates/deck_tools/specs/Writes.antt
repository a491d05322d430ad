-- What a call leaves that writes a deck.
use Rattle.std.specs.Prelude.{◌≡◌, ℕ, List, Option, Result, Ok, Err}
use Rattle.io_ends.specs.Bytes.{Appends, AppendsPrefix}
use Rattle.deck_tools.specs.declared.fault.DeckWriteFault.{DeckWriteFault}
use Rattle.deck_tools.specs.declared.fault.DeckWriteFault.TheVariants.{Memory, Wide, Write}

-- the sink gained the text
abbrev pub IsWritten : Result (List ℕ) (List ℕ) → Option (List ℕ) → Option (List ℕ) → Type 0
IsWritten text old new = (bytes : List ℕ) × (text ≡ Ok bytes) × Appends old new bytes

-- why the text was not written, and what the sink gained: nothing, or after a failed write a beginning of it
abbrev pub IsWriteCause : Result (List ℕ) (List ℕ) → Option (List ℕ) → Option (List ℕ) → DeckWriteFault → Type 0
IsWriteCause text old new (Wide name) = (text ≡ Err name) × (new ≡ old)
IsWriteCause text old new Write = (bytes : List ℕ) × (text ≡ Ok bytes) × AppendsPrefix old new bytes
IsWriteCause text old new Memory = new ≡ old

-- The answers of the reader.
use Rattle.std.specs.Prelude.{◌≡◌, ◌≢◌, ◌≤◌, ◌++◌, ℕ, List, [], length, Option, Some, None, IfSome}
use Rattle.io_ends.specs.Bytes.{Gives}
use Rattle.lp_text.specs.Limits.{byte_limit}
use Rattle.mps_cards.specs.ReaderState.{ReaderState}
use Rattle.mps_cards.specs.declared.faults.ReadFault.TheVariants.{Read, TooMany}
use Rattle.lp_text.specs.declared.Form.{Form}
use Rattle.lp_text.specs.declared.LineFault.TheVariants.{Limit}
use Rattle.lp_text.specs.declared.Counted.TheVariants.{Bytes}
use Rattle.mps_model.specs.DeckOf.{TextFault, HasFault, IsOpen, crossed_bounds, in_line, no_end, no_objective}
use Rattle.mps_reader.specs.declared.faults.DeckFault.{DeckFault}
use Rattle.mps_reader.specs.declared.faults.DeckFault.TheVariants as fault
use Rattle.mps_reader.specs.Faults.{text_fault}

-- a reader that has answered no line
pub record IsFresh (reader : ReaderState) : Type 0 where
  pub sound : reader.fault ≡ None
  pub count : reader.count ≡ 0
  pub since : reader.since ≡ 0

-- a fault of the text is its first; want of memory and a failed read are none of the text
abbrev pub IsFaultOf : Form → Option (List ℕ) → DeckFault → Type 0
IsFaultOf form text fault = IfSome (text_fault fault) (λ first. IfSome text (λ t. HasFault form t first))

-- a reader that has given no fault, and has answered so many lines
pub record HasAnswered (n : ℕ) (reader : ReaderState) : Type 0 where
  pub sound : reader.fault ≡ None
  pub count : reader.count ≡ n

-- where the reader stands at a text's fault: past the limit of bytes it gives that fault again; else it is behind the line whose card has the fault, at the
-- end of the text, or behind lines that are not said where the deck's end has it
abbrev pub StandsAt : TextFault → ReaderState → Type 0
StandsAt (in_line n (Limit Bytes)) reader = reader.fault ≡ Some (TooMany n)
StandsAt (in_line n other) reader = HasAnswered n reader
StandsAt (no_end n) reader = HasAnswered n reader
StandsAt no_objective reader = reader.fault ≡ None
StandsAt (crossed_bounds name) reader = reader.fault ≡ None

-- where the reader stands after a fault; nothing is said after want of memory
pub record StandsAfter (given : DeckFault) (reader : ReaderState) : Type 0 where
  -- a failed read is given again
  pub failed : given ≡ fault.Read → reader.fault ≡ Some Read
  pub found : IfSome (text_fault given) (λ first. StandsAt first reader)

-- a read is needed to go on after these bytes: none of their whole lines has a fault or ends the deck, and they are no more than a deck may have
pub record IsReadNeeded (form : Form) (bytes : List ℕ) : Type 0 where
  pub lines : IsOpen form bytes
  pub within : length bytes ≤ byte_limit

-- a read failed that was needed after what was kept and what was taken
abbrev pub IsReadFault : Form → List ℕ → Option (List ℕ) → Option (List ℕ) → Type 0
IsReadFault form kept old new = IfSome old (λ text. (taken : List ℕ) × Gives (Some text) new taken × IsReadNeeded form (kept ++ taken))

-- the bytes taken from a source that had this text left came by reads that were needed, the last of up to 4,096 bytes
pub record ReadsAsNeeded (form : Form) (kept text : List ℕ) (new : Option (List ℕ)) : Type 0 where
  pub earlier : List ℕ
  pub last : List ℕ
  pub given : Gives (Some text) new (earlier ++ last)
  pub few : length last ≤ 4096
  pub needed : earlier ++ last ≢ [] → IsReadNeeded form (kept ++ earlier)

-- the source was read as needed, where it tells what it had left
abbrev pub IsReadAsNeeded : Form → List ℕ → Option (List ℕ) → Option (List ℕ) → Type 0
IsReadAsNeeded form kept old new = IfSome old (λ text. ReadsAsNeeded form kept text new)

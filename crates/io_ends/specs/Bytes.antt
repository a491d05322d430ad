-- What reads and writes do to the bytes of an end that tells them: `Some` of the bytes. At `None` an end tells
-- nothing, and each word below then says no more than that it goes on telling nothing.
use Rattle.std.specs.Prelude.{◌≡◌, ℕ, ◌≤◌, List, Option, length, take}
use Rattle.std.specs.Io.KnownBytes.{append_known, prepend_known}

-- a source gave these bytes: what it had left is these bytes and then what it has left now
abbrev pub Gives : Option (List ℕ) → Option (List ℕ) → List ℕ → Type 0
Gives old new bytes = old ≡ prepend_known bytes new

-- a sink gained these bytes at its end
abbrev pub Appends : Option (List ℕ) → Option (List ℕ) → List ℕ → Type 0
Appends old new bytes = new ≡ append_known old bytes

-- a sink gained the first bytes of a text at its end: none, some or all of them
pub record AppendsPrefix (old new : Option (List ℕ)) (text : List ℕ) : Type 0 where
  pub count : ℕ
  pub within : count ≤ length text
  pub appended : Appends old new (take count text)

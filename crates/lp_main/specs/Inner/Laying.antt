-- What the parts of writing a deck answer.
use Rattle.std.specs.Prelude.{◌≡◌, ℕ, List, Option, Result, Ok, Err}
use Rattle.io_ends.specs.Bytes.{AppendsPrefix}
use Rattle.lp_main.specs.declared.refusal.Refusal.{Refusal}
use Rattle.lp_main.specs.declared.refusal.Refusal.TheVariants as refusal

-- why this text was not written, and what the sink gained of it
abbrev pub IsUnwritten : Result (List ℕ) (List ℕ) → Option (List ℕ) → Option (List ℕ) → Refusal → Type 0
IsUnwritten text old new (refusal.Wide name) = (text ≡ Err name) × (new ≡ old)
IsUnwritten text old new refusal.Write = (bytes : List ℕ) × (text ≡ Ok bytes) × AppendsPrefix old new bytes
IsUnwritten text old new refusal.Memory = new ≡ old
IsUnwritten text old new other = ⊥

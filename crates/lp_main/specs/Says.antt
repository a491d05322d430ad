-- What a line on standard error leaves there.
use Rattle.std.specs.Prelude.{◌⊎◌, ◌≡◌, ℕ, List}
use Rattle.io_ends.specs.Bytes.{Appends, AppendsPrefix}
use Rattle.io_ends.specs.Count.{Rose}
use Rattle.lp_main.specs.World.{Stream}

-- a sink gained the line without a fault, or, where its count of faults rose, the beginning of it
abbrev pub Says : Stream → Stream → List ℕ → Type 0
Says old new line = (Appends old.bytes new.bytes line × (new.faults ≡ old.faults)) ⊎ (AppendsPrefix old.bytes new.bytes line × Rose old.faults new.faults)

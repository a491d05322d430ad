-- An end over a reader or a writer of std.
use Rattle.std.specs.Prelude.{ℕ}

-- the reader or writer, and how many calls failed
pub record Adapted (T : Type 0) : Type 0 where
  pub stream : T
  pub faults : ℕ

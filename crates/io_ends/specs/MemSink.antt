-- A sink in memory.
use Rattle.std.specs.Prelude.{ℕ, List}

-- what it holds, how many more bytes it has room for, the numbers of the writes that fail, how many writes were
-- made, and how many failed
pub record SinkState : Type 0 where
  pub held : List ℕ
  pub free : ℕ
  pub failing : List ℕ
  pub calls : ℕ
  pub faults : ℕ

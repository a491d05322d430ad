-- A source in memory.
use Rattle.std.specs.Prelude.{ℕ, List}

-- what it has left to give, the numbers of the reads that fail, how many reads were made, and how many failed
pub record SourceState : Type 0 where
  pub left : List ℕ
  pub failing : List ℕ
  pub calls : ℕ
  pub faults : ℕ

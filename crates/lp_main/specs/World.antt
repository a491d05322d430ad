-- What a call of the program finds and what it leaves.
use Rattle.std.specs.Prelude.{ℕ, List, Option}

-- an end: the bytes that it tells, where it tells them, and its count of faults
pub record Stream : Type 0 where
  pub bytes : Option (List ℕ)
  pub faults : ℕ

-- what is left of the input, and what stands in the output and on standard error
pub record World : Type 0 where
  pub input : Stream
  pub output : Stream
  pub errors : Stream

abbrev pub stream : Option (List ℕ) → ℕ → Stream
stream bytes faults = record { bytes = bytes; faults = faults }

abbrev pub world : Stream → Stream → Stream → World
world input output errors = record { input = input; output = output; errors = errors }

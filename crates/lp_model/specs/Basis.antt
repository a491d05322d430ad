-- A basis as it is told: which columns are basic, and which others stand at their upper ends.
use Rattle.std.specs.Prelude.{ℕ, List}

-- the basic columns by position, and the nonbasic columns at their upper ends
pub record Basis : Type 0 where
  pub basic : List ℕ
  pub upper : List ℕ

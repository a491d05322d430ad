-- One order of the numbers below a length.
use Rattle.std.specs.Prelude.{ℕ, ◌+◌, Option, Some, None, List, [], ◌∷◌, ◌++◌, nat_lt, if◌then◌else◌, length}
use Rattle.std.specs.List.{range_with_len}
use Rattle.std.specs.List.Sorted.{IsPermutation}
use Rattle.chain_links.specs.Lists.{without}
use Rattle.chain_links.specs.Links.{BothWays, ring, IsClosed}

-- each number below the order's length stands in it once
abbrev pub IsWhole : List ℕ → Type 0
IsWhole order = IsPermutation (range_with_len 0 (length order)) order

-- the order with p at its end
abbrev pub order_with_last : List ℕ → ℕ → List ℕ
order_with_last order p = without p order ++ p ∷ []

-- the node, where it is a position
abbrev pub position_of : ℕ → ℕ → Option ℕ
position_of node len = if nat_lt node len then Some node else None

-- what links stand for: the ring of the node behind the positions
abbrev pub order_of : BothWays → ℕ → List ℕ
order_of links len = ring links len len

-- the links close one ring, of all positions
pub record IsOrdered (links : BothWays) (len : ℕ) : Type 0 where
  pub closed : IsClosed links len (len + 1)
  pub whole : IsPermutation (range_with_len 0 len) (order_of links len)

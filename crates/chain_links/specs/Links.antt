-- Links between nodes, both ways, and the paths along them.
use Rattle.std.specs.Prelude.{◌≡◌, ℕ, zero, suc, ◌<◌, ◌≤◌, List, [], ◌∷◌, nat_lt, if◌then◌else◌, length, slice_index, slice_set}
use Rattle.std.specs.List.{All, range_with_len}

-- for each node the next one and the previous one
pub record BothWays : Type 0 where
  pub next : List ℕ
  pub prev : List ℕ

-- the node behind x, and the node before it
abbrev pub next_of : BothWays → ℕ → ℕ
next_of l x = slice_index l.next x

abbrev pub prev_of : BothWays → ℕ → ℕ
prev_of l x = slice_index l.prev x

-- the links, with node b put behind node a
abbrev pub with_link : BothWays → ℕ → ℕ → BothWays
with_link l a b = record { next = slice_set l.next a b; prev = slice_set l.prev b a }

-- the links, with the neighbours of node i with_link over it
abbrev pub without_node : BothWays → ℕ → BothWays
without_node l i = with_link l (prev_of l i) (next_of l i)

-- the links, with node i put before node h
abbrev pub with_node_before : BothWays → ℕ → ℕ → BothWays
with_node_before l i h = with_link (with_link l (prev_of l h) i) i h

-- the links read the other way round
abbrev pub flipped : BothWays → BothWays
flipped l = record { next = l.prev; prev = l.next }

-- node y is the next of x, and x the previous of y
abbrev pub AreLinked : BothWays → ℕ → ℕ → Type 0
AreLinked l x y = (next_of l x ≡ y) × (prev_of l y ≡ x)

-- the links lead from node x through the nodes xs to node e
abbrev pub Leads : BothWays → ℕ → List ℕ → ℕ → Type 0
Leads l x [] e = AreLinked l x e
Leads l x (y ∷ ys) e = AreLinked l x y × Leads l y ys e

-- the items, numbers below `items`, that are met from node x on: at most `most`, and up to a node that is no item
abbrev pub items_from : List ℕ → ℕ → ℕ → ℕ → List ℕ
items_from next items zero x = []
items_from next items (suc most) x = if nat_lt x items then x ∷ items_from next items most (slice_index next x) else []

-- the items that are met from node h on, h left out
abbrev pub ring : BothWays → ℕ → ℕ → List ℕ
ring l items h = items_from l.next items items (next_of l h)

-- the links of n nodes, each to a node
pub record HasNodes (l : BothWays) (n : ℕ) : Type 0 where
  pub next_len : length l.next ≡ n
  pub prev_len : length l.prev ≡ n
  pub next_nodes : All (λ x. x < n) l.next
  pub prev_nodes : All (λ x. x < n) l.prev

-- of n nodes those below `items` are items; from each other node, through items alone, the links lead back to it
pub record IsClosed (l : BothWays) (items n : ℕ) : Type 0 where
  pub nodes : HasNodes l n
  pub closed : (h : ℕ) → items ≤ h → h < n → Leads l h (ring l items h) h

-- the links of n nodes, each to itself
abbrev pub loops : ℕ → BothWays
loops n = record { next = range_with_len 0 n; prev = range_with_len 0 n }

-- Chains of counts: for each count the list of its items.
use Rattle.std.specs.Prelude.{◌≡◌, ◌≢◌, ℕ, ◌+◌, ◌^◌, ◌<◌, List, [], ◌∷◌, ◌++◌, true, map, length, slice_index_or, slice_set}
use Rattle.std.specs.List.{All, Contains, IsDistinct, range_with_len}
use Rattle.std.specs.Prelude.{nat_eq}
use Rattle.chain_links.specs.Lists.{has, without}
use Rattle.chain_links.specs.Links.{BothWays, next_of, ring, IsClosed}

-- how many items there are, and for each count the list of its items
pub record Chains : Type 0 where
  pub items : ℕ
  pub lists : List (List ℕ)

-- the items of a count
abbrev pub list_at : Chains → ℕ → List ℕ
list_at chains c = slice_index_or chains.lists c []

-- the item i stands in the list of some count
abbrev pub IsPlaced : Chains → ℕ → Type 0
IsPlaced chains i = (c : ℕ) × (c < length chains.lists) × Contains (list_at chains c) i

-- the chains with i at the end of the list of count c
abbrev pub with_item : Chains → ℕ → ℕ → Chains
with_item chains i c = record chains { lists = slice_set chains.lists c (list_at chains c ++ i ∷ []) }

-- the chains with i taken out
abbrev pub without_item : Chains → ℕ → Chains
without_item chains i = record chains { lists = map (without i) chains.lists }

-- the chains with another list of count c
abbrev pub with_list : Chains → ℕ → List ℕ → Chains
with_list chains c xs = record chains { lists = slice_set chains.lists c xs }

-- the lists hold items, and each item stands in one list at most, and there once
pub record IsChained (chains : Chains) : Type 0 where
  pub below : (c : ℕ) → All (λ i. i < chains.items) (list_at chains c)
  pub once : (c : ℕ) → IsDistinct nat_eq (list_at chains c)
  pub apart : (c d i : ℕ) → Contains (list_at chains c) i → Contains (list_at chains d) i → c ≡ d

-- what links stand for: the ring of each count
abbrev pub chains_of : BothWays → ℕ → ℕ → Chains
chains_of links items counts = record { items = items; lists = map (λ c. ring links items (items + c)) (range_with_len 0 counts) }

-- the links close a ring for each count, and an item in none of them is linked to itself
pub record IsLinked (links : BothWays) (items counts : ℕ) : Type 0 where
  pub fits : items + counts < 2 ^ 64
  pub closed : IsClosed links items (items + counts)
  pub loose : (i : ℕ) → i < items → next_of links i ≢ i → (c : ℕ) × (c < counts) × (has i (ring links items (items + c)) ≡ true)

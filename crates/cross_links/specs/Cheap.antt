-- Inner: the rows and the columns of one entry, by the row of that entry.
use Rattle.std.specs.Prelude.{◌≡◌, ℕ, ◌<◌, ◌≤◌, ◌⊎◌, Bool, true, false, List, [], ◌∷◌, Option, Some, None, length, ◌==◌}
use Rattle.std.specs.List.{Contains}
use Rattle.flag_tree.specs.Flags.{is_set}
use Rattle.count_chain.specs.Chains.{Chains, list_at, with_item, without_item, IsChained}
use Rattle.cross_links.specs.declared.cheap.Cheap.{Cheap}
use Rattle.cross_links.specs.Matrix.{Entry, Matrix, row, col, at_link, row_in}

-- whether a list has one item, and whether it has any
abbrev pub is_one : List ℕ → Bool
is_one xs = length xs == 1

abbrev pub has_some : List ℕ → Bool
has_some [] = false
has_some (x ∷ xs) = true

-- the row of the entry of a column of one entry
abbrev pub lone_in : List (Option Entry) → List ℕ → Option ℕ
lone_in entries [] = None
lone_in entries (l ∷ []) = Some (row_in (at_link entries l))
lone_in entries (l ∷ (k ∷ ls)) = None

abbrev pub lone_row : Matrix → ℕ → Option ℕ
lone_row a c = lone_in a.entries (col a c)

-- an item out of the list that it is in, and into another
abbrev pub taken : Chains → ℕ → Option ℕ → Chains
taken chains i None = chains
taken chains i (Some r) = without_item chains i

abbrev pub placed : Chains → ℕ → Option ℕ → Chains
placed chains i None = chains
placed chains i (Some r) = with_item chains i r

-- a list is flagged where it has an item
pub record IsFlagged (h : Cheap) : Type 0 where
  pub len : length h.lone.lists ≤ length h.holders
  pub flags : (r : ℕ) → is_set h.holders r ≡ has_some (list_at h.lone r)
  pub chained : IsChained h.lone

-- the rows of one entry are flagged, each column of one entry is in the list of the row of that entry, and these rows are flagged
pub record IsCheap (a : Matrix) (h : Cheap) : Type 0 where
  pub singles_len : a.size ≤ length h.singles
  pub singles : (r : ℕ) → is_set h.singles r ≡ is_one (row a r)
  pub flagged : IsFlagged h
  pub items : h.lone.items ≡ a.size
  pub lists : length h.lone.lists ≡ a.size
  pub held : (c r : ℕ) → lone_row a c ≡ Some r → Contains (list_at h.lone r) c
  pub only : (c r : ℕ) → Contains (list_at h.lone r) c → lone_row a c ≡ Some r

-- row r is flagged for one reason or the other
abbrev pub IsMarked : Cheap → ℕ → Type 0
IsMarked h r = (is_set h.singles r ≡ true) ⊎ (is_set h.holders r ≡ true)

-- row r is the first that is
pub record IsFirstMarked (h : Cheap) (r : ℕ) : Type 0 where
  pub marked : IsMarked h r
  pub first : (i : ℕ) → i < r → IsMarked h i → ⊥

-- c is the least of the items
pub record IsLeastIn (xs : List ℕ) (c : ℕ) : Type 0 where
  pub held : Contains xs c
  pub least : (d : ℕ) → Contains xs d → c ≤ d

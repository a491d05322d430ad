-- Lists of items: what is in one, what it is without an item, and what stands next to an item.
use Rattle.std.specs.Prelude.{◌≢◌, ℕ, Bool, Option, None, Some, List, [], ◌∷◌, not, ◌==◌, if◌then◌else◌, reverse, slice_get}
use Rattle.std.specs.List.{All, filter, list_any}

-- whether the item i is in the list
abbrev pub has : ℕ → List ℕ → Bool
has i xs = list_any (λ x. i == x) xs

-- the item i is not in the list
abbrev pub Lacks : ℕ → List ℕ → Type 0
Lacks i xs = All (λ x. x ≢ i) xs

-- the list with each i taken out
abbrev pub without : ℕ → List ℕ → List ℕ
without i xs = filter (λ x. not (x == i)) xs

-- the item behind i
abbrev pub after : ℕ → List ℕ → Option ℕ
after i [] = None
after i (x ∷ xs) = if x == i then slice_get xs 0 else after i xs

-- the item before i
abbrev pub before : ℕ → List ℕ → Option ℕ
before i xs = after i (reverse xs)

-- the list from item x on
abbrev pub from : ℕ → List ℕ → List ℕ
from x [] = []
from x (y ∷ ys) = if y == x then y ∷ ys else from x ys

-- what is left of a list that is followed, where the next item is known
abbrev pub rest : Option ℕ → List ℕ → List ℕ
rest None xs = []
rest (Some x) xs = from x xs

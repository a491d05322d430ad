-- Inner: the tree that has the flags in its leaves. Node 1 is the root, and nodes 2k and 2k + 1 stand below node k.
use Rattle.std.specs.Prelude.{◌≡◌, ℕ, ◌+◌, ◌*◌, ◌^◌, ◌<◌, Bool, ◌||◌, List, length}
use Rattle.flag_tree.specs.Flags.{is_set}

-- each inner node but k is set exactly where one below it is
abbrev pub AreJoinedBut : ℕ → ℕ → List Bool → Type 0
AreJoinedBut k leaves nodes = (j : ℕ) → 0 < j → j < leaves → (j ≡ k → ⊥) → is_set nodes j ≡ (is_set nodes (2 * j) || is_set nodes (2 * j + 1))

-- each inner node of the whole tree is
pub record IsTree (height leaves : ℕ) (nodes : List Bool) : Type 0 where
  pub leaves_are : leaves ≡ 2 ^ height
  pub len : length nodes ≡ 2 * leaves
  pub joined : AreJoinedBut 0 leaves nodes

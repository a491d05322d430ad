-- One direction of the matrix: the lists of its lines, their counts and the buckets of the counts.
use Rattle.std.specs.Prelude.{◌≡◌, ℕ, ◌+◌, ◌<◌, ◌≤◌, Bool, true, List, Option, Some, None, length, slice_index_or}
use Rattle.std.specs.List.{Contains}
use Rattle.count_chain.specs.Chains.{Chains, list_at, IsChained}
use Rattle.cross_links.specs.declared.side.Side.{Side}
use Rattle.cross_links.specs.Matrix.{Matrix, is_active, IsLink, IsNotWorse}

-- each line that was not removed stands in the bucket of its count, and no other line in a bucket
pub record IsBucketed (lines : Chains) (active : List Bool) (buckets : Chains) : Type 0 where
  pub items : buckets.items ≡ length lines.lists
  pub lists : length buckets.lists ≡ length lines.lists + 1
  pub chained : IsChained buckets
  pub placed : (i : ℕ) → is_active active i ≡ true → Contains (list_at buckets (length (list_at lines i))) i
  pub counted : (i k : ℕ) → Contains (list_at buckets k) i → (is_active active i ≡ true) × (length (list_at lines i) ≡ k)

-- the counts are those of the lists, and the buckets those of the counts
pub record IsKept (side : Side) : Type 0 where
  pub chained : IsChained side.lines
  pub counts_len : length side.counts.items ≡ length side.lines.lists
  pub counts : (i : ℕ) → slice_index_or side.counts.items i 0 ≡ length (list_at side.lines i)
  pub active_len : length side.active.items ≡ length side.lines.lists
  pub bucketed : IsBucketed side.lines side.active.items side.buckets

-- the link that a search holds is that of an entry
abbrev pub IsLinkIfSome : Matrix → Option ℕ → Type 0
IsLinkIfSome a None = Unit {0}
IsLinkIfSome a (Some l) = IsLink a l

-- the search holds an entry that is not worse
abbrev pub Covers : Matrix → Option ℕ → ℕ → Type 0
Covers a None k = ⊥
Covers a (Some l) k = IsNotWorse a l k

-- of the links below total those from first up to last stand in the one list
pub record AreFree (first last total : ℕ) (free : Chains) : Type 0 where
  pub items : free.items ≡ total
  pub lists : length free.lists ≡ 1
  pub chained : IsChained free
  pub held : (l : ℕ) → first ≤ l → l < last → Contains (list_at free 0) l
  pub only : (l k : ℕ) → Contains (list_at free k) l → (first ≤ l) × (l < last)

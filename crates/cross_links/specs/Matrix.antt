-- The active part of a matrix: its entries, linked by rows and by columns.
use Rattle.std.specs.Prelude.{◌≡◌, ℕ, ◌+◌, ◌-◌, ◌*◌, ◌^◌, ◌<◌, ◌≤◌, ◌⊎◌, Bool, false, List, [], ◌∷◌, ◌++◌, Option, Some, None, map, length, slice_index_or, slice_set, IsSome, nat_eq}
use Rattle.std.specs.List.{Contains, IsDistinct}
use Rattle.rational.specs.Rational.{ℚ, zero_ℚ}
use Rattle.chain_links.specs.Lists.{without}

-- an entry: its row, its column and its value
abbrev pub Entry : Type 0
Entry = ℕ × ℕ × ℚ

-- how many rows and columns there are; what stands at each link; for each row the links of its entries in order,
-- and the same for each column; and which rows and columns were not removed
pub record Matrix : Type 0 where
  pub size : ℕ
  pub entries : List (Option Entry)
  pub rows : List (List ℕ)
  pub cols : List (List ℕ)
  pub active_rows : List Bool
  pub active_cols : List Bool

-- the links of a line, which is a row or a column
abbrev pub line : List (List ℕ) → ℕ → List ℕ
line lines i = slice_index_or lines i []

abbrev pub row : Matrix → ℕ → List ℕ
row a r = line a.rows r

abbrev pub col : Matrix → ℕ → List ℕ
col a c = line a.cols c

-- the line of index i was not removed
abbrev pub is_active : List Bool → ℕ → Bool
is_active active i = slice_index_or active i false

-- what stands at a link
abbrev pub at_link : List (Option Entry) → ℕ → Option Entry
at_link entries l = slice_index_or entries l None

abbrev pub entry_at : Matrix → ℕ → Option Entry
entry_at a l = at_link a.entries l

-- an entry stands at the link
abbrev pub IsLink : Matrix → ℕ → Type 0
IsLink a l = IsSome (entry_at a l)

-- the row and the column of an entry
abbrev pub row_in : Option Entry → ℕ
row_in None = 0
row_in (Some e) = e.0

abbrev pub col_in : Option Entry → ℕ
col_in None = 0
col_in (Some e) = e.1

abbrev pub row_of : Matrix → ℕ → ℕ
row_of a l = row_in (entry_at a l)

abbrev pub col_of : Matrix → ℕ → ℕ
col_of a l = col_in (entry_at a l)

-- an entry stands in row r and column c
abbrev pub Has : Matrix → ℕ → ℕ → Type 0
Has a r c = (l : ℕ) × IsLink a l × (row_of a l ≡ r) × (col_of a l ≡ c)

-- in one direction: the list of a line has the links of its entries, each once, and that of a removed line none
pub record IsSide (size : ℕ) (entries : List (Option Entry)) (line_in : Option Entry → ℕ) (lines : List (List ℕ)) (active : List Bool) : Type 0 where
  pub lines_len : length lines ≡ size
  pub active_len : length active ≡ size
  pub held : (l : ℕ) → IsSome (at_link entries l) → Contains (line lines (line_in (at_link entries l))) l
  pub only : (i l : ℕ) → Contains (line lines i) l → IsSome (at_link entries l) × (line_in (at_link entries l) ≡ i)
  pub once : (i : ℕ) → IsDistinct nat_eq (line lines i)
  pub removed : (i : ℕ) → is_active active i ≡ false → line lines i ≡ []

-- both directions have the links of the same entries, no two of which stand in one place
pub record IsMatrix (a : Matrix) : Type 0 where
  pub small : a.size < 2 ^ 16
  pub rows : IsSide a.size a.entries row_in a.rows a.active_rows
  pub cols : IsSide a.size a.entries col_in a.cols a.active_cols
  pub apart : (l k : ℕ) → IsLink a l → IsLink a k → row_of a l ≡ row_of a k → col_of a l ≡ col_of a k → l ≡ k

-- the row and the value of an entry, and those of each entry of column c in order
abbrev pub pair_in : Option Entry → ℕ × ℚ
pair_in None = (0, zero_ℚ)
pair_in (Some e) = (e.0, e.2)

abbrev pub col_pairs : Matrix → ℕ → List (ℕ × ℚ)
col_pairs a c = map (λ l. pair_in (entry_at a l)) (col a c)

-- the matrix with the value of an entry changed
abbrev pub with_value : Matrix → ℕ → ℚ → Matrix
with_value a l v = record a { entries = slice_set a.entries l (Some (row_of a l, col_of a l, v)) }

-- the matrix with an entry more, at the end of its row and of its column
abbrev pub with_entry : Matrix → ℕ → Entry → Matrix
with_entry a l e = record a { entries = slice_set a.entries l (Some e); rows = slice_set a.rows e.0 (row a e.0 ++ l ∷ []); cols = slice_set a.cols e.1 (col a e.1 ++ l ∷ []) }

-- the matrix without an entry, and without some
abbrev pub without_entry : Matrix → ℕ → Matrix
without_entry a l = record a { entries = slice_set a.entries l None; rows = map (without l) a.rows; cols = map (without l) a.cols }

abbrev pub without_entries : List ℕ → Matrix → Matrix
without_entries [] a = a
without_entries (l ∷ ls) a = without_entries ls (without_entry a l)

-- the matrix without the entries of row r, which is removed, and the same of column c
abbrev pub retired_row : Matrix → ℕ → Matrix
retired_row a r = record a { active_rows = slice_set a.active_rows r false }

abbrev pub retired_col : Matrix → ℕ → Matrix
retired_col a c = record a { active_cols = slice_set a.active_cols c false }

abbrev pub without_row : Matrix → ℕ → Matrix
without_row a r = retired_row (without_entries (row a r) a) r

abbrev pub without_col : Matrix → ℕ → Matrix
without_col a c = retired_col (without_entries (col a c) a) c

-- the same entries in the same order; only where an entry stands at each link there may be links more, and few
pub record IsGrown (a b : Matrix) : Type 0 where
  pub size : b.size ≡ a.size
  pub same : (l : ℕ) → entry_at b l ≡ entry_at a l
  pub rows : b.rows ≡ a.rows
  pub cols : b.cols ≡ a.cols
  pub active_rows : b.active_rows ≡ a.active_rows
  pub active_cols : b.active_cols ≡ a.active_cols
  pub used_again : length a.entries < length b.entries → (l : ℕ) → l < length a.entries → IsLink a l
  pub few : length b.entries ≤ 2 * length a.entries + 1

-- the matrix b is a with an entry more, at a link at which none stood
pub record IsFilled (a : Matrix) (l : ℕ) (e : Entry) (b : Matrix) : Type 0 where
  pub free : entry_at a l ≡ None
  pub size : b.size ≡ a.size
  pub entry : entry_at b l ≡ Some e
  pub others : (k : ℕ) → (k ≡ l → ⊥) → entry_at b k ≡ entry_at a k
  pub rows : b.rows ≡ slice_set a.rows e.0 (row a e.0 ++ l ∷ [])
  pub cols : b.cols ≡ slice_set a.cols e.1 (col a e.1 ++ l ∷ [])
  pub active_rows : b.active_rows ≡ a.active_rows
  pub active_cols : b.active_cols ≡ a.active_cols
  -- more links are made only where an entry stands at each, and then at most twice as many and one
  pub used_again : length a.entries < length b.entries → (k : ℕ) → k < length a.entries → IsLink a k
  pub few : length b.entries ≤ 2 * length a.entries + 1

-- how many fills an elimination with the pivot in row r and column c makes at most
abbrev pub cost : Matrix → ℕ → ℕ → ℕ
cost a r c = (length (row a r) - 1) * (length (col a c) - 1)

abbrev pub cost_of : Matrix → ℕ → ℕ
cost_of a l = cost a (row_of a l) (col_of a l)

-- the entry at link l costs less than that at k, or the same in an earlier row, or in the same row and no later column
abbrev pub IsNotWorse : Matrix → ℕ → ℕ → Type 0
IsNotWorse a l k =
    (cost_of a l < cost_of a k) ⊎ ((cost_of a l ≡ cost_of a k) × ((row_of a l < row_of a k) ⊎ ((row_of a l ≡ row_of a k) × (col_of a l ≤ col_of a k))))

-- no entry is better than the one at the link
pub record IsLeast (a : Matrix) (l : ℕ) : Type 0 where
  pub is_link : IsLink a l
  pub least : (k : ℕ) → IsLink a k → IsNotWorse a l k

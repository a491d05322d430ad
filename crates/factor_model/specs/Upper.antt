-- Triangular forms: columns by position, a row paired with each position, and an order of the positions, along which no column has
-- an entry in the row of a later position.
use Rattle.std.specs.Prelude.{◌≡◌, ◌≢◌, ℕ, ◌+◌, ◌<◌, ◌⊎◌, List, [], ◌∷◌, length, map, replicate, reverse, slice_index_or, slice_set}
use Rattle.std.specs.List.{range_with_len, sum_by}
use Rattle.std.specs.List.Sorted.{IsPermutation}
use Rattle.rational.specs.Rational.{ℚ, zero_ℚ, ◌*ℚ◌}
use Rattle.rational.specs.Sum.{at, sum_ℚ}
use Rattle.rational.specs.Worked.{Worked, done, bind, quotient}
use Rattle.rational.specs.Lines.{gather, subtract}
use Rattle.sparse_cols.specs.Sparse.{Sparse, IsRising}
use Rattle.factor_model.specs.Vectors.{entry}

-- the columns by position, the row paired with each position, and the order of the positions
pub record Triangle : Type 0 where
  pub columns : List (Sparse ℚ)
  pub rows : List ℕ
  pub order : List ℕ

-- the stored entries of a position's column
abbrev pub column : Triangle → ℕ → List (ℕ × ℚ)
column u p = (slice_index_or u.columns p (record { length = 0; pairs = [] })).pairs

-- the row paired with a position
abbrev pub row_of : Triangle → ℕ → ℕ
row_of u p = slice_index_or u.rows p 0

-- the entry in a row of a position's column
abbrev pub cell : Triangle → ℕ → ℕ → ℚ
cell u i p = entry (column u p) i

abbrev pub diagonal : Triangle → ℕ → ℚ
diagonal u p = cell u (row_of u p) p

-- two positions of which the first may stand before the second: the second's row has no entry in the first's column
pub record ComesBefore (u : Triangle) (p q : ℕ) : Type 0 where
  pub apart : p ≢ q
  pub other_rows : row_of u p ≢ row_of u q
  pub no_entry : cell u (row_of u q) p ≡ zero_ℚ

-- the number x is one of the list
abbrev pub In : ℕ → List ℕ → Type 0
In x [] = ⊥
In x (y ∷ ys) = (x ≡ y) ⊎ In x ys

-- each item of a list stands so to each later one
abbrev pub Pairwise : (ℕ → ℕ → Type 0) → List ℕ → Type 0
Pairwise R [] = Unit {0}
Pairwise R (x ∷ xs) = ((y : ℕ) → In y xs → R x y) × Pairwise R xs

-- a triangular form of n positions, with no 0 on its diagonal
pub record IsUpper (n : ℕ) (u : Triangle) : Type 0 where
  pub column_count : length u.columns ≡ n
  pub row_count : length u.rows ≡ n
  pub rising : (p : ℕ) → IsRising n 0 (column u p)
  pub whole : IsPermutation (range_with_len 0 n) u.order
  pub paired : IsPermutation (range_with_len 0 n) (map (row_of u) u.order)
  pub triangular : Pairwise (ComesBefore u) u.order
  pub nonzero : (p : ℕ) → p < n → diagonal u p ≢ zero_ℚ

-- ---- solving for a column

-- the vector less x times a position's column; x is left in the position's row, which no later step reads
unfoldable pub place_one : Triangle → List ℚ → ℕ → ℚ → Worked (List ℚ)
unfolding bind done
place_one u v p x = bind (subtract (row_of u p) x v (column u p)) (λ rest. done (slice_set rest (row_of u p) x))

-- the step of one position: its item is that of its row by the diagonal
unfoldable pub solve_one : Triangle → List ℚ → ℕ → Worked (List ℚ)
unfolding bind quotient place_one
solve_one u v p = bind (quotient (at v (row_of u p)) (diagonal u p)) (place_one u v p)

-- the vector after these positions, from the last one on
abbrev pub solve_rows : Triangle → List ℚ → List ℕ → Worked (List ℚ)
solve_rows u v [] = done v
solve_rows u v (p ∷ ps) = bind (solve_one u v p) (λ rest. solve_rows u rest ps)

-- a vector by row as one by position
abbrev pub by_position : Triangle → List ℚ → List ℚ
by_position u v = map (λ p. at v (row_of u p)) (range_with_len 0 (length u.rows))

-- the x with U·x = v
abbrev pub solve : Triangle → List ℚ → Worked (List ℚ)
solve u v = bind (solve_rows u v (reverse u.order)) (λ rows. done (by_position u rows))

-- ---- solving for a row

-- the item of z in a position's row, where those of all earlier positions are known
unfoldable pub back_item : Triangle → List ℚ → List ℚ → ℕ → Worked ℚ
unfolding bind quotient
back_item u c z p = bind (gather (row_of u p) z (at c p) (column u p)) (λ rest. quotient rest (diagonal u p))

-- the vector z after these positions, from the first one on
abbrev pub solve_positions : Triangle → List ℚ → List ℚ → List ℕ → Worked (List ℚ)
solve_positions u c z [] = done z
solve_positions u c z (p ∷ ps) = bind (back_item u c z p) (λ item. solve_positions u c (slice_set z (row_of u p) item) ps)

-- the z with z·U = c
abbrev pub solve_back : Triangle → List ℚ → Worked (List ℚ)
solve_back u c = solve_positions u c (replicate (length u.rows) zero_ℚ) u.order

-- ---- what is solved

-- U·x = v, row by row
abbrev pub Solves : Triangle → List ℚ → List ℚ → Type 0
Solves u x v = (r : ℕ) → r < length u.rows → sum_ℚ (length u.rows) (λ p. cell u r p *ℚ at x p) ≡ at v r

-- z·U = c, position by position
abbrev pub SolvesBack : Triangle → List ℚ → List ℚ → Type 0
SolvesBack u z c = (p : ℕ) → p < length u.rows → sum_ℚ (length u.rows) (λ r. at z r *ℚ cell u r p) ≡ at c p

-- ---- work

-- at most so many products and quotients for these positions
abbrev pub solve_work : Triangle → List ℕ → ℕ
solve_work u ps = sum_by (λ p. 1 + length (column u p)) ps

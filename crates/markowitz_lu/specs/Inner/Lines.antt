-- The rows that a pivot changes, in the order in which they are linked.
use Rattle.std.specs.Prelude.{ℕ, List, [], ◌∷◌, Option, Some, None, map}
use Rattle.rational.specs.Rational.{ℚ, zero_ℚ}
use Rattle.rational.specs.Worked.{Worked, done, bind, less, quotient}
use Rattle.sparse_cols.specs.Sparse.{insert_pair}
use Rattle.factor_model.specs.Factoring.{Eliminated, with_entry}
use Rattle.cross_links.specs.Matrix.{Entry, Matrix, row, entry_at}

-- the column and the value of an entry, and those of each entry of row r in order
abbrev pub place_in : Option Entry → ℕ × ℚ
place_in None = (0, zero_ℚ)
place_in (Some e) = (e.1, e.2)

abbrev pub row_pairs : Matrix → ℕ → List (ℕ × ℚ)
row_pairs a r = map (λ l. place_in (entry_at a l)) (row a r)

-- row i less k times a row
abbrev pub less_line : ℕ → ℚ → (ℕ → ℕ → ℚ) → List (ℕ × ℚ) → Worked (ℕ → ℕ → ℚ)
less_line i k a [] = done a
less_line i k a ((p, u) ∷ row) = bind (less (a i p) k u) (λ x. less_line i k (with_entry a i p x) row)

-- each row with an entry in the pivot's column less its multiple of the pivot's row, and the multipliers by row
abbrev pub less_lines : ℚ → List (ℕ × ℚ) → (ℕ → ℕ → ℚ) → List (ℕ × ℚ) → List (ℕ × ℚ) → Worked Eliminated
less_lines u row a ks [] = done (a, ks)
less_lines u row a ks ((i, e) ∷ column) = bind (quotient e u) (λ k. bind (less_line i k a row) (λ b. less_lines u row b (insert_pair i k ks) column))

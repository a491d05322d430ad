-- The update of Forrest and Tomlin (1972): where a column of the matrix is replaced, one row operation takes out what the row of its
-- position has in the columns behind it, and the position comes to the end of the order with a new column. That is the spike, which the
-- operations before make of the matrix's new column, with its item in that row as the row operation leaves it: the new diagonal.
use Rattle.std.specs.Prelude.{◌≢◌, ℕ, ◌<◌, ◌==◌, List, [], ◌∷◌, ◌++◌, length, slice_set, if◌then◌else◌}
use Rattle.rational.specs.Rational.{ℚ, zero_ℚ}
use Rattle.rational.specs.Sum.{at}
use Rattle.rational.specs.Worked.{Worked, done, bind, less, quotient}
use Rattle.sparse_cols.specs.Sparse.{Sparse}
use Rattle.factor_model.specs.declared.Op.{Op}
use Rattle.factor_model.specs.declared.Op.TheVariants.{Row}
use Rattle.factor_model.specs.Vectors.{entry, vector, stored_pair, sparse}
use Rattle.factor_model.specs.Upper.{Triangle, row_of, cell, diagonal, Solves}
use Rattle.factor_model.specs.Edits.{clear_row, replace_column}

-- the positions behind p
abbrev pub behind : ℕ → List ℕ → List ℕ
behind p [] = []
behind p (q ∷ order) = if q == p then order else behind p order

-- a number less the product of each multiplier with the item in its row
abbrev pub less_multiples : (ℕ → ℚ) → ℚ → List (ℕ × ℚ) → Worked ℚ
less_multiples item x [] = done x
less_multiples item x ((i, k) ∷ ks) = bind (less x k (item i)) (λ rest. less_multiples item rest ks)

-- the multiplier of position s's row: what those before it leave of row r's entry in column s, by the diagonal of s
unfoldable pub multiplier : Triangle → ℕ → List (ℕ × ℚ) → ℕ → Worked ℚ
unfolding bind done less quotient
multiplier u r ks s = bind (less_multiples (λ i. cell u i s) (cell u r s) ks) (λ rest. quotient rest (diagonal u s))

-- the multipliers that are not 0, with their rows, after these positions
abbrev pub multipliers : Triangle → ℕ → List (ℕ × ℚ) → List ℕ → Worked (List (ℕ × ℚ))
multipliers u r ks [] = done ks
multipliers u r ks (s ∷ positions) = bind (multiplier u r ks s) (λ k. multipliers u r (ks ++ stored_pair (row_of u s) k) positions)

-- row i is that of none of these numbers
abbrev pub Lacks : ℕ → List (ℕ × ℚ) → Type 0
Lacks i [] = Unit {0}
Lacks i ((j, k) ∷ ks) = (j ≢ i) × Lacks i ks

-- each number has a row below n of its own
abbrev pub AreApart : ℕ → List (ℕ × ℚ) → Type 0
AreApart n [] = Unit {0}
AreApart n ((i, k) ∷ ks) = (i < n) × Lacks i ks × AreApart n ks

-- what an update works: the multipliers of the positions behind p, in their order, and the new diagonal
pub record RowEta : Type 0 where
  pub taken : List (ℕ × ℚ)
  pub pivot : ℚ

-- the update in position p, where the replaced column's spike is this
abbrev pub update : Triangle → ℕ → List ℚ → Worked RowEta
update u p spike =
    bind (multipliers u (row_of u p) [] (behind p u.order))
    (λ ks. bind (less_multiples (at spike) (at spike (row_of u p)) ks) (λ d. done (record { taken = ks; pivot = d })))

-- the row operation that it adds
abbrev pub row_operation : Triangle → ℕ → RowEta → Op
row_operation u p e = Row (row_of u p) (sparse (vector (length u.rows) (entry e.taken)))

-- the new column of position p
abbrev pub new_column : Triangle → ℕ → List ℚ → RowEta → Sparse ℚ
new_column u p spike e = sparse (slice_set spike (row_of u p) e.pivot)

-- the form that it leaves
abbrev pub updated_upper : Triangle → ℕ → List ℚ → RowEta → Triangle
updated_upper u p spike e = replace_column (clear_row u p) p (new_column u p spike e)

-- the operations and the form that it leaves
abbrev pub updated_parts : List Op → Triangle → ℕ → List ℚ → Worked (List Op × Triangle)
updated_parts ops u p spike = bind (update u p spike) (λ e. done (ops ++ row_operation u p e ∷ [], updated_upper u p spike e))

-- the form solves for the spike with a pivot element, the item in position p, that is not 0
abbrev pub HasPivot : Triangle → ℕ → List ℚ → Type 0
HasPivot u p spike = (x : List ℚ) × Solves u x spike × (at x p ≢ zero_ℚ)

-- the matrix with another column in position p
abbrev pub with_column : (ℕ → ℕ → ℚ) → ℕ → (ℕ → ℚ) → ℕ → ℕ → ℚ
with_column b p a i q = if q == p then a i else b i q

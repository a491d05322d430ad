-- Factors of a matrix, made by Gaussian elimination whose pivots are chosen by least Markowitz cost (Markowitz 1957).
use Rattle.std.specs.Prelude.{◌≡◌, ◌≢◌, ℕ, zero, suc, ◌*◌, ◌-◌, ◌<◌, Bool, not, ◌&&◌, ◌==◌, nat_lt, List, [], ◌∷◌, ◌++◌, length, map, count_by, Option, Some, None, if◌then◌else◌}
use Rattle.std.specs.List.{filter, flat_map}
use Rattle.rational.specs.Rational.{ℚ, zero_ℚ, eq_ℚ}
use Rattle.rational.specs.Matrix.{times_matrix}
use Rattle.rational.specs.Sparse.{upto}
use Rattle.rational.specs.Sum.{at}
use Rattle.rational.specs.Worked.{Worked, done, bind, less, quotient}
use Rattle.factor_model.specs.declared.Op.{Op}
use Rattle.factor_model.specs.declared.Op.TheVariants.{Column}
use Rattle.factor_model.specs.Vectors.{matrix_column, unit_vector, sparse}
use Rattle.factor_model.specs.Eta.{apply_back}
use Rattle.factor_model.specs.Upper.{Triangle}
use Rattle.factor_model.specs.Factors.{Factors}

-- an elimination on the way: the matrix as it is now, the rows and positions that have no pivot yet, each rising, the operations so far, and
-- the pivots so far in order, each a row and a position. An entry is active where neither its row nor its position has a pivot and it is not 0
pub record Elimination : Type 0 where
  pub matrix : ℕ → ℕ → ℚ
  pub rows : List ℕ
  pub positions : List ℕ
  pub ops : List Op
  pub pivots : List (ℕ × ℕ)

-- ---- the choice of a pivot

abbrev pub is_entry : Elimination → ℕ → ℕ → Bool
is_entry e r p = not (eq_ℚ (e.matrix r p) zero_ℚ)

-- how many active entries a row has, and a position
abbrev pub row_count : Elimination → ℕ → ℕ
row_count e r = count_by (λ p. is_entry e r p) e.positions

abbrev pub column_count : Elimination → ℕ → ℕ
column_count e p = count_by (λ r. is_entry e r p) e.rows

-- how many fills the elimination with a pivot makes at most
abbrev pub cost : Elimination → ℕ × ℕ → ℕ
cost e pivot = (row_count e pivot.0 - 1) * (column_count e pivot.1 - 1)

-- the active entries, by row and then by position
abbrev pub active_entries : Elimination → List (ℕ × ℕ)
active_entries e = flat_map (λ r. map (λ p. (r, p)) (filter (λ p. is_entry e r p) e.positions)) e.rows

-- the better of the best so far and one more: the earlier at equal cost
abbrev pub better : (ℕ × ℕ → ℕ) → Option (ℕ × ℕ) → ℕ × ℕ → ℕ × ℕ
better cost None entry = entry
better cost (Some best) entry = if nat_lt (cost entry) (cost best) then entry else best

-- the first of least cost
abbrev pub first_least : (ℕ × ℕ → ℕ) → Option (ℕ × ℕ) → List (ℕ × ℕ) → Option (ℕ × ℕ)
first_least cost best [] = best
first_least cost best (entry ∷ entries) = first_least cost (Some (better cost best entry)) entries

-- the active entry of least cost, and of these that of the least row, and of these that of the least position
abbrev pub least : Elimination → Option (ℕ × ℕ)
least e = first_least (cost e) None (active_entries e)

-- ---- a pivot

-- the matrix with another entry
abbrev pub with_entry : (ℕ → ℕ → ℚ) → ℕ → ℕ → ℚ → ℕ → ℕ → ℚ
with_entry a i p x j q = if (j == i) && (q == p) then x else a j q

-- row i less k times row r, in these positions
abbrev pub less_row : (ℕ → ℕ → ℚ) → ℕ → ℕ → ℚ → List ℕ → Worked (ℕ → ℕ → ℚ)
less_row a r i k [] = done a
less_row a r i k (p ∷ positions) = bind (less (a i p) k (a r p)) (λ x. less_row (with_entry a i p x) r i k positions)

-- row i after the pivot in row r and position c, by the multiplier k: it has no entry in position c any more
unfoldable pub eliminated_by : (ℕ → ℕ → ℚ) → ℕ → ℕ → List ℕ → ℕ → ℚ → Worked (ℕ → ℕ → ℚ)
unfolding bind done less zero_ℚ
eliminated_by a r c positions i k = bind (less_row a r i k positions) (λ b. done (with_entry b i c zero_ℚ))

-- what an elimination leaves of the matrix, and the multipliers of the rows that it changes
abbrev pub Eliminated : Type 0
Eliminated = (ℕ → ℕ → ℚ) × List (ℕ × ℚ)

-- the pivot's elimination in these rows: each that has an entry in position c is less its multiple of row r, in the positions left
abbrev pub eliminate : ℕ → ℕ → List ℕ → (ℕ → ℕ → ℚ) → List (ℕ × ℚ) → List ℕ → Worked Eliminated
eliminate r c positions a ks [] = done (a, ks)
eliminate r c positions a ks (i ∷ rows) =
    if eq_ℚ (a i c) zero_ℚ then eliminate r c positions a ks rows
    else bind (quotient (a i c) (a r c)) (λ k. bind (eliminated_by a r c positions i k) (λ b. eliminate r c positions b (ks ++ (i, k) ∷ []) rows))

-- the numbers of a list other than x
abbrev pub others : ℕ → List ℕ → List ℕ
others x xs = filter (λ y. not (y == x)) xs

-- the elimination with one pivot more, of a matrix of n rows, where this is left: one operation more, an empty one too
abbrev pub with_pivot : ℕ → Elimination → ℕ × ℕ → Eliminated → Elimination
with_pivot n e pivot left = record {
  matrix = left.0;
  rows = others pivot.0 e.rows;
  positions = others pivot.1 e.positions;
  ops = e.ops ++ Column pivot.0 (record { length = n; pairs = left.1 }) ∷ [];
  pivots = e.pivots ++ pivot ∷ [];
}

-- the elimination after one pivot
unfoldable pub pivoted : ℕ → Elimination → ℕ × ℕ → Worked Elimination
unfolding bind done less quotient eliminated_by zero_ℚ eq_ℚ
pivoted n e pivot =
    bind (eliminate pivot.0 pivot.1 (others pivot.1 e.positions) e.matrix [] (others pivot.0 e.rows)) (λ left. done (with_pivot n e pivot left))

-- the elimination after so many pivots, or after as many as there are
abbrev pub eliminated : ℕ → ℕ → Elimination → Worked Elimination
eliminated n zero e = done e
eliminated n (suc left) e = elim (least e) [ None ↦ done e | Some pivot ↦ bind (pivoted n e pivot) (λ next. eliminated n left next) ]

-- ---- what is made of it

-- factors of the matrix, or, where its columns are dependent, a combination of its rows that is 0
pub data Factored : Type 0 where
  whole : List Op → Triangle → Factored
  singular : List ℚ → Factored

-- y is a combination of the n rows of the matrix b that is 0 in each of its n positions, and y is not 0
pub record IsDependence (n : ℕ) (b : ℕ → ℕ → ℚ) (y : List ℚ) : Type 0 where
  pub rows : length y ≡ n
  pub nonzero : (i : ℕ) × (i < n) × (at y i ≢ zero_ℚ)
  pub vanishes : (p : ℕ) → p < n → times_matrix n (at y) b p ≡ zero_ℚ

-- the row whose pivot has this position
abbrev pub row_paired : List (ℕ × ℕ) → ℕ → ℕ
row_paired [] p = 0
row_paired (pivot ∷ pivots) p = if pivot.1 == p then pivot.0 else row_paired pivots p

-- the form of an elimination of n pivots: the columns that are left, their rows, and the order of the pivots
abbrev pub form_of : ℕ → Elimination → Triangle
form_of n e = record {
  columns = map (λ p. sparse (matrix_column n e.matrix p)) (upto n);
  rows = map (row_paired e.pivots) (upto n);
  order = map (λ pivot. pivot.1) e.pivots;
}

-- where a row has no pivot, the operations back from the unit vector of the least one
abbrev pub factored_by : ℕ → Elimination → List ℕ → Worked Factored
factored_by n e [] = done (whole e.ops (form_of n e))
factored_by n e (r ∷ rows) = bind (apply_back (unit_vector n r) e.ops) (λ y. done (singular y))

-- the elimination that begins with the matrix b of n rows
abbrev pub start : ℕ → (ℕ → ℕ → ℚ) → Elimination
start n b = record { matrix = b; rows = upto n; positions = upto n; ops = []; pivots = [] }

-- the factors of the matrix b of n rows and n columns
abbrev pub factored : ℕ → (ℕ → ℕ → ℚ) → Worked Factored
factored n b = bind (eliminated n n (start n b)) (λ e. factored_by n e e.rows)

-- the factors of what was made, at a number of the log; there are none where it is singular
abbrev pub fresh : ℕ → Factored → Option Factors
fresh base (whole ops u) = Some (record { etas = ops; upper = u; updates = 0; base = base })
fresh base (singular y) = None

-- the factors of the matrix b of n rows and n columns, made at a number of the log
abbrev pub made_factors : ℕ → (ℕ → ℕ → ℚ) → ℕ → Worked (Option Factors)
made_factors n b base = bind (factored n b) (λ made. done (fresh base made))

-- How much is worked for the basic values at the start: at most a product for each stored entry.
use Rattle.std.proofs.Common.{◌≡◌, ℕ, suc, ◌+◌, ◌<◌, ◌≤◌, ◌⊎◌, inl, inr, List, [], ◌∷◌, length, take, cond, ne_eqb, refl, ap, arith}
use Rattle.std.proofs.lemmas.Bool.{cases_lt, le-ltb, lt-ltb}
use Rattle.std.proofs.lemmas.List.Sums.{sum_by-cons, sum_by-take-le, sum_by_more}
use Rattle.std.specs.List.{sum_by}
use lib.Dec.{ltb}
use Rattle.rational.specs.Rational.{ℚ, one_unless_zero}
use Rattle.rational.specs.Sparse.{entry_at}
use Rattle.rational.proofs.OrderLaws.{one_unless_zero-le, one_unless_zero-zero}
use Rattle.rational.proofs.SumLaws.{at_or_other}
use Rattle.lp_run.specs.Instance.{Instance, Structural, no_structural, structural, structural_count}
use Rattle.bland_ratio.specs.Entries.{stored_entries}
use Rattle.plain_table.specs.Inner.Starts.{row_entries}

-- ── one column ──

-- whether row k is row p or comes after it
behind : ℕ → ℕ → ℕ
behind p k = cond (ltb k p) 0 1

behind-yes : (p k : ℕ) → p ≤ k → behind p k ≡ 1
unfolding behind
behind-yes p k h = ap (λ t. cond t 0 1) (le-ltb k p h)

behind-no : (p k : ℕ) → k < p → behind p k ≡ 0
unfolding behind
behind-no p k h = ap (λ t. cond t 0 1) (lt-ltb k p h)

behind-less : (p k : ℕ) → behind (p + 1) k ≤ behind p k
behind-less p k = by (cases_lt k (p + 1))
  where
    by : (k < p + 1) ⊎ (p + 1 ≤ k) → behind (p + 1) k ≤ behind p k
    by (inl h) = let none : behind (p + 1) k ≡ 0 = behind-no (p + 1) k h in omega (arith, none)
    by (inr h) =
        let here : behind p k ≡ 1 = behind-yes p k (omega (arith, h)) in
        let there : behind (p + 1) k ≡ 1 = behind-yes (p + 1) k h in
        omega (arith, here, there)

-- the entries of a column in row p and behind it
pub entries_behind : ℕ → List (ℕ × ℚ) → ℕ
entries_behind p [] = 0
entries_behind p ((k, v) ∷ pairs) = behind p k + entries_behind p pairs

all_behind : (pairs : List (ℕ × ℚ)) → entries_behind 0 pairs ≡ length pairs
unfolding entries_behind
all_behind [] = refl
all_behind ((k, v) ∷ pairs) =
    let here : behind 0 k ≡ 1 = behind-yes 0 k (omega arith) in
    let rest : entries_behind 0 pairs ≡ length pairs = all_behind pairs in
    let goal : behind 0 k + entries_behind 0 pairs ≡ suc (length pairs) = omega (arith, here, rest) in
    goal

-- the row's entry, and those behind the row
row_entry : (p : ℕ) (pairs : List (ℕ × ℚ)) → one_unless_zero (entry_at pairs p) + entries_behind (p + 1) pairs ≤ entries_behind p pairs
unfolding entries_behind
row_entry p [] = omega (arith, one_unless_zero-zero)
row_entry p ((k, v) ∷ pairs) =
    at_or_other (λ k. one_unless_zero (entry_at ((k, v) ∷ pairs) p) + (behind (p + 1) k + entries_behind (p + 1) pairs) ≤ behind p k + entries_behind p pairs) p k
    (let one = one_unless_zero-le (entry_at ((p, v) ∷ pairs) p) in
    let here : behind p p ≡ 1 = behind-yes p p (omega arith) in
    let none : behind (p + 1) p ≡ 0 = behind-no (p + 1) p (omega arith) in
    omega (arith, one, here, none, row_entry p pairs))
    (λ other.
    let same : one_unless_zero (entry_at ((k, v) ∷ pairs) p) ≡ one_unless_zero (entry_at pairs p) = ap (λ t. one_unless_zero (cond t v (entry_at pairs p))) (ne_eqb k p other) in
    omega (arith, same, behind-less p k, row_entry p pairs))

-- ── all columns ──

-- the entries in row p and behind it
pub all_rows_behind : ℕ → List Structural → ℕ
all_rows_behind p columns = sum_by (λ c. entries_behind p c.entries) columns

all_in : (columns : List Structural) → all_rows_behind 0 columns ≡ sum_by (λ c. length c.entries) columns
unfolding all_rows_behind
all_in [] = refl
all_in (c ∷ columns) =
    let left : sum_by (λ c. entries_behind 0 c.entries) (c ∷ columns) ≡ entries_behind 0 c.entries + sum_by (λ c. entries_behind 0 c.entries) columns =
    sum_by-cons (λ c. entries_behind 0 c.entries) c columns in
    let right : sum_by (λ c. length c.entries) (c ∷ columns) ≡ length c.entries + sum_by (λ c. length c.entries) columns = sum_by-cons (λ c. length c.entries) c columns in
    let rest : sum_by (λ c. entries_behind 0 c.entries) columns ≡ sum_by (λ c. length c.entries) columns = all_in columns in
    let here : entries_behind 0 c.entries ≡ length c.entries = all_behind c.entries in
    omega (arith, left, right, rest, here)

row_of_all : (p : ℕ) (columns : List Structural) → sum_by (λ c. one_unless_zero (entry_at c.entries p)) columns + all_rows_behind (p + 1) columns ≤ all_rows_behind p columns
unfolding all_rows_behind
row_of_all p [] = omega arith
row_of_all p (c ∷ columns) =
    let entries : sum_by (λ c. one_unless_zero (entry_at c.entries p)) (c ∷ columns)
    ≡ one_unless_zero (entry_at c.entries p) + sum_by (λ c. one_unless_zero (entry_at c.entries p)) columns =
    sum_by-cons (λ c. one_unless_zero (entry_at c.entries p)) c columns in
    let after : sum_by (λ c. entries_behind (p + 1) c.entries) (c ∷ columns) ≡ entries_behind (p + 1) c.entries + sum_by (λ c. entries_behind (p + 1) c.entries) columns =
    sum_by-cons (λ c. entries_behind (p + 1) c.entries) c columns in
    let all : sum_by (λ c. entries_behind p c.entries) (c ∷ columns) ≡ entries_behind p c.entries + sum_by (λ c. entries_behind p c.entries) columns =
    sum_by-cons (λ c. entries_behind p c.entries) c columns in
    omega (arith, entries, after, all, row_entry p c.entries, row_of_all p columns)

module _ (inst : Instance) where
  pub rows_behind : ℕ → ℕ
  rows_behind p = all_rows_behind p inst.structurals

  -- so much is left to work at a row
  pub start-left : rows_behind 0 ≡ stored_entries inst
  unfolding rows_behind
  start-left = all_in inst.structurals

  pub next-left : (p : ℕ) → row_entries inst p + rows_behind (p + 1) ≤ rows_behind p
  unfolding rows_behind
  next-left p = row_of_all p inst.structurals

  -- the row's entries in the first structurals
  abbrev pub row_taken : ℕ → ℕ → ℕ
  row_taken p j = sum_by (λ c. one_unless_zero (entry_at c.entries p)) (take j inst.structurals)

  pub row-more : (p j : ℕ) (e : ℚ) → j < structural_count inst → e ≡ entry_at (structural inst j).entries p → row_taken p (j + 1) ≡ row_taken p j + one_unless_zero e
  row-more p j e below is =
      let more : row_taken p (j + 1) ≡ row_taken p j + one_unless_zero (entry_at (structural inst j).entries p) =
      sum_by_more (λ c. one_unless_zero (entry_at c.entries p)) inst.structurals j no_structural below in
      let same : one_unless_zero e ≡ one_unless_zero (entry_at (structural inst j).entries p) = ap one_unless_zero is in
      omega (arith, more, same)

  pub row-within : (p j : ℕ) → row_taken p j ≤ row_entries inst p
  row-within p j = sum_by-take-le (λ c. one_unless_zero (entry_at c.entries p)) inst.structurals j

-- The stored entries of columns, counted.
use Rattle.std.proofs.Common.{◌≡◌, ℕ, zero, suc, ◌+◌, ◌-◌, ◌*◌, ◌<◌, ◌≤◌, List, [], ◌∷◌, length, take, refl, ◌∙◌, ap, subst, arith}
use Rattle.std.proofs.lemmas.List.{take_all}
use Rattle.std.proofs.lemmas.List.Sums.{sum_by_more}
use Rattle.std.specs.List.{sum_by}
use Rattle.rational.specs.Rational.{ℚ}
use Rattle.sparse_cols.specs.Sparse.{IsRising}
use Rattle.lp_run.specs.declared.ColumnKind.{ColumnKind}
use Rattle.lp_run.specs.declared.ColumnKind.TheVariants as column
use Rattle.lp_run.specs.Instance.{Instance, IsWellFormed, column_count, column_kind, no_structural, row_count, structural, structural_count}
use Rattle.lp_run.proofs.Start.{kind_of_artificial, kind_of_logical, kind_of_structural}
use Rattle.bland_ratio.specs.Entries.{column_entries, entries_from, stored_entries}
use Rattle.bland_ratio.specs.Pricing.{kind_entries}
use Rattle.bland_ratio.proofs.Priced.{rising_entries}

-- a column has no more entries than there are rows
rising-few : (m from : ℕ) (pairs : List (ℕ × ℚ)) → from ≤ m → IsRising m from pairs → from + length pairs ≤ m
rising-few m from [] within h = omega arith
rising-few m from ((k, v) ∷ pairs) within h =
    let rest : k + 1 + length pairs ≤ m = rising-few m (k + 1) pairs (omega (arith, h.1)) h.2 in
    let above : from ≤ k = h.0 in
    omega arith

pub column-few : (inst : Instance) → IsWellFormed inst → (j : ℕ) → j < column_count inst → column_entries inst j ≤ row_count inst
column-few inst h j below =
    let few = rising-few (row_count inst) 0 (kind_entries inst (column_kind inst j)) (omega arith) (rising_entries inst h j below) in
    omega arith

module _ (inst : Instance) where
  pub entries-of : (j : ℕ) (kind : ColumnKind) → kind ≡ column_kind inst j → length (kind_entries inst kind) ≡ column_entries inst j
  entries-of j kind is = ap (λ kind. length (kind_entries inst kind)) is

  -- ── one column more ──

  pub entries-next : (from j : ℕ) → from ≤ j → entries_from inst from (j + 1 - from) ≡ entries_from inst from (j - from) + column_entries inst j
  entries-next from j above =
      let after : j + 1 - from ≡ suc (j - from) = omega arith in
      let here : from + (j - from) ≡ j = omega arith in
      ap (entries_from inst from) after ∙ ap (λ k. entries_from inst from (j - from) + column_entries inst k) here

  entries-grow : (from a r : ℕ) → entries_from inst from a ≤ entries_from inst from (a + r)
  entries-grow from a zero = let same : a ≡ a + 0 = omega arith in subst (λ n. entries_from inst from a ≤ entries_from inst from n) same (omega arith)
  entries-grow from a (suc r) =
      let before : entries_from inst from a ≤ entries_from inst from (a + r) = entries-grow from a r in
      let more : entries_from inst from a ≤ entries_from inst from (a + r) + column_entries inst (from + (a + r)) = omega (arith, before) in
      let same : suc (a + r) ≡ a + suc r = omega arith in
      subst (λ n. entries_from inst from a ≤ entries_from inst from n) same more

  pub entries-within : (from a b : ℕ) → a ≤ b → entries_from inst from a ≤ entries_from inst from b
  entries-within from a b h = let same : a + (b - a) ≡ b = omega arith in subst (λ b. entries_from inst from a ≤ entries_from inst from b) same (entries-grow from a (b - a))

  -- ── all columns ──

  kind_stored : (j : ℕ) (kind : ColumnKind) → column_kind inst j ≡ kind → column_entries inst (0 + j) ≡ length (kind_entries inst kind)
  kind_stored j kind is =
      let same : j ≡ 0 + j = omega arith in
      subst (λ j. column_entries inst j ≡ length (kind_entries inst kind)) same (ap (λ kind. length (kind_entries inst kind)) is)

  abbrev listed : ℕ → ℕ
  listed n = sum_by (λ c. length c.entries) (take n inst.structurals)

  structurals-part : (n : ℕ) → n ≤ structural_count inst → entries_from inst 0 n ≡ listed n
  structurals-part zero within = refl
  structurals-part (suc n) within =
      let below : n < structural_count inst = omega (arith, within) in
      let first : entries_from inst 0 n ≡ listed n = structurals-part n (omega (arith, within)) in
      let here : column_entries inst (0 + n) ≡ length (structural inst n).entries = kind_stored n (column.Structural n) (kind_of_structural inst n below) in
      let more : listed (n + 1) ≡ listed n + length (structural inst n).entries = sum_by_more (λ c. length c.entries) inst.structurals n no_structural below in
      let next : n + 1 ≡ suc n = omega arith in
      let same : listed (n + 1) ≡ listed (suc n) = ap listed next in
      let goal : entries_from inst 0 n + column_entries inst (0 + n) ≡ listed (suc n) = omega (arith, first, here, more, same) in
      goal

  logicals-part : (k : ℕ) → k ≤ row_count inst → entries_from inst 0 (structural_count inst + k) ≡ entries_from inst 0 (structural_count inst) + k
  logicals-part zero within =
      let same : structural_count inst + 0 ≡ structural_count inst = omega arith in
      let moved : entries_from inst 0 (structural_count inst + 0) ≡ entries_from inst 0 (structural_count inst) = ap (entries_from inst 0) same in
      omega (arith, moved)
  logicals-part (suc k) within =
      let n = structural_count inst in
      let next : n + suc k ≡ suc (n + k) = omega arith in
      let here : column_entries inst (0 + (n + k)) ≡ 1 = kind_stored (n + k) (column.Logical k) (kind_of_logical inst k (omega (arith, within))) in
      let before : entries_from inst 0 (n + k) ≡ entries_from inst 0 n + k = logicals-part k (omega (arith, within)) in
      let more : entries_from inst 0 (suc (n + k)) ≡ entries_from inst 0 (n + k) + column_entries inst (0 + (n + k)) = refl in
      let moved : entries_from inst 0 (n + suc k) ≡ entries_from inst 0 (suc (n + k)) = ap (entries_from inst 0) next in
      omega (arith, here, before, more, moved)

  artificials-part : (k : ℕ) → entries_from inst 0 (structural_count inst + row_count inst + k) ≡ entries_from inst 0 (structural_count inst + row_count inst) + k
  artificials-part zero =
      let same : structural_count inst + row_count inst + 0 ≡ structural_count inst + row_count inst = omega arith in
      let moved : entries_from inst 0 (structural_count inst + row_count inst + 0) ≡ entries_from inst 0 (structural_count inst + row_count inst) = ap (entries_from inst 0) same in
      omega (arith, moved)
  artificials-part (suc k) =
      let n = structural_count inst + row_count inst in
      let next : n + suc k ≡ suc (n + k) = omega arith in
      let here : column_entries inst (0 + (n + k)) ≡ 1 = kind_stored (n + k) (column.Artificial k) (kind_of_artificial inst k) in
      let before : entries_from inst 0 (n + k) ≡ entries_from inst 0 n + k = artificials-part k in
      let more : entries_from inst 0 (suc (n + k)) ≡ entries_from inst 0 (n + k) + column_entries inst (0 + (n + k)) = refl in
      let moved : entries_from inst 0 (n + suc k) ≡ entries_from inst 0 (suc (n + k)) = ap (entries_from inst 0) next in
      omega (arith, here, before, more, moved)

  -- the entries of all columns: those of the structurals, and one for each logical and each artificial
  pub all-entries : entries_from inst 0 (column_count inst) ≡ stored_entries inst + 2 * row_count inst
  all-entries =
      let structurals : entries_from inst 0 (structural_count inst) ≡ stored_entries inst =
      structurals-part (structural_count inst) (omega arith) ∙ ap (sum_by (λ c. length c.entries)) (take_all (structural_count inst) inst.structurals (omega arith)) in
      let logicals = logicals-part (row_count inst) (omega arith) in
      let artificials = artificials-part (row_count inst) in
      omega (arith, structurals, logicals, artificials)

  pub work-all : (old new n : ℕ) → n ≡ column_count inst → new ≤ old + entries_from inst 0 (n - 0) → new ≤ old + (stored_entries inst + 2 * row_count inst)
  work-all old new n is work =
      let same : n - 0 ≡ column_count inst = omega (arith, is) in
      let moved : entries_from inst 0 (n - 0) ≡ entries_from inst 0 (column_count inst) = ap (entries_from inst 0) same in
      omega (arith, work, moved, all-entries)

  -- there are at most m entries in each column
  pub entries-few : IsWellFormed inst → (from n : ℕ) → from + n ≤ column_count inst → entries_from inst from n ≤ n * row_count inst
  entries-few h from zero within = omega arith
  entries-few h from (suc n) within =
      let before : entries_from inst from n ≤ n * row_count inst = entries-few h from n (omega (arith, within)) in
      let here : column_entries inst (from + n) ≤ row_count inst = column-few inst h (from + n) (omega (arith, within)) in
      let goal : entries_from inst from n + column_entries inst (from + n) ≤ suc n * row_count inst = omega (arith, before, here) in
      goal

  -- the work of at most so many columns, by rows
  pub work-few : IsWellFormed inst → (from to k old new : ℕ) → from ≤ to → to ≤ from + k → to ≤ column_count inst → new ≤ old + entries_from inst from (to - from) → new ≤ old + k * row_count inst
  work-few h from to k old new above few within work =
      let some : entries_from inst from (to - from) ≤ (to - from) * row_count inst = entries-few h from (to - from) (omega (arith, above, within)) in
      let rest : (to - from) + (k - (to - from)) ≡ k = omega (arith, above, few) in
      let all : ((to - from) + (k - (to - from))) * row_count inst ≡ k * row_count inst = ap (λ a. a * row_count inst) rest in
      omega (arith, work, some, all)

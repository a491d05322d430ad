-- Sparse columns: how long they are, and what a new entry leaves.
use Rattle.std.proofs.Common.{◌≡◌, ◌≢◌, ℕ, ◌+◌, ◌<◌, ◌≤◌, Bool, true, false, ◌||◌, cond, List, [], ◌∷◌, length, None, Some, is_some, nat_lt, ◌⊎◌, inl, inr, refl, ap, ◌∙◌, arith}
use Rattle.std.specs.Prelude.{◌==◌}
use Rattle.std.proofs.lemmas.Bool.{eqb-true, or_cases}
use Rattle.std.proofs.lemmas.Bool.Decides.{nat_tests}
use Rattle.deck_model.proofs.Lists.{none_from_is_some}
use Rattle.rational.specs.Sparse.{IsSparse}
use Rattle.lp_model.specs.Edit.{has_entry, insert_entry}
use Rattle.rational.specs.Rational.{ℚ, zero_ℚ}
use Rattle.sparse_cols.specs.Sparse.{value_at, insert_pair}

-- no longer than the rows from its first on
length-sparse : (m from : ℕ) (pairs : List (ℕ × ℚ)) → from ≤ m → IsSparse m from pairs → from + length pairs ≤ m
length-sparse m from [] within sparse = omega arith
length-sparse m from ((k, v) ∷ pairs) within sparse =
    let more : k + 1 + length pairs ≤ m = length-sparse m (k + 1) pairs (omega (arith, sparse.1)) sparse.3 in
    omega (arith, sparse.0)

pub length-le-sparse : (m : ℕ) (pairs : List (ℕ × ℚ)) → IsSparse m 0 pairs → length pairs ≤ m
length-le-sparse m pairs sparse = omega (arith, length-sparse m 0 pairs (omega arith) sparse)

pub length-insert_entry : (i : ℕ) (v : ℚ) (pairs : List (ℕ × ℚ)) → length (insert_entry i v pairs) ≡ length pairs + 1
length-insert_entry i v [] = refl
length-insert_entry i v ((k, u) ∷ pairs) = by (nat_lt i k) (length-insert_entry i v pairs)
  where
    by : (b : Bool) → length (insert_entry i v pairs) ≡ length pairs + 1 → length (cond b ((i, v) ∷ (k, u) ∷ pairs) ((k, u) ∷ insert_entry i v pairs)) ≡ length ((k, u) ∷ pairs) + 1
    by true rest = omega arith
    by false rest = omega (arith, rest)

-- an entry afterwards is the new one or one that was there
pub entry-insert_entry : (i : ℕ) (v : ℚ) (pairs : List (ℕ × ℚ)) (m : ℕ) → has_entry (insert_entry i v pairs) m ≡ true → (i ≡ m) ⊎ (has_entry pairs m ≡ true)
entry-insert_entry i v [] m has = elim (or_cases (i == m) false has) [ inl here ↦ inl (eqb-true i m here) | inr none ↦ inr none ]
entry-insert_entry i v ((k, u) ∷ pairs) m has = by_test (nat_lt i k) (entry-insert_entry i v pairs m) has
  where
    joined : (a b : Bool) → b ≡ true → (a || b) ≡ true
    joined true b e = refl
    joined false b e = e

    by_test : (t : Bool) → (has_entry (insert_entry i v pairs) m ≡ true → (i ≡ m) ⊎ (has_entry pairs m ≡ true))
        → has_entry (cond t ((i, v) ∷ (k, u) ∷ pairs) ((k, u) ∷ insert_entry i v pairs)) m ≡ true → (i ≡ m) ⊎ (has_entry ((k, u) ∷ pairs) m ≡ true)
    by_test true later e = elim (or_cases (i == m) (k == m || has_entry pairs m) e) [ inl here ↦ inl (eqb-true i m here) | inr old ↦ inr old ]
    by_test false later e = elim (or_cases (k == m) (has_entry (insert_entry i v pairs) m) e) [
      | inl here ↦ inr (ap (λ b. b || has_entry pairs m) here)
      | inr rest ↦ elim (later rest) [ inl own ↦ inl own | inr old ↦ inr (joined (k == m) (has_entry pairs m) old) ]
    ]

before : (i k : ℕ) → nat_lt i k ≡ true → i + 1 ≤ k
before i k h = grind (arith, nat_tests)

past : (k i : ℕ) → k ≢ i → nat_lt i k ≡ false → k + 1 ≤ i
past k i other h = grind (arith, nat_tests)

no_entry : (k i : ℕ) (more : Bool) → (k == i || more) ≡ false → (k ≢ i) × (more ≡ false)
no_entry k i more h = grind (arith, nat_tests)

pub sparse-insert_entry : (m i : ℕ) (v : ℚ) → i < m → v ≢ zero_ℚ → (from : ℕ) (pairs : List (ℕ × ℚ)) → from ≤ i → has_entry pairs i ≡ false → IsSparse m from pairs → IsSparse m from (insert_entry i v pairs)
sparse-insert_entry m i v within some from [] above absent sparse = (above, within, some, tt)
sparse-insert_entry m i v within some from ((k, u) ∷ pairs) above absent sparse = by (nat_lt i k) refl (λ past. sparse-insert_entry m i v within some (k + 1) pairs past other.1 sparse.3)
  where
    other : (k ≢ i) × (has_entry pairs i ≡ false)
    other = no_entry k i (has_entry pairs i) absent

    by : (b : Bool) → nat_lt i k ≡ b → (k + 1 ≤ i → IsSparse m (k + 1) (insert_entry i v pairs)) → IsSparse m from (cond b ((i, v) ∷ (k, u) ∷ pairs) ((k, u) ∷ insert_entry i v pairs))
    by true e rest = (above, within, some, (before i k e, sparse.1, sparse.2, sparse.3))
    by false e rest = (sparse.0, sparse.1, sparse.2, rest (past k i other.0 e))

-- ── in the words of sparse columns ──

pub is_some-value_at : (pairs : List (ℕ × ℚ)) (i : ℕ) → is_some (value_at pairs i) ≡ has_entry pairs i
is_some-value_at [] i = refl
is_some-value_at ((k, v) ∷ pairs) i = by (k == i) (is_some-value_at pairs i)
  where
    by : (b : Bool) → is_some (value_at pairs i) ≡ has_entry pairs i → is_some (cond b (Some v) (value_at pairs i)) ≡ (b || has_entry pairs i)
    by true rest = refl
    by false rest = rest

pub value_at-none : (pairs : List (ℕ × ℚ)) (i : ℕ) → has_entry pairs i ≡ false → value_at pairs i ≡ None
value_at-none pairs i absent = none_from_is_some (value_at pairs i) (is_some-value_at pairs i ∙ absent)

pub insert_pair-insert_entry : (i : ℕ) (v : ℚ) (pairs : List (ℕ × ℚ)) → insert_pair i v pairs ≡ insert_entry i v pairs
insert_pair-insert_entry i v [] = refl
insert_pair-insert_entry i v ((k, u) ∷ pairs) = ap (λ rest. cond (nat_lt i k) ((i, v) ∷ (k, u) ∷ pairs) ((k, u) ∷ rest)) (insert_pair-insert_entry i v pairs)

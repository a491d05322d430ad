-- A vector as a sparse column: its entries are the vector's items.
use Rattle.std.proofs.Common.{◌≡◌, ◌≢◌, ℕ, zero, suc, ◌+◌, ◌<◌, ◌≤◌, Bool, true, false, cond, List, [], ◌∷◌, ◌++◌, length, ◌⊎◌, inl, inr, ⊎_elim, refl, sym, ◌∙◌, ap, subst, arith}
use Rattle.rational.specs.Rational.{ℚ, zero_ℚ, eq_ℚ}
use Rattle.rational.specs.Sum.{at}
use Rattle.rational.proofs.OrderLaws.{eq_ℚ-decides}
use Rattle.sparse_cols.specs.Sparse.{IsRising}
use Rattle.sparse_cols.proofs.Pairs.{IsRising-weaker}
use Rattle.factor_model.specs.Vectors.{entry, stored_pair, stored_from, sparse}
use Rattle.factor_model.proofs.LineLaws.{entry-here, entry-there, entry-below}

-- a number is stored where it is not 0
pub stored_cases : (i : ℕ) (x : ℚ) → ((x ≡ zero_ℚ) × (stored_pair i x ≡ [])) ⊎ ((x ≢ zero_ℚ) × (stored_pair i x ≡ (i, x) ∷ []))
stored_cases i x = by_test (eq_ℚ x zero_ℚ) refl
  where
    by_test : (t : Bool) → eq_ℚ x zero_ℚ ≡ t → ((x ≡ zero_ℚ) × (stored_pair i x ≡ [])) ⊎ ((x ≢ zero_ℚ) × (stored_pair i x ≡ (i, x) ∷ []))
    by_test true e = inl ((eq_ℚ-decides x zero_ℚ).0 e, ap (λ t. cond t [] ((i, x) ∷ [])) e)
    by_test false e = inr (λ none. let yes : eq_ℚ x zero_ℚ ≡ true = (eq_ℚ-decides x zero_ℚ).1 none in cc, ap (λ t. cond t [] ((i, x) ∷ [])) e)

pub stored-rising : (n from : ℕ) (v : List ℚ) → from + length v ≤ n → IsRising n from (stored_from from v)
stored-rising n from [] le = tt
stored-rising n from (x ∷ v) le =
    let later = stored-rising n (from + 1) v (omega arith) in
    ⊎_elim
    (λ none. subst (λ ps. IsRising n from (ps ++ stored_from (from + 1) v)) (sym none.1) (IsRising-weaker n (from + 1) from (stored_from (from + 1) v) (omega arith) later))
    (λ some. subst (λ ps. IsRising n from (ps ++ stored_from (from + 1) v)) (sym some.1) (omega arith, omega arith, later))
    (stored_cases from x)

stored-entry : (from : ℕ) (v : List ℚ) (k j : ℕ) → j ≡ from + k → entry (stored_from from v) j ≡ at v k
stored-entry from [] k j e = refl
stored-entry from (x ∷ v) zero j e =
    let below : entry (stored_from (from + 1) v) j ≡ zero_ℚ = entry-below (from + 1 + length v) (from + 1) (stored_from (from + 1) v) j
    (stored-rising (from + 1 + length v) (from + 1) v (omega arith)) (omega arith) in
    let same : j ≡ from = omega arith in
    ⊎_elim
    (λ none. ap (λ ps. entry (ps ++ stored_from (from + 1) v) j) none.1 ∙ below ∙ sym none.0)
    (λ some. ap (λ ps. entry (ps ++ stored_from (from + 1) v) j) some.1 ∙ ap (λ i. entry ((from, x) ∷ stored_from (from + 1) v) i) same ∙ entry-here from x (stored_from (from + 1) v))
    (stored_cases from x)
stored-entry from (x ∷ v) (suc k) j e =
    let later = stored-entry (from + 1) v k j (omega arith) in
    ⊎_elim
    (λ none. ap (λ ps. entry (ps ++ stored_from (from + 1) v) j) none.1 ∙ later)
    (λ some. ap (λ ps. entry (ps ++ stored_from (from + 1) v) j) some.1 ∙ entry-there from j x (stored_from (from + 1) v) (λ h. omega arith) ∙ later)
    (stored_cases from x)

pub sparse-entry : (v : List ℚ) (j : ℕ) → entry (sparse v).pairs j ≡ at v j
sparse-entry v j = stored-entry 0 v j j (omega arith)

pub sparse-rising : (n : ℕ) (v : List ℚ) → length v ≡ n → IsRising n 0 (sparse v).pairs
sparse-rising n v e = stored-rising n 0 v (omega (arith, e))

-- ---- how many entries are stored

pub stored-length : (from : ℕ) (v : List ℚ) → length (stored_from from v) ≤ length v
stored-length from [] = omega arith
stored-length from (x ∷ v) =
    let later = stored-length (from + 1) v in
    ⊎_elim
    (λ none. subst (λ ps. length (ps ++ stored_from (from + 1) v) ≤ length (x ∷ v)) (sym none.1) (omega (arith, later)))
    (λ some. subst (λ ps. length (ps ++ stored_from (from + 1) v) ≤ length (x ∷ v)) (sym some.1) (omega (arith, later)))
    (stored_cases from x)

stored-fewer : (from : ℕ) (v : List ℚ) (k : ℕ) → k < length v → at v k ≡ zero_ℚ → length (stored_from from v) < length v
stored-fewer from [] k lt none = absurd (omega arith)
stored-fewer from (x ∷ v) zero lt is_none =
    let later = stored-length (from + 1) v in
    ⊎_elim
    (λ none. subst (λ ps. length (ps ++ stored_from (from + 1) v) < length (x ∷ v)) (sym none.1) (omega (arith, later)))
    (λ some. absurd (some.0 is_none))
    (stored_cases from x)
stored-fewer from (x ∷ v) (suc k) lt is_none =
    let later : length (stored_from (from + 1) v) < length v = stored-fewer (from + 1) v k (omega arith) is_none in
    ⊎_elim
    (λ none. subst (λ ps. length (ps ++ stored_from (from + 1) v) < length (x ∷ v)) (sym none.1) (omega (arith, later)))
    (λ some. subst (λ ps. length (ps ++ stored_from (from + 1) v) < length (x ∷ v)) (sym some.1) (omega (arith, later)))
    (stored_cases from x)

-- a vector with an item 0 has fewer entries than items
pub sparse-fewer : (v : List ℚ) (k : ℕ) → k < length v → at v k ≡ zero_ℚ → length (sparse v).pairs < length v
sparse-fewer v k lt none = stored-fewer 0 v k lt none

-- Numbers stored one behind another, and numbers put into their rows.
use Rattle.std.proofs.Common.{◌≡◌, ◌≢◌, ℕ, zero, suc, ◌+◌, ◌<◌, ◌≤◌, Bool, true, false, eqb, ltb, List, [], ◌∷◌, ◌++◌, length, drop, get_or, set, replicate, None, ◌⊎◌, inl, inr, ⊎_elim, IsTrue, ◌↔◌, refl, sym, ◌∙◌, ap, subst, append_assoc, append-nil, arith}
use Rattle.std.proofs.lemmas.Bool.{cases_eq, ne_eqb, le-ltb, cond-false}
use Rattle.std.proofs.lemmas.List.{at_drop_more, at_drop_all, length-set, get_or-set_same, get_or-set_other, get_or-replicate, length-replicate}
use Rattle.rational.specs.Rational.{ℚ, zero_ℚ}
use Rattle.rational.specs.Sum.{at}
use Rattle.rational.proofs.VectorLaws.{list_of}
use Rattle.sparse_cols.specs.Sparse.{IsRising, value_at, insert_pair}
use Rattle.factor_model.specs.Vectors.{entry, vector, stored_pair, stored_from}
use Rattle.factor_model.specs.Update.{Lacks, AreApart}
use Rattle.factor_model.proofs.LineLaws.{entry-here, entry-there}
use Rattle.factor_model.proofs.SparseLaws.{stored_cases}
use Rattle.factor_model.proofs.MultiplierLaws.{lacks-entry}
use Rattle.ft_update.specs.Inner.Rows.{placed}

-- ---- behind all others

pub none-above : (i from : ℕ) (pairs : List (ℕ × ℚ)) → IsRising i from pairs → value_at pairs i ≡ None
none-above i from [] rising = refl
none-above i from (p ∷ pairs) rising =
    cond-false (eqb p.0 i) _ _ (ne_eqb p.0 i (λ e. omega (arith, rising.1))) ∙ none-above i (p.0 + 1) pairs rising.2

pub inserted-last : (i from : ℕ) (x : ℚ) (pairs : List (ℕ × ℚ)) → IsRising i from pairs → insert_pair i x pairs ≡ pairs ++ (i, x) ∷ []
inserted-last i from x [] rising = refl
inserted-last i from x (p ∷ pairs) rising =
    cond-false (ltb i p.0) _ _ (le-ltb i p.0 (omega (arith, rising.1))) ∙ ap (λ ps. p ∷ ps) (inserted-last i (p.0 + 1) x pairs rising.2)

rising-wider : (n m from : ℕ) (pairs : List (ℕ × ℚ)) → n ≤ m → IsRising n from pairs → IsRising m from pairs
rising-wider n m from [] le rising = tt
rising-wider n m from (p ∷ pairs) le rising = (rising.0, omega (arith, rising.1), rising-wider n m (p.0 + 1) pairs le rising.2)

rising-pushed : (i from : ℕ) (x : ℚ) (pairs : List (ℕ × ℚ)) → from ≤ i → IsRising i from pairs → IsRising (i + 1) from (pairs ++ (i, x) ∷ [])
rising-pushed i from x [] le rising = (le, omega arith, tt)
rising-pushed i from x (p ∷ pairs) le rising = (rising.0, omega (arith, rising.1), rising-pushed i (p.0 + 1) x pairs (omega (arith, rising.1)) rising.2)

pub rising-stored : (i : ℕ) (x : ℚ) (pairs : List (ℕ × ℚ)) → IsRising i 0 pairs → IsRising (i + 1) 0 (pairs ++ stored_pair i x)
rising-stored i x pairs rising =
    ⊎_elim
    (λ none. subst (λ ps. IsRising (i + 1) 0 ps) (sym (ap (λ ps. pairs ++ ps) none.1 ∙ append-nil pairs)) (rising-wider i (i + 1) 0 pairs (omega arith) rising))
    (λ some. subst (λ ps. IsRising (i + 1) 0 (pairs ++ ps)) (sym some.1) (rising-pushed i 0 x pairs (omega arith) rising))
    (stored_cases i x)

pub stored-none : (i : ℕ) (x : ℚ) (pairs : List (ℕ × ℚ)) → x ≡ zero_ℚ → pairs ++ stored_pair i x ≡ pairs
stored-none i x pairs e = ⊎_elim (λ none. ap (λ ps. pairs ++ ps) none.1 ∙ append-nil pairs) (λ some. absurd (some.0 e)) (stored_cases i x)

pub stored-some : (i : ℕ) (x : ℚ) → x ≢ zero_ℚ → stored_pair i x ≡ (i, x) ∷ []
stored-some i x ne = ⊎_elim (λ none. absurd (ne none.0)) (λ some. some.1) (stored_cases i x)

-- ---- a test for 0

pub tested-true : (b : Bool) (x : ℚ) → IsTrue b ↔ (x ≡ zero_ℚ) → b ≡ true → x ≡ zero_ℚ
tested-true b x tested e = tested.0 e

pub tested-false : (b : Bool) (x : ℚ) → IsTrue b ↔ (x ≡ zero_ℚ) → b ≡ false → x ≢ zero_ℚ
tested-false b x tested e none = let holds : b ≡ true = tested.1 none in cc

-- ---- what is left of a vector

pub stored-parts : (v : List ℚ) (i : ℕ) (x : ℚ) (pairs : List (ℕ × ℚ)) → i < length v → x ≡ get_or v i x
    → (pairs ++ stored_pair i x) ++ stored_from (i + 1) (drop (i + 1) v) ≡ pairs ++ stored_from i (drop i v)
stored-parts v i x pairs lt read =
    append_assoc pairs (stored_pair i x) (stored_from (i + 1) (drop (i + 1) v))
    ∙ ap (λ ps. pairs ++ ps)
    (ap (λ (y : ℚ). stored_pair i y ++ stored_from (i + 1) (drop (i + 1) v)) read ∙ sym (at_drop_more (stored_from i) v i x lt))

pub stored-ends : (v : List ℚ) (i : ℕ) (pairs : List (ℕ × ℚ)) → length v ≤ i → pairs ++ stored_from i (drop i v) ≡ pairs
stored-ends v i pairs le = ap (λ ps. pairs ++ ps) (at_drop_all (stored_from i) v i le) ∙ append-nil pairs

-- ---- numbers in their rows

-- a row's number is the one that is put there, or the one that was there
placed-at : (n : ℕ) (ks : List (ℕ × ℚ)) (v : List ℚ) → length v ≡ n → AreApart n ks → (j : ℕ)
    → (at (placed v ks) j ≡ entry ks j) ⊎ ((at (placed v ks) j ≡ at v j) × (entry ks j ≡ zero_ℚ))
placed-at n [] v e apart j = inr (refl, refl)
placed-at n (p ∷ ks) v e apart j =
    let w = set v p.0 p.1 in
    let later = placed-at n ks w (length-set v p.0 p.1 ∙ e) apart.2 j in
    ⊎_elim
    (λ (same : j ≡ p.0).
    let none : entry ks j ≡ zero_ℚ = ap (entry ks) same ∙ lacks-entry p.0 ks apart.1 in
    let own : at w j ≡ p.1 = ap (at w) same ∙ get_or-set_same v p.0 p.1 zero_ℚ (omega (arith, apart.0, e)) in
    let here : entry (p ∷ ks) j ≡ p.1 = ap (entry (p ∷ ks)) same ∙ entry-here p.0 p.1 ks in
    inl (stays (placed w ks) ks p.0 w n (length-set v p.0 p.1 ∙ e) apart.2 apart.1 j same refl ∙ own ∙ sym here))
    (λ (ne : j ≢ p.0).
    let there = entry-there p.0 j p.1 ks ne in
    ⊎_elim (λ found. inl (found ∙ sym there)) (λ kept. inr (kept.0 ∙ get_or-set_other v p.0 j p.1 zero_ℚ ne, there ∙ kept.1)) later)
    (cases_eq j p.0)
  where
    -- a row that lacks a number keeps what was there
    stays : (out : List ℚ) (ks : List (ℕ × ℚ)) (i : ℕ) (w : List ℚ) (n : ℕ) → length w ≡ n → AreApart n ks → Lacks i ks → (j : ℕ) → j ≡ i → out ≡ placed w ks → at out j ≡ at w j
    stays out [] i w n e apart lacks j same is = ap (λ v. at v j) is
    stays out (q ∷ ks) i w n e apart lacks j same is =
        stays out ks i (set w q.0 q.1) n (length-set w q.0 q.1 ∙ e) apart.2 lacks.1 j same is
        ∙ get_or-set_other w q.0 j q.1 zero_ℚ (λ h. lacks.0 (sym (sym same ∙ h)))

pub length-placed : (v : List ℚ) (ks : List (ℕ × ℚ)) → length (placed v ks) ≡ length v
length-placed v [] = refl
length-placed v (p ∷ ks) = length-placed (set v p.0 p.1) ks ∙ length-set v p.0 p.1

pub placed-zeros : (n : ℕ) (ks : List (ℕ × ℚ)) → AreApart n ks → placed (replicate n zero_ℚ) ks ≡ vector n (entry ks)
placed-zeros n ks apart =
    let zeros = replicate n zero_ℚ in
    list_of (entry ks) n (placed zeros ks) (length-placed zeros ks ∙ length-replicate n zero_ℚ)
    (λ i lt.
    ⊎_elim (λ found. found) (λ kept. kept.0 ∙ get_or-replicate n i zero_ℚ zero_ℚ lt ∙ sym kept.1)
    (placed-at n ks zeros (length-replicate n zero_ℚ) apart i))

pub apart-below : (n : ℕ) (ks : List (ℕ × ℚ)) → AreApart n ks → (k : ℕ) (d : ℕ × ℚ) → k < length ks → (get_or ks k d).0 < n
apart-below n [] apart k d lt = absurd (omega arith)
apart-below n (p ∷ ks) apart zero d lt = apart.0
apart-below n (p ∷ ks) apart (suc k) d lt = apart-below n ks apart.2 k d (omega arith)

pub placed-parts : (ks : List (ℕ × ℚ)) (k : ℕ) (p : ℕ × ℚ) (v : List ℚ) → k < length ks → p ≡ get_or ks k p → placed (set v p.0 p.1) (drop (k + 1) ks) ≡ placed v (drop k ks)
placed-parts ks k p v lt found =
    ap (λ (q : ℕ × ℚ). placed (set v q.0 q.1) (drop (k + 1) ks)) found ∙ sym (at_drop_more (placed v) ks k p lt)

pub placed-ends : (ks : List (ℕ × ℚ)) (k : ℕ) (v : List ℚ) → length ks ≤ k → placed v (drop k ks) ≡ v
placed-ends ks k v le = at_drop_all (placed v) ks k le

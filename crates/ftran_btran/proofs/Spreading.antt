-- A column as a vector, one entry after another.
use Rattle.std.proofs.Common.{◌≡◌, ◌≢◌, ℕ, ◌+◌, ◌<◌, ◌≤◌, List, [], ◌∷◌, length, drop, set, replicate, Some, slice_get, sym, ◌∙◌, ap, ⊎_elim, refl, arith}
use Rattle.std.proofs.lemmas.Bool.{cases_eq, cases_lt}
use Rattle.std.proofs.lemmas.List.{at_drop_more, at_drop_all, length-set, get_or-set_same, get_or-set_other, get_or-replicate, get_or_past, length-replicate}
use Rattle.std.proofs.lemmas.Option.{get_or_from_slice_get}
use Rattle.rational.specs.Rational.{ℚ, zero_ℚ}
use Rattle.rational.specs.Sum.{at}
use Rattle.rational.proofs.VectorLaws.{list_of}
use Rattle.sparse_cols.specs.Sparse.{IsRising}
use Rattle.sparse_cols.proofs.Pairs.{row_below}
use Rattle.factor_model.specs.Vectors.{entry, vector}
use Rattle.factor_model.proofs.LineLaws.{entry-here, entry-there, entry-below}
use Rattle.ftran_btran.specs.Spread.{spread}

pub length-spread : (v : List ℚ) (pairs : List (ℕ × ℚ)) → length (spread v pairs) ≡ length v
length-spread v [] = refl
length-spread v (p ∷ pairs) = length-spread (set v p.0 p.1) pairs ∙ length-set v p.0 p.1

-- rows below the first pair's stay
stays : (n from : ℕ) (v : List ℚ) (pairs : List (ℕ × ℚ)) → IsRising n from pairs → (j : ℕ) → j < from → at (spread v pairs) j ≡ at v j
stays n from v [] rising j lt = refl
stays n from v (p ∷ pairs) rising j lt =
    stays n (p.0 + 1) (set v p.0 p.1) pairs rising.2 j (omega (arith, rising.0)) ∙ get_or-set_other v p.0 j p.1 zero_ℚ (λ e. omega (arith, rising.0))

spread-at : (n from : ℕ) (v : List ℚ) (pairs : List (ℕ × ℚ)) → length v ≡ n → IsRising n from pairs → ((j : ℕ) → from ≤ j → at v j ≡ zero_ℚ)
    → (j : ℕ) → from ≤ j → at (spread v pairs) j ≡ entry pairs j
spread-at n from v [] len rising zeros j le = zeros j le
spread-at n from v (p ∷ pairs) len rising zeros j le =
    let w = set v p.0 p.1 in
    ⊎_elim
    (λ (same : j ≡ p.0).
    stays n (p.0 + 1) w pairs rising.2 j (omega arith) ∙ ap (at w) same ∙ get_or-set_same v p.0 p.1 zero_ℚ (omega (arith, rising.1, len))
    ∙ sym (ap (entry (p ∷ pairs)) same ∙ entry-here p.0 p.1 pairs))
    (λ (ne : j ≢ p.0).
    ⊎_elim
    (λ (below : j < p.0).
    stays n (p.0 + 1) w pairs rising.2 j (omega arith) ∙ get_or-set_other v p.0 j p.1 zero_ℚ ne ∙ zeros j le
    ∙ sym (entry-there p.0 j p.1 pairs ne ∙ entry-below n (p.0 + 1) pairs j rising.2 (omega arith)))
    (λ (above : p.0 ≤ j).
    spread-at n (p.0 + 1) w pairs (length-set v p.0 p.1 ∙ len) rising.2
    (λ i le_i. get_or-set_other v p.0 i p.1 zero_ℚ (λ e. omega arith) ∙ zeros i (omega (arith, rising.0))) j (omega (arith, ne))
    ∙ sym (entry-there p.0 j p.1 pairs ne))
    (cases_lt j p.0))
    (cases_eq j p.0)

pub spread-zeros : (n : ℕ) (pairs : List (ℕ × ℚ)) → IsRising n 0 pairs → spread (replicate n zero_ℚ) pairs ≡ vector n (entry pairs)
spread-zeros n pairs rising =
    list_of (entry pairs) n (spread (replicate n zero_ℚ) pairs) (length-spread (replicate n zero_ℚ) pairs ∙ length-replicate n zero_ℚ)
    (λ i lt. spread-at n 0 (replicate n zero_ℚ) pairs (length-replicate n zero_ℚ) rising (λ j le. zero_at n j) i (omega arith))
  where
    zero_at : (n j : ℕ) → at (replicate n zero_ℚ) j ≡ zero_ℚ
    zero_at n j =
        ⊎_elim (λ (lt : j < n). get_or-replicate n j zero_ℚ zero_ℚ lt) (λ (le : n ≤ j). get_or_past (replicate n zero_ℚ) j zero_ℚ (omega (arith, length-replicate n zero_ℚ, le))) (cases_lt j n)

pub spread-parts : (pairs : List (ℕ × ℚ)) (k : ℕ) (p : ℕ × ℚ) (v : List ℚ) → k < length pairs → slice_get pairs k ≡ Some p
    → spread (set v p.0 p.1) (drop (k + 1) pairs) ≡ spread v (drop k pairs)
spread-parts pairs k p v lt found =
    sym (at_drop_more (spread v) pairs k p lt ∙ ap (λ (q : ℕ × ℚ). spread (set v q.0 q.1) (drop (k + 1) pairs)) (get_or_from_slice_get pairs k p p found))

pub spread-ends : (pairs : List (ℕ × ℚ)) (k : ℕ) (v : List ℚ) → length pairs ≤ k → spread v (drop k pairs) ≡ v
spread-ends pairs k v le = at_drop_all (spread v) pairs k le

pub pair_below : (n : ℕ) (pairs : List (ℕ × ℚ)) (k : ℕ) (p : ℕ × ℚ) → IsRising n 0 pairs → k < length pairs → slice_get pairs k ≡ Some p → p.0 < n
pair_below n pairs k p rising lt found =
    omega (arith, row_below n 0 pairs rising k p lt, ap (λ (q : ℕ × ℚ). q.0) (get_or_from_slice_get pairs k p p found))

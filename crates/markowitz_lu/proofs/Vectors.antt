-- Unit vectors.
use Rattle.std.proofs.Common.{◌≡◌, ◌≢◌, ℕ, ◌<◌, eqb, length, get_or, set, replicate, refl, sym, subst, ◌∙◌, ⊎_elim, arith, length-set, get_or-set_same, get_or-set_other}
use Rattle.std.proofs.lemmas.Bool.{cases_eq, cond-true, cond-false, eq-eqb, ne_eqb}
use Rattle.std.proofs.lemmas.List.{get_or-replicate, length-replicate}
use Rattle.rational.specs.Rational.{zero_ℚ, one_ℚ}
use Rattle.rational.specs.Sparse.{at_index}
use Rattle.rational.proofs.VectorLaws.{list_of}
use Rattle.factor_model.specs.Vectors.{unit_vector}

-- a vector of 0 with one item changed to 1
pub unit-is : (n r : ℕ) → r < n → set (replicate n zero_ℚ) r one_ℚ ≡ unit_vector n r
unit-is n r lt =
    let v = replicate n zero_ℚ in
    let len : length v ≡ n = length-replicate n zero_ℚ in
    list_of (λ i. at_index i r one_ℚ) n (set v r one_ℚ) (length-set v r one_ℚ ∙ len) (λ k below. ⊎_elim
    (λ (e : k ≡ r).
    subst (λ (s : ℕ). get_or (set v r one_ℚ) s zero_ℚ ≡ at_index s r one_ℚ) (sym e)
    (get_or-set_same v r one_ℚ zero_ℚ (omega (arith, len, lt)) ∙ sym (cond-true (eqb r r) one_ℚ zero_ℚ (eq-eqb r r refl))))
    (λ (ne : k ≢ r).
    get_or-set_other v r k one_ℚ zero_ℚ ne ∙ get_or-replicate n k zero_ℚ zero_ℚ below ∙ sym (cond-false (eqb k r) one_ℚ zero_ℚ (ne_eqb k r ne)))
    (cases_eq k r))

-- Pairs in rising rows: they are one list where they have the same values.
use Rattle.std.proofs.Common.{◌≡◌, ◌≢◌, ℕ, ◌+◌, ◌<◌, ◌≤◌, List, [], ◌∷◌, Option, Some, None, ⊎_elim, refl, sym, ap, ap₂, subst, ◌∙◌, arith}
use Rattle.std.proofs.lemmas.Bool.{cases_eq, cases_lt}
use Rattle.rational.specs.Rational.{ℚ, zero_ℚ}
use Rattle.sparse_cols.specs.Sparse.{IsRising, value_at}
use Rattle.factor_model.specs.Vectors.{entry, or_zero}
use Rattle.markowitz_lu.proofs.LinkOrder.{value-here, value-there}

pub value-below : (n from : ℕ) (ps : List (ℕ × ℚ)) (j : ℕ) → IsRising n from ps → j < from → value_at ps j ≡ None
value-below n from [] j rising lt = refl
value-below n from ((k, x) ∷ ps) j rising lt =
    value-there k j x ps (λ e. omega (arith, rising.0)) ∙ value-below n (k + 1) ps j rising.2 (omega (arith, rising.0))

pub rising_same : (n from : ℕ) (xs ys : List (ℕ × ℚ)) → IsRising n from xs → IsRising n from ys → ((j : ℕ) → value_at xs j ≡ value_at ys j) → xs ≡ ys
rising_same n from [] [] rx ry same = refl
rising_same n from [] ((l, y) ∷ ys) rx ry same = let some : value_at ((l, y) ∷ ys) l ≡ Some y = value-here l y ys in let e = same l in absurd cc
rising_same n from ((k, x) ∷ xs) [] rx ry same = let some : value_at ((k, x) ∷ xs) k ≡ Some x = value-here k x xs in let e = same k in absurd cc
rising_same n from ((k, x) ∷ xs) ((l, y) ∷ ys) rx ry same =
    let some_x : value_at ((k, x) ∷ xs) k ≡ Some x = value-here k x xs in
    let some_y : value_at ((l, y) ∷ ys) l ≡ Some y = value-here l y ys in
    ⊎_elim
    (λ (lt : k < l).
    let none : value_at ((l, y) ∷ ys) k ≡ None = value-there l k y ys (λ e. omega arith) ∙ value-below n (l + 1) ys k ry.2 (omega arith) in
    let e = same k in
    absurd cc)
    (λ (le : l ≤ k). ⊎_elim
    (λ (lt : l < k).
    let none : value_at ((k, x) ∷ xs) l ≡ None = value-there k l x xs (λ e. omega arith) ∙ value-below n (k + 1) xs l rx.2 (omega arith) in
    let e = same l in
    absurd cc)
    (λ (ge : k ≤ l).
    let one : k ≡ l = omega arith in
    let at_one : Some x ≡ Some y = sym some_x ∙ same k ∙ ap (value_at ((l, y) ∷ ys)) one ∙ some_y in
    let value : x ≡ y = cc in
    let rest : xs ≡ ys = rising_same n (k + 1) xs ys rx.2 (subst (λ m. IsRising n (m + 1) ys) (sym one) ry.2) (λ j. ⊎_elim
    (λ (e : j ≡ k). value-below n (k + 1) xs j rx.2 (omega arith) ∙ sym (value-below n (l + 1) ys j ry.2 (omega arith)))
    (λ (ne : j ≢ k). sym (value-there k j x xs (λ e. ne (sym e))) ∙ same j ∙ value-there l j y ys (λ e. ne (sym (one ∙ e))))
    (cases_eq j k)) in
    ap₂ (λ p ps. p ∷ ps) (ap₂ (λ m v. (m, v)) one value) rest)
    (cases_lt l k))
    (cases_lt k l)

-- the same entries, of which none that is stored is 0
pub value_from_entry : (ps : List (ℕ × ℚ)) (j : ℕ) (x : ℚ) → entry ps j ≡ x → x ≢ zero_ℚ → value_at ps j ≡ Some x
value_from_entry ps j x is some = by_case (value_at ps j) refl
  where
    by_case : (o : Option ℚ) → value_at ps j ≡ o → value_at ps j ≡ Some x
    by_case None e = absurd (some (sym is ∙ ap or_zero e))
    by_case (Some y) e = e ∙ ap (λ z. Some z) (sym (ap or_zero e) ∙ is)

pub none_from_entry : (ps : List (ℕ × ℚ)) (j : ℕ) → ((x : ℚ) → value_at ps j ≡ Some x → x ≢ zero_ℚ) → entry ps j ≡ zero_ℚ → value_at ps j ≡ None
none_from_entry ps j nonzero is = by_case (value_at ps j) refl
  where
    by_case : (o : Option ℚ) → value_at ps j ≡ o → value_at ps j ≡ None
    by_case None e = e
    by_case (Some y) e = absurd (nonzero y e (sym (ap or_zero e) ∙ is))

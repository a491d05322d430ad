-- Texts with the same bytes are equal.
use Rattle.std.proofs.Common.{◌≡◌, ℕ, true, List, [], ◌∷◌, nat_eq, refl, ap₂}
use Rattle.std.proofs.lemmas.Bool.{and_parts, eq-eqb, eqb-true}
use Rattle.lp_model.specs.Edit.{same_bytes}

pub same_bytes-equal : (xs ys : List ℕ) → same_bytes xs ys ≡ true → xs ≡ ys
same_bytes-equal [] [] e = refl
same_bytes-equal [] (y ∷ ys) e = absurd (cc e)
same_bytes-equal (x ∷ xs) [] e = absurd (cc e)
same_bytes-equal (x ∷ xs) (y ∷ ys) e =
    let parts = and_parts (nat_eq x y) (same_bytes xs ys) e in
    ap₂ (λ z zs. z ∷ zs) (eqb-true x y parts.0) (same_bytes-equal xs ys parts.1)

pub same_bytes-own : (xs : List ℕ) → same_bytes xs xs ≡ true
same_bytes-own [] = refl
same_bytes-own (x ∷ xs) = rw (eq-eqb x x refl) (same_bytes-own xs)

-- What is left of a list from an item on, as it is followed from item to item.
use Rattle.std.proofs.Common.{◌≡◌, ◌≢◌, ℕ, ◌<◌, List, [], ◌∷◌, length, eqb, false, Option, Some, None, slice_get, refl, sym, ap, subst, ◌∙◌, ⊎_elim, ◌⊎◌, inl, inr, arith}
use Rattle.std.specs.List.{Contains, IsDistinct, AllByRecursion}
use Rattle.std.specs.Option.{IfSome}
use Rattle.std.proofs.lemmas.Bool.{cases_eq, eq-eqb, ne_eqb, eqb-false, cond-true, cond-false}
use Rattle.std.proofs.lemmas.List.Elements.{Contains-append_left, Contains-append_right, Contains-append_cases}
use Rattle.std.proofs.lemmas.Map.Keys.{IsDistinct-head, IsDistinct-tail}
use Rattle.std.proofs.lemmas.List.Elements.{All-contains}
use Rattle.chain_links.specs.Lists.{after, rest}

pub contains_one : (i x : ℕ) → Contains (i ∷ []) x → x ≡ i
contains_one i x h =
    All-contains (λ (y : ℕ). y ≡ i) (i ∷ []) x (λ k d lt. let e : k ≡ 0 = omega arith in rw e refl) h

pub one_contains : (i : ℕ) → Contains (i ∷ []) i
one_contains i = (0, omega arith, refl)

pub nothing_contains : (x : ℕ) → Contains [] x → ⊥
nothing_contains x h = omega (arith, h.1)

pub cons_cases : (y : ℕ) (ys : List ℕ) (x : ℕ) → Contains (y ∷ ys) x → (x ≡ y) ⊎ Contains ys x
cons_cases y ys x h =
    ⊎_elim (λ (one : Contains (y ∷ []) x). inl (contains_one y x one)) (λ (later : Contains ys x). inr later) (Contains-append_cases (y ∷ []) ys x h)

pub head_contains : (y : ℕ) (ys : List ℕ) → Contains (y ∷ ys) y
head_contains y ys = Contains-append_left (y ∷ []) ys y (one_contains y)

pub tail_contains : (y : ℕ) (ys : List ℕ) (x : ℕ) → Contains ys x → Contains (y ∷ ys) x
tail_contains y ys x h = Contains-append_right (y ∷ []) ys x h

pub IfSome-first : (xs : List ℕ) → IfSome (slice_get xs 0) (λ x. Contains xs x)
IfSome-first [] = tt
IfSome-first (y ∷ ys) = head_contains y ys

pub IfSome-tail : (o : Option ℕ) (y : ℕ) (ys : List ℕ) → IfSome o (λ x. Contains ys x) → IfSome o (λ x. Contains (y ∷ ys) x)
IfSome-tail None y ys h = tt
IfSome-tail (Some x) y ys h = tail_contains y ys x h

after-head : (x y : ℕ) (ys : List ℕ) → y ≡ x → after x (y ∷ ys) ≡ slice_get ys 0
after-head x y ys e = cond-true (eqb y x) _ _ (eq-eqb y x e)

after-tail : (x y : ℕ) (ys : List ℕ) → y ≢ x → after x (y ∷ ys) ≡ after x ys
after-tail x y ys ne = cond-false (eqb y x) _ _ (ne_eqb y x ne)

pub IfSome-after : (x : ℕ) (xs : List ℕ) → IfSome (after x xs) (λ z. Contains xs z)
IfSome-after x [] = tt
IfSome-after x (y ∷ ys) =
    ⊎_elim
    (λ (e : y ≡ x). subst (λ o. IfSome o (λ z. Contains (y ∷ ys) z)) (sym (after-head x y ys e)) (IfSome-tail (slice_get ys 0) y ys (IfSome-first ys)))
    (λ (ne : y ≢ x). subst (λ o. IfSome o (λ z. Contains (y ∷ ys) z)) (sym (after-tail x y ys ne)) (IfSome-tail (after x ys) y ys (IfSome-after x ys)))
    (cases_eq y x)

pub rest-first : (xs : List ℕ) → rest (slice_get xs 0) xs ≡ xs
rest-first [] = refl
rest-first (y ∷ ys) = cond-true (eqb y y) _ _ (eq-eqb y y refl)

pub head_other : (y z : ℕ) (ys : List ℕ) → AllByRecursion (λ w. eqb y w ≡ false) ys → Contains ys z → y ≢ z
head_other y z [] h held = absurd (nothing_contains z held)
head_other y z (w ∷ ws) h held =
    ⊎_elim (λ (e : z ≡ w). λ (same : y ≡ z). eqb-false y w h.0 (same ∙ e)) (λ (later : Contains ws z). head_other y z ws h.1 later) (cons_cases w ws z held)

pub rest-tail : (o : Option ℕ) (y : ℕ) (ys : List ℕ) → AllByRecursion (λ w. eqb y w ≡ false) ys → IfSome o (λ z. Contains ys z) → rest o (y ∷ ys) ≡ rest o ys
rest-tail None y ys h held = refl
rest-tail (Some z) y ys h held = cond-false (eqb y z) _ _ (ne_eqb y z (head_other y z ys h held))

pub rest-next : (x : ℕ) (xs : List ℕ) → IsDistinct eqb xs → Contains xs x → rest (Some x) xs ≡ x ∷ rest (after x xs) xs
rest-next x [] once held = absurd (nothing_contains x held)
rest-next x (y ∷ ys) once held =
    let apart = IsDistinct-head eqb y ys once in
    ⊎_elim
    (λ (e : y ≡ x).
    let left : rest (after x (y ∷ ys)) (y ∷ ys) ≡ ys = ap (λ o. rest o (y ∷ ys)) (after-head x y ys e) ∙ rest-tail (slice_get ys 0) y ys apart (IfSome-first ys) ∙ rest-first ys in
    cond-true (eqb y x) _ _ (eq-eqb y x e) ∙ ap (λ z. z ∷ ys) e ∙ ap (λ zs. x ∷ zs) (sym left))
    (λ (ne : y ≢ x).
    let later : Contains ys x = ⊎_elim (λ (e : x ≡ y). absurd (ne (sym e))) (λ (h : Contains ys x). h) (cons_cases y ys x held) in
    let left : rest (after x (y ∷ ys)) (y ∷ ys) ≡ rest (after x ys) ys = ap (λ o. rest o (y ∷ ys)) (after-tail x y ys ne) ∙ rest-tail (after x ys) y ys apart (IfSome-after x ys) in
    cond-false (eqb y x) _ _ (ne_eqb y x ne) ∙ rest-next x ys (IsDistinct-tail eqb y ys once) later ∙ ap (λ zs. x ∷ zs) (sym left))
    (cases_eq y x)

-- an item that is left is the next, or is left behind it
pub rest_cases : (x z : ℕ) (xs : List ℕ) → IsDistinct eqb xs → Contains xs x → Contains (rest (Some x) xs) z → (z ≡ x) ⊎ Contains (rest (after x xs) xs) z
rest_cases x z xs once held left =
    cons_cases x (rest (after x xs) xs) z (subst (λ ys. Contains ys z) (rest-next x xs once held) left)

pub rest-shorter : (x : ℕ) (xs : List ℕ) → IsDistinct eqb xs → Contains xs x → length (rest (after x xs) xs) < length (rest (Some x) xs)
rest-shorter x xs once held = omega (arith, ap length (rest-next x xs once held))

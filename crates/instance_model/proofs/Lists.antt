-- Lists of values of a function.
use Rattle.std.proofs.Common.{◌≡◌, ℕ, zero, suc, arith, ◌+◌, ◌<◌, ◌≤◌, List, [], ◌∷◌, ◌++◌, map, length, get_or, take, refl, sym, ◌∙◌, ap}
use Rattle.std.proofs.lemmas.List.FromFn.{map-range_with_len_more}
use Rattle.rational.specs.Sparse.{upto}
use Rattle.std.proofs.lemmas.List.{map-append, take_all, take_more}

-- a map of a map
pub map-map : {A B C : Type 0} (f : B → C) (g : A → B) (xs : List A) → map f (map g xs) ≡ map (λ x. f (g x)) xs
map-map f g [] = refl
map-map f g (x ∷ xs) = ap (λ ys. f (g x) ∷ ys) (map-map f g xs)

-- the values of the items before an index, and of the item there
pub map_more : {A B : Type 0} (f : A → B) (xs : List A) (i : ℕ) (d : A) → i < length xs → map f (take i xs) ++ f (get_or xs i d) ∷ [] ≡ map f (take (i + 1) xs)
map_more f xs i d b = sym (ap (map f) (take_more xs i d b) ∙ map-append f (take i xs) (get_or xs i d ∷ []))

-- the values of the items before the end are those of all
pub map_all : {A B : Type 0} (f : A → B) (xs : List A) (n : ℕ) → length xs ≤ n → map f (take n xs) ≡ map f xs
map_all f xs n b = ap (map f) (take_all n xs b)

-- the values at the first indices are those of the first items
pub map_at : {A B : Type 0} (f : A → B) (xs : List A) (d : A) (n : ℕ) → n ≤ length xs → map (λ i. f (get_or xs i d)) (upto n) ≡ map f (take n xs)
map_at f xs d zero b = refl
map_at f xs d (suc n) b =
    let next : suc n ≡ n + 1 = omega arith in
    ap (λ k. map (λ i. f (get_or xs i d)) (upto k)) next
    ∙ map-range_with_len_more (λ i. f (get_or xs i d)) 0 n n (omega arith)
    ∙ ap (λ ys. ys ++ f (get_or xs n d) ∷ []) (map_at f xs d n (omega (b, arith)))
    ∙ map_more f xs n d (omega (b, arith))
    ∙ ap (λ k. map f (take k xs)) (sym next)

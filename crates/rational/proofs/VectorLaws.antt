-- Lists by their indices: a list made from the indices 0 to n - 1, and vectors that are the same item by item.
use Rattle.std.proofs.Common.{◌≡◌, ℕ, ◌<◌, List, map, length, get_or, sym, ◌∙◌, subst, arith, ext_get_or}
use Rattle.std.proofs.lemmas.List.FromFn.{get_or-map-range_with_len, length-map-range_with_len}
use Rattle.rational.specs.Rational.{ℚ, zero_ℚ}
use Rattle.rational.specs.Sum.{at}
use Rattle.rational.specs.Sparse.{upto}

-- a list made from the indices, read at an index
pub get-map-upto : {A : Type 0} (f : ℕ → A) (d : A) (n i : ℕ) → i < n → get_or (map f (upto n)) i d ≡ f i
get-map-upto f d n i within = get_or-map-range_with_len f 0 n i i d within (omega arith)

pub length-map-upto : {A : Type 0} (f : ℕ → A) (n : ℕ) → length (map f (upto n)) ≡ n
length-map-upto f n = length-map-range_with_len f 0 n

-- two vectors of one length with the same items are the same
pub same_vectors : (v v' : List ℚ) (m : ℕ) → length v ≡ m → length v' ≡ m → ((i : ℕ) → i < m → at v i ≡ at v' i) → v ≡ v'
same_vectors v v' m e e' same = ext_get_or zero_ℚ v v' (e ∙ sym e') (λ i h. same i (subst (λ n. i < n) e h))

-- a list with the values of a function, item by item, is the list of its values
pub list_of : (f : ℕ → ℚ) (n : ℕ) (xs : List ℚ) → length xs ≡ n → ((i : ℕ) → i < n → at xs i ≡ f i) → xs ≡ map f (upto n)
list_of f n xs len items = same_vectors xs (map f (upto n)) n len (length-map-upto f n) (λ i h. items i h ∙ sym (get-map-upto f zero_ℚ n i h))

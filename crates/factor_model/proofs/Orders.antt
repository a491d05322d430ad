-- Orders of the numbers below n: what is in one, and sums along it.
use Rattle.std.proofs.Common.{◌≡◌, ◌≢◌, ℕ, zero, suc, ◌+◌, ◌<◌, List, [], ◌∷◌, ◌++◌, length, get_or, set, map, reverse, ◌⊎◌, inl, inr, ⊎_elim, refl, sym, ◌∙◌, ap, ap₂, subst, arith}
use Rattle.std.specs.List.{Contains, range_with_len, swap}
use Rattle.std.specs.List.Sorted.{IsPermutation}
use Rattle.std.proofs.lemmas.Bool.{cases_eq}
use Rattle.std.proofs.lemmas.List.{length-set, get_or-set_same, get_or-set_other, reverse-append, reverse-reverse}
use Rattle.std.proofs.lemmas.List.Edits.{swap_is}
use Rattle.std.proofs.lemmas.List.FromFn.{length-range_with_len, get_or-range_with_len}
use Rattle.std.proofs.lemmas.List.Sorted.{IsPermutation-sym, IsPermutation-keeps, Contains-permutation}
use Rattle.rational.specs.Rational.{ℚ, zero_ℚ, ◌+ℚ◌, ◌-ℚ◌}
use Rattle.rational.proofs.RationalRing.{ring_ℚ}
use Rattle.rational.proofs.Ring.{◌≐◌, ◌⊕◌, ◌⊖◌, 𝟘}
use Rattle.rational.specs.Sum.{sum_ℚ}
use Rattle.rational.proofs.SumLaws.{sum-zero_terms, sum-suc, sum-cong, sum-split}
use Rattle.factor_model.specs.Upper.{In, Pairwise}

-- ---- what is in a list

pub contains_in : (x : ℕ) (xs : List ℕ) → In x xs → Contains xs x
contains_in x [] held = absurd held
contains_in x (y ∷ ys) (inl e) = (0, omega arith, sym e)
contains_in x (y ∷ ys) (inr held) = let there = contains_in x ys held in (suc there.0, omega (arith, there.1), there.2)

in_at : (x : ℕ) (xs : List ℕ) (k : ℕ) → k < length xs → get_or xs k x ≡ x → In x xs
in_at x [] k lt e = absurd (omega arith)
in_at x (y ∷ ys) zero lt e = inl (sym e)
in_at x (y ∷ ys) (suc k) lt e = inr (in_at x ys k (omega arith) e)

pub in_contains : (x : ℕ) (xs : List ℕ) → Contains xs x → In x xs
in_contains x xs held = in_at x xs held.0 held.1 held.2

pub in_append : (x : ℕ) (xs ys : List ℕ) → In x (xs ++ ys) → In x xs ⊎ In x ys
in_append x [] ys held = inr held
in_append x (z ∷ zs) ys (inl e) = inl (inl e)
in_append x (z ∷ zs) ys (inr held) = ⊎_elim (λ (h : In x zs). inl (inr h)) (λ (h : In x ys). inr h) (in_append x zs ys held)

pub in_left : (x : ℕ) (xs ys : List ℕ) → In x xs → In x (xs ++ ys)
in_left x [] ys held = absurd held
in_left x (z ∷ zs) ys (inl e) = inl e
in_left x (z ∷ zs) ys (inr held) = inr (in_left x zs ys held)

pub in_right : (x : ℕ) (xs ys : List ℕ) → In x ys → In x (xs ++ ys)
in_right x [] ys held = held
in_right x (z ∷ zs) ys held = inr (in_right x zs ys held)

reverse-cons : (x : ℕ) (xs : List ℕ) → reverse (x ∷ xs) ≡ reverse xs ++ x ∷ []
reverse-cons x xs = reverse-append (x ∷ []) xs

pub in_reverse : (x : ℕ) (xs : List ℕ) → In x xs → In x (reverse xs)
in_reverse x [] held = absurd held
in_reverse x (y ∷ ys) (inl e) = subst (In x) (sym (reverse-cons y ys)) (in_right x (reverse ys) (y ∷ []) (inl e))
in_reverse x (y ∷ ys) (inr held) = subst (In x) (sym (reverse-cons y ys)) (in_left x (reverse ys) (y ∷ []) (in_reverse x ys held))

-- an item of a mapped list is that of an item
pub in_map : (f : ℕ → ℕ) (y : ℕ) (xs : List ℕ) → In y (map f xs) → (x : ℕ) × In x xs × (y ≡ f x)
in_map f y [] held = absurd held
in_map f y (x ∷ xs) (inl e) = (x, inl refl, e)
in_map f y (x ∷ xs) (inr held) = let there = in_map f y xs held in (there.0, inr there.1, there.2)

pub map_in : (f : ℕ → ℕ) (x : ℕ) (xs : List ℕ) → In x xs → In (f x) (map f xs)
map_in f x [] held = absurd held
map_in f x (y ∷ ys) (inl e) = inl (ap f e)
map_in f x (y ∷ ys) (inr held) = inr (map_in f x ys held)

-- ---- what is in an order of the numbers below n

below_of : (n p : ℕ) → Contains (range_with_len 0 n) p → p < n
below_of n p held =
    let lt : held.0 < n = omega (arith, held.1, length-range_with_len 0 n) in
    let e : held.0 ≡ p = sym (omega (arith, get_or-range_with_len 0 n held.0 p lt)) ∙ held.2 in
    omega arith

of_below : (n p : ℕ) → p < n → Contains (range_with_len 0 n) p
of_below n p lt = (p, omega (arith, length-range_with_len 0 n), omega (arith, get_or-range_with_len 0 n p p lt))

module _ (n : ℕ) (xs : List ℕ) (whole : IsPermutation (range_with_len 0 n) xs) where
  pub in_whole : (p : ℕ) → p < n → In p xs
  in_whole p lt = in_contains p xs (Contains-permutation (range_with_len 0 n) xs p whole (of_below n p lt))

  pub whole_below : (p : ℕ) → In p xs → p < n
  whole_below p held = below_of n p (Contains-permutation xs (range_with_len 0 n) p (IsPermutation-sym (range_with_len 0 n) xs whole) (contains_in p xs held))

-- ---- sums along a list

unfoldable pub sum_over : (ℕ → ℚ) → List ℕ → ℚ
unfolding zero_ℚ ◌+ℚ◌
sum_over f [] = zero_ℚ
sum_over f (x ∷ xs) = f x +ℚ sum_over f xs

pub sum_over-nil : (f : ℕ → ℚ) → sum_over f [] ≡ zero_ℚ
unfolding sum_over
sum_over-nil f = refl

pub sum_over-cons : (f : ℕ → ℚ) (x : ℕ) (xs : List ℕ) → sum_over f (x ∷ xs) ≡ f x +ℚ sum_over f xs
unfolding sum_over
sum_over-cons f x xs = refl

pub sum_over-cong : (f g : ℕ → ℚ) (xs : List ℕ) → ((x : ℕ) → In x xs → f x ≡ g x) → sum_over f xs ≡ sum_over g xs
unfolding sum_over
sum_over-cong f g [] same = refl
sum_over-cong f g (x ∷ xs) same = ap₂ ◌+ℚ◌ (same x (inl refl)) (sum_over-cong f g xs (λ y held. same y (inr held)))

pub sum_over-none : (f : ℕ → ℚ) (xs : List ℕ) → ((x : ℕ) → In x xs → f x ≡ zero_ℚ) → sum_over f xs ≡ zero_ℚ
unfolding sum_over
sum_over-none f [] none = refl
sum_over-none f (x ∷ xs) none =
    ap₂ ◌+ℚ◌ (none x (inl refl)) (sum_over-none f xs (λ y held. none y (inr held))) ∙ ring_ℚ 0 (𝟘 ⊕ 𝟘 ≐ 𝟘) tt

pub sum_over-append : (f : ℕ → ℚ) (xs ys : List ℕ) → sum_over f (xs ++ ys) ≡ sum_over f xs +ℚ sum_over f ys
unfolding sum_over
sum_over-append f [] ys = ring_ℚ 1 (λ s. s ≐ 𝟘 ⊕ s) tt (sum_over f ys)
sum_over-append f (x ∷ xs) ys =
    ap (λ s. f x +ℚ s) (sum_over-append f xs ys) ∙ ring_ℚ 3 (λ a b c. a ⊕ (b ⊕ c) ≐ a ⊕ b ⊕ c) tt (f x) (sum_over f xs) (sum_over f ys)

pub sum_over-map : (f : ℕ → ℚ) (g : ℕ → ℕ) (xs : List ℕ) → sum_over f (map g xs) ≡ sum_over (λ x. f (g x)) xs
unfolding sum_over
sum_over-map f g [] = refl
sum_over-map f g (x ∷ xs) = ap (λ s. f (g x) +ℚ s) (sum_over-map f g xs)

sum_over-set : (f : ℕ → ℚ) (xs : List ℕ) (i v : ℕ) → i < length xs → sum_over f (set xs i v) ≡ sum_over f xs +ℚ (f v -ℚ f (get_or xs i 0))
unfolding sum_over
sum_over-set f [] i v lt = absurd (omega arith)
sum_over-set f (x ∷ xs) zero v lt = ring_ℚ 3 (λ a b s. b ⊕ s ≐ a ⊕ s ⊕ (b ⊖ a)) tt (f x) (f v) (sum_over f xs)
sum_over-set f (x ∷ xs) (suc i) v lt =
    ap (λ s. f x +ℚ s) (sum_over-set f xs i v (omega arith))
    ∙ ring_ℚ 4 (λ a s b c. a ⊕ (s ⊕ (b ⊖ c)) ≐ a ⊕ s ⊕ (b ⊖ c)) tt (f x) (sum_over f xs) (f v) (f (get_or xs i 0))

sum_over-swap : (f : ℕ → ℚ) (xs : List ℕ) (i j : ℕ) → i < length xs → j < length xs → sum_over f (swap xs i j) ≡ sum_over f xs
sum_over-swap f xs i j lt lt' =
    let a = get_or xs i 0 in
    let b = get_or xs j 0 in
    let there : get_or (set xs i b) j 0 ≡ b =
    ⊎_elim (λ (e : j ≡ i). subst (λ k. get_or (set xs i b) k 0 ≡ b) (sym e) (get_or-set_same xs i b 0 lt)) (λ (ne : j ≢ i). get_or-set_other xs i j b 0 ne) (cases_eq j i) in
    ap (sum_over f) (sym (swap_is xs i j 0 lt lt'))
    ∙ sum_over-set f (set xs i b) j a (subst (λ n. j < n) (sym (length-set xs i b)) lt')
    ∙ ap₂ (λ s t. s +ℚ (f a -ℚ f t)) (sum_over-set f xs i b lt) there
    ∙ ring_ℚ 3 (λ s x y. s ⊕ (y ⊖ x) ⊕ (x ⊖ y) ≐ s) tt (sum_over f xs) (f a) (f b)

sum-first : (n : ℕ) (f : ℕ → ℚ) → sum_ℚ (suc n) f ≡ f 0 +ℚ sum_ℚ n (λ k. f (1 + k))
sum-first n f =
    let one : suc n ≡ 1 + n = omega arith in
    ap (λ m. sum_ℚ m f) one ∙ sum-split 1 n f ∙ ap (λ s. s +ℚ sum_ℚ n (λ k. f (1 + k))) (sum-suc 0 f ∙ ap (λ s. s +ℚ f 0) (sum-zero_terms f))
    ∙ ring_ℚ 2 (λ a s. 𝟘 ⊕ a ⊕ s ≐ a ⊕ s) tt (f 0) (sum_ℚ n (λ k. f (1 + k)))

sum_over-range_from : (a n : ℕ) (f : ℕ → ℚ) → sum_over f (range_with_len a n) ≡ sum_ℚ n (λ k. f (a + k))
sum_over-range_from a zero f = sum_over-nil f ∙ sym (sum-zero_terms (λ k. f (a + k)))
sum_over-range_from a (suc n) f =
    sum_over-cons f a (range_with_len (a + 1) n)
    ∙ ap₂ ◌+ℚ◌ (ap f (first a)) (sum_over-range_from (a + 1) n f ∙ sum-cong n (λ k. f (a + 1 + k)) (λ k. f (a + (1 + k))) (λ k lt. ap f (later a k)))
    ∙ sym (sum-first n (λ k. f (a + k)))
  where
    first : (b : ℕ) → b ≡ b + 0
    first b = omega arith

    later : (b k : ℕ) → b + 1 + k ≡ b + (1 + k)
    later b k = omega arith

sum_over-range : (n : ℕ) (f : ℕ → ℚ) → sum_over f (range_with_len 0 n) ≡ sum_ℚ n f
sum_over-range n f = sum_over-range_from 0 n f ∙ sum-cong n (λ k. f (0 + k)) f (λ k lt. ap f (none k))
  where
    none : (k : ℕ) → 0 + k ≡ k
    none k = omega arith

-- the sum along an order of the numbers below n
pub sum_whole : (n : ℕ) (f : ℕ → ℚ) (xs : List ℕ) → IsPermutation (range_with_len 0 n) xs → sum_over f xs ≡ sum_ℚ n f
sum_whole n f xs whole =
    IsPermutation-keeps (range_with_len 0 n) (λ ys. sum_over f ys ≡ sum_ℚ n f) (sum_over-range n f) (λ l i j lt lt' e. sum_over-swap f l i j lt lt' ∙ e) xs whole

-- ---- pairs

pub Pairwise-append : (R : ℕ → ℕ → Type 0) (xs ys : List ℕ) → Pairwise R xs → Pairwise R ys → ((x y : ℕ) → In x xs → In y ys → R x y) → Pairwise R (xs ++ ys)
Pairwise-append R [] ys p q r = q
Pairwise-append R (x ∷ xs) ys p q r = (
  λ y held. ⊎_elim (λ (h : In y xs). p.0 y h) (λ (h : In y ys). r x y (inl refl) h) (in_append y xs ys held),
  Pairwise-append R xs ys p.1 q (λ a b h k. r a b (inr h) k),
)

pub Pairwise-reverse : (R : ℕ → ℕ → Type 0) (xs : List ℕ) → Pairwise R xs → Pairwise (λ x y. R y x) (reverse xs)
Pairwise-reverse R [] p = tt
Pairwise-reverse R (x ∷ xs) p =
    subst (Pairwise (λ a b. R b a)) (sym (reverse-cons x xs))
    (Pairwise-append (λ a b. R b a) (reverse xs) (x ∷ []) (Pairwise-reverse R xs p.1) ((λ y held. absurd held), tt)
    (λ a b held one. ⊎_elim (λ (e : b ≡ x). subst (λ z. R z a) (sym e) (p.0 a (of_reverse a xs held))) (λ (no : ⊥). absurd no) one))
  where
    of_reverse : (a : ℕ) (ys : List ℕ) → In a (reverse ys) → In a ys
    of_reverse a ys held = subst (In a) (reverse-reverse ys) (in_reverse a (reverse ys) held)

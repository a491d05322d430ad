-- Sums over a list whose elements are read by place.
use Rattle.std.proofs.Common.{◌≡◌, ◌≢◌, ℕ, zero, suc, ◌+◌, ◌<◌, ◌≤◌, List, [], ◌∷◌, set, sym, ap, refl, arith}
use Rattle.std.specs.List.{sum_by}
use Rattle.std.proofs.lemmas.List.Sums.{sum_by-cons}
use mathlib.Core.Option.{some, some-injective, some-ne-none}
use lib.ListN.{get_elem?}

module _ {V : Type 0} where
  -- one element is changed
  pub sum_by-set_at : (f : V → ℕ) (vs : List V) (i : ℕ) (v w : V) → get_elem? vs i ≡ some v → sum_by f (set vs i w) + f v ≡ sum_by f vs + f w
  sum_by-set_at f [] i v w at = absurd (some-ne-none v (sym at))
  sum_by-set_at f (x ∷ xs) zero v w at =
      let same : f x ≡ f v = ap f (some-injective x v at) in omega (arith, sum_by-cons f w xs, sum_by-cons f x xs)
  sum_by-set_at f (x ∷ xs) (suc i) v w at =
      omega (arith, sum_by-cons f x (set xs i w), sum_by-cons f x xs, sum_by-set_at f xs i v w at)

  -- an element is at most the sum
  pub sum_by-at-le : (f : V → ℕ) (vs : List V) (i : ℕ) (v : V) → get_elem? vs i ≡ some v → f v ≤ sum_by f vs
  sum_by-at-le f [] i v at = absurd (some-ne-none v (sym at))
  sum_by-at-le f (x ∷ xs) zero v at =
      let same : f x ≡ f v = ap f (some-injective x v at) in omega (arith, sum_by-cons f x xs)
  sum_by-at-le f (x ∷ xs) (suc i) v at = omega (arith, sum_by-cons f x xs, sum_by-at-le f xs i v at)

  -- so are two elements at different places, together
  pub sum_by-at_both-le : (f : V → ℕ) (vs : List V) (i j : ℕ) (v w : V) → i ≢ j → get_elem? vs i ≡ some v → get_elem? vs j ≡ some w
      → f v + f w ≤ sum_by f vs
  sum_by-at_both-le f [] i j v w apart at also = absurd (some-ne-none v (sym at))
  sum_by-at_both-le f (x ∷ xs) zero zero v w apart at also = absurd (apart refl)
  sum_by-at_both-le f (x ∷ xs) zero (suc j) v w apart at also =
      let same : f x ≡ f v = ap f (some-injective x v at) in omega (arith, sum_by-cons f x xs, sum_by-at-le f xs j w also)
  sum_by-at_both-le f (x ∷ xs) (suc i) zero v w apart at also =
      let same : f x ≡ f w = ap f (some-injective x w also) in omega (arith, sum_by-cons f x xs, sum_by-at-le f xs i v at)
  sum_by-at_both-le f (x ∷ xs) (suc i) (suc j) v w apart at also =
      omega (arith, sum_by-cons f x xs, sum_by-at_both-le f xs i j v w (λ e. apart (ap suc e)) at also)

  -- the sum of smaller terms
  pub sum_by-le-each : (f g : V → ℕ) (vs : List V) → ((j : ℕ) (v : V) → get_elem? vs j ≡ some v → f v ≤ g v) → sum_by f vs ≤ sum_by g vs
  sum_by-le-each f g [] below = omega arith
  sum_by-le-each f g (x ∷ xs) below =
      omega (arith, sum_by-cons f x xs, sum_by-cons g x xs, below 0 x refl, sum_by-le-each f g xs (λ j v at. below (suc j) v at))

  -- where one term is smaller, so is the sum
  pub sum_by-lt-each : (f g : V → ℕ) (vs : List V) (i : ℕ) (v : V) → get_elem? vs i ≡ some v → f v < g v
      → ((j : ℕ) (u : V) → get_elem? vs j ≡ some u → f u ≤ g u) → sum_by f vs < sum_by g vs
  sum_by-lt-each f g [] i v at less below = absurd (some-ne-none v (sym at))
  sum_by-lt-each f g (x ∷ xs) zero v at less below =
      let same : x ≡ v = some-injective x v at in
      let left : f x ≡ f v = ap f same in
      let right : g x ≡ g v = ap g same in
      omega (arith, sum_by-cons f x xs, sum_by-cons g x xs, sum_by-le-each f g xs (λ j u also. below (suc j) u also))
  sum_by-lt-each f g (x ∷ xs) (suc i) v at less below =
      omega (arith, sum_by-cons f x xs, sum_by-cons g x xs, below 0 x refl, sum_by-lt-each f g xs i v at less (λ j u also. below (suc j) u also))

  -- a sum of terms that are 0
  pub sum_by-none : (f : V → ℕ) (vs : List V) → ((j : ℕ) (v : V) → get_elem? vs j ≡ some v → f v ≡ 0) → sum_by f vs ≡ 0
  sum_by-none f [] nothing = refl
  sum_by-none f (x ∷ xs) nothing =
      omega (arith, sum_by-cons f x xs, nothing 0 x refl, sum_by-none f xs (λ j v at. nothing (suc j) v at))

  -- where all of g stands in one element, and f is 0 wherever g is, all of f stands in that element
  pub sum_by-alone : (f g : V → ℕ) (vs : List V) (i : ℕ) (v : V) → get_elem? vs i ≡ some v → sum_by g vs ≡ g v
      → ((j : ℕ) (u : V) → get_elem? vs j ≡ some u → g u ≡ 0 → f u ≡ 0) → sum_by f vs ≡ f v
  sum_by-alone f g [] i v at all nothing = absurd (some-ne-none v (sym at))
  sum_by-alone f g (x ∷ xs) zero v at all nothing =
      let same : x ≡ v = some-injective x v at in
      let left : f x ≡ f v = ap f same in
      let right : g x ≡ g v = ap g same in
      let rest : sum_by g xs ≡ 0 = omega (arith, sum_by-cons g x xs) in
      let none : sum_by f xs ≡ 0 = sum_by-none f xs (λ j u also. nothing (suc j) u also (omega (arith, sum_by-at-le g xs j u also))) in
      omega (arith, sum_by-cons f x xs)
  sum_by-alone f g (x ∷ xs) (suc i) v at all nothing =
      let whole : g v ≤ sum_by g xs = sum_by-at-le g xs i v at in
      let first : g x ≡ 0 = omega (arith, sum_by-cons g x xs) in
      let rest : sum_by g xs ≡ g v = omega (arith, sum_by-cons g x xs) in
      omega (arith, sum_by-cons f x xs, nothing 0 x refl first, sum_by-alone f g xs i v at rest (λ j u also. nothing (suc j) u also))

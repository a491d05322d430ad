-- The first element that passes a test.
use Rattle.std.proofs.Common.{◌≡◌, ℕ, suc, ◌+◌, Bool, true, false, not, ◌||◌, cond, List, [], ◌∷◌, length, get_or, set, position, Some, None, is_some, nat_lt, refl, ap, ap₂, ◌∙◌, arith, length-set}
use Rattle.std.specs.List.{list_any, position_or_len}
use Rattle.std.specs.Option.{option_map}
use Rattle.std.proofs.lemmas.Bool.Decides.{nat_tests}
use Rattle.std.proofs.lemmas.List.Folds.{position_or_len-set}
use Rattle.deck_model.proofs.Lookups.{nat_lt-first, nat_lt-next}

first_or_next : (b : Bool) (i n : ℕ) → cond (nat_lt (cond (not b) (1 + i) 0) (suc n)) (Some (cond (not b) (1 + i) 0)) None ≡ cond b (Some 0) (option_map (λ k. 1 + k) (cond (nat_lt i n) (Some i) None))
first_or_next true i n = ap (λ c. cond c (Some 0) None) (nat_lt-first n)
first_or_next false i n = ap (λ c. cond c (Some (1 + i)) None) (nat_lt-next i n) ∙ by (nat_lt i n)
  where
    by : (c : Bool) → cond c (Some (1 + i)) None ≡ option_map (λ k. 1 + k) (cond c (Some i) None)
    by true = refl
    by false = refl

module _ {X : Type 0} (p : X → Bool) where
  -- the first that passes is the head, or it is one further than in the tail
  pub position-next : (x : X) (xs : List X) → position p (x ∷ xs) ≡ cond (p x) (Some 0) (option_map (λ k. 1 + k) (position p xs))
  position-next x xs = first_or_next (p x) (position_or_len p xs) (length xs)

module _ {X : Type 0} (p q : X → Bool) (same : (x : X) → p x ≡ q x) where
  pub list_any-same : (xs : List X) → list_any p xs ≡ list_any q xs
  list_any-same [] = refl
  list_any-same (x ∷ xs) = ap₂ (λ a b. a || b) (same x) (list_any-same xs)

  position_or_len-same : (xs : List X) → position_or_len p xs ≡ position_or_len q xs
  position_or_len-same [] = refl
  position_or_len-same (x ∷ xs) = ap₂ (λ b n. cond (not b) (1 + n) 0) (same x) (position_or_len-same xs)

  pub position-same : (xs : List X) → position p xs ≡ position q xs
  position-same xs = ap (λ n. cond (nat_lt n (length xs)) (Some n) None) (position_or_len-same xs)

module _ {X : Type 0} (p : X → Bool) where
  reached : (b : Bool) (n m : ℕ) → nat_lt (cond (not b) (1 + n) 0) (suc m) ≡ (b || nat_lt n m)
  reached true n m = grind (arith, nat_tests)
  reached false n m = grind (arith, nat_tests)

  found_within : (xs : List X) → nat_lt (position_or_len p xs) (length xs) ≡ list_any p xs
  found_within [] = refl
  found_within (x ∷ xs) = reached (p x) (position_or_len p xs) (length xs) ∙ ap (λ t. p x || t) (found_within xs)

  is_some-cond : (b : Bool) (i : ℕ) → is_some (cond b (Some i) None) ≡ b
  is_some-cond true i = refl
  is_some-cond false i = refl

  -- a place is found where an element passes
  pub is_some-position : (xs : List X) → is_some (position p xs) ≡ list_any p xs
  is_some-position xs = is_some-cond (nat_lt (position_or_len p xs) (length xs)) (position_or_len p xs) ∙ found_within xs

-- an element put in place of one with the same answer changes no place
pub position-set : {X : Type 0} (p : X → Bool) (xs : List X) (i : ℕ) (y d : X) → p y ≡ p (get_or xs i d) → position p (set xs i y) ≡ position p xs
position-set p xs i y d e = ap₂ (λ n m. cond (nat_lt n m) (Some n) None) (position_or_len-set p xs i y d e) (length-set xs i y)

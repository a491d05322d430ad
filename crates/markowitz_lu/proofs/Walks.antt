-- A line that is followed from link to link.
use Rattle.std.proofs.Common.{◌≡◌, ℕ, ◌<◌, List, [], ◌∷◌, ◌++◌, length, map, eqb, Option, Some, slice_get, sym, ap, subst, ◌∙◌, append_assoc, arith}
use Rattle.std.specs.List.{Contains, IsDistinct}
use Rattle.std.specs.Option.{IfSome}
use Rattle.chain_links.specs.Lists.{after, rest}
use Rattle.chain_links.proofs.Rest.{rest-first, rest-next, IfSome-first, IfSome-after}

pub first_in : (xs : List ℕ) (next : Option ℕ) → next ≡ slice_get xs 0 → IfSome next (Contains xs)
first_in xs next is = subst (λ (o : Option ℕ). IfSome o (Contains xs)) (sym is) (IfSome-first xs)

pub first_left : (xs : List ℕ) (next : Option ℕ) → next ≡ slice_get xs 0 → rest next xs ≡ xs
first_left xs next is = ap (λ (o : Option ℕ). rest o xs) is ∙ rest-first xs

module _ (xs : List ℕ) (next : Option ℕ) (x : ℕ) (is : next ≡ Some x) (held : IfSome next (Contains xs)) where
  pub link_in : Contains xs x
  link_in = subst (λ (o : Option ℕ). IfSome o (Contains xs)) is held

  module _ (once : IsDistinct eqb xs) (next' : Option ℕ) (behind : next' ≡ after x xs) where
    pub next_in : IfSome next' (Contains xs)
    next_in = subst (λ (o : Option ℕ). IfSome o (Contains xs)) (sym behind) (IfSome-after x xs)

    pub next_left : rest next xs ≡ x ∷ rest next' xs
    next_left = ap (λ (o : Option ℕ). rest o xs) is ∙ rest-next x xs once link_in ∙ ap (λ (o : Option ℕ). x ∷ rest o xs) (sym behind)

    pub next_shorter : length (rest next' xs) < length (rest next xs)
    next_shorter = omega (arith, ap length next_left)

    -- what is read and what is left are as much as before
    pub read_on : {A : Type 0} (f : ℕ → A) (a : A) (read all : List A) → a ≡ f x → read ++ map f (rest next xs) ≡ all → (read ++ a ∷ []) ++ map f (rest next' xs) ≡ all
    read_on f a read all here e =
        append_assoc read (a ∷ []) (map f (rest next' xs)) ∙ ap (λ b. read ++ b ∷ map f (rest next' xs)) here ∙ ap (λ ls. read ++ map f ls) (sym next_left) ∙ e

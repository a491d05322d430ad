-- Following the order of a triangular form from either end.
use Rattle.std.proofs.Common.{◌≡◌, ℕ, ◌<◌, List, [], ◌∷◌, reverse, Option, Some, None, slice_get, refl, sym, ◌∙◌, ap, subst}
use Rattle.std.specs.Option.{IfSome}
use Rattle.chain_links.specs.Lists.{after, before, rest}
use Rattle.chain_links.proofs.Rest.{rest-first, rest-next}
use Rattle.factor_model.specs.Upper.{Triangle, IsUpper}
use Rattle.factor_model.proofs.Orders.{contains_in, in_reverse}
use Rattle.factor_model.proofs.UpperShape.{in_order, order_distinct, back_distinct}

pub from_first : (xs : List ℕ) (o : Option ℕ) → o ≡ slice_get xs 0 → rest o xs ≡ xs
from_first xs o e = ap (λ q. rest q xs) e ∙ rest-first xs

module _ (n : ℕ) (u : Triangle) (upper : IsUpper n u) (p : ℕ) (lt : p < n) (o : Option ℕ) where
  pub walk_back : o ≡ before p u.order → rest (Some p) (reverse u.order) ≡ p ∷ rest o (reverse u.order)
  walk_back e =
      rest-next p (reverse u.order) (back_distinct n u upper) (contains_in p (reverse u.order) (in_reverse p u.order (in_order n u upper p lt)))
      ∙ ap (λ q. p ∷ rest q (reverse u.order)) (sym e)

  pub walk_on : o ≡ after p u.order → rest (Some p) u.order ≡ p ∷ rest o u.order
  walk_on e =
      rest-next p u.order (order_distinct n u upper) (contains_in p u.order (in_order n u upper p lt)) ∙ ap (λ q. p ∷ rest q u.order) (sym e)

pub within : (o : Option ℕ) (m n : ℕ) → m ≡ n → IfSome o (λ q. q < m) → IfSome o (λ q. q < n)
within o m n e h = subst (λ k. IfSome o (λ q. q < k)) e h

-- at the walk's end nothing is left
pub nothing_left : (o : Option ℕ) (xs : List ℕ) → ((p : ℕ) → o ≡ Some p → ⊥) → rest o xs ≡ []
nothing_left None xs h = refl
nothing_left (Some p) xs h = absurd (h p refl)

-- The shape of a triangular form: its rows and its order.
use Rattle.std.proofs.Common.{◌≡◌, ◌≢◌, ℕ, ◌<◌, List, [], ◌∷◌, length, map, reverse, eqb, false, ne_eqb, refl, sym, ◌∙◌, inl, inr}
use Rattle.std.specs.List.{IsDistinct, AllByRecursion, range_with_len}
use Rattle.std.proofs.lemmas.Map.Keys.{IsDistinct-cons}
use Rattle.std.proofs.lemmas.List.Sorted.{length_permutation}
use Rattle.std.proofs.lemmas.List.FromFn.{length-range_with_len}
use Rattle.factor_model.specs.Upper.{Triangle, IsUpper, ComesBefore, In, Pairwise, row_of}
use Rattle.factor_model.proofs.Orders.{Pairwise-reverse, in_whole, whole_below, map_in, in_map}

module _ (n : ℕ) (u : Triangle) (upper : IsUpper n u) where
  pub in_order : (p : ℕ) → p < n → In p u.order
  in_order p lt = in_whole n u.order upper.whole p lt

  pub order_below : (p : ℕ) → In p u.order → p < n
  order_below p held = whole_below n u.order upper.whole p held

  pub order_length : length u.order ≡ n
  order_length = length_permutation (range_with_len 0 n) u.order upper.whole ∙ length-range_with_len 0 n

  -- the row of a position is a row
  pub row_below : (p : ℕ) → p < n → row_of u p < n
  row_below p lt = whole_below n (map (row_of u) u.order) upper.paired (row_of u p) (map_in (row_of u) p u.order (in_order p lt))

  -- and each row is that of a position
  pub position_of_row : (r : ℕ) → r < n → (p : ℕ) × In p u.order × (r ≡ row_of u p)
  position_of_row r lt = in_map (row_of u) r u.order (in_whole n (map (row_of u) u.order) upper.paired r lt)

-- positions that come before one another are different
pub distinct_of : (R : ℕ → ℕ → Type 0) → ((p q : ℕ) → R p q → p ≢ q) → (xs : List ℕ) → Pairwise R xs → IsDistinct eqb xs
unfolding IsDistinct
distinct_of R apart [] p = tt
distinct_of R apart (x ∷ xs) p = IsDistinct-cons eqb x xs (all xs (λ y held. apart x y (p.0 y held))) (distinct_of R apart xs p.1)
  where
    all : (ys : List ℕ) → ((y : ℕ) → In y ys → x ≢ y) → AllByRecursion (λ y. eqb x y ≡ false) ys
    all [] h = tt
    all (y ∷ ys) h = (ne_eqb x y (h y (inl refl)), all ys (λ z held. h z (inr held)))

pub order_distinct : (n : ℕ) (u : Triangle) → IsUpper n u → IsDistinct eqb u.order
order_distinct n u upper = distinct_of (ComesBefore u) (λ p q before. before.apart) u.order upper.triangular

pub back_distinct : (n : ℕ) (u : Triangle) → IsUpper n u → IsDistinct eqb (reverse u.order)
back_distinct n u upper =
    distinct_of (λ p q. ComesBefore u q p) (λ p q before e. before.apart (sym e)) (reverse u.order) (Pairwise-reverse (ComesBefore u) u.order upper.triangular)

-- A list of entries, and the lists that it stands for.
use Rattle.std.proofs.Common.{◌≡◌, ℕ, zero, suc, ◌+◌, List, [], ◌∷◌, ◌++◌, map, sum_by, get_or, set, slice_get, Option, Some, None, is_some, false, refl, sym, ap, ◌∙◌}
use Rattle.std.specs.Map.{values_of}
use Rattle.std.proofs.lemmas.List.Sums.{sum_by-cons}
use Rattle.indexmap.specs.IndexMap.{set_value_at}

pub none_from_is_some : {X : Type 0} (o : Option X) → is_some o ≡ false → o ≡ None
none_from_is_some None h = refl
none_from_is_some (Some x) h = absurd (cc)

module _ {X Y : Type 0} (f : X → Y) where
  pub map-push : (xs : List X) (x : X) → map f (xs ++ x ∷ []) ≡ map f xs ++ f x ∷ []
  map-push [] x = refl
  map-push (y ∷ xs) x = ap (λ ys. f y ∷ ys) (map-push xs x)

  pub sum_by-map : (g : Y → ℕ) (xs : List X) → sum_by g (map f xs) ≡ sum_by (λ x. g (f x)) xs
  sum_by-map g [] = refl
  sum_by-map g (x ∷ xs) = sum_by-cons g (f x) (map f xs) ∙ ap (λ n. g (f x) + n) (sum_by-map g xs) ∙ sym (sum_by-cons (λ y. g (f y)) x xs)

module _ {K X : Type 0} where
  -- the entry at j gets the value w, which stands for g of what stood there
  pub map-set_value_at : {Y : Type 0} (f : K × X → Y) (g : Y → Y) (es : List (K × X)) (j : ℕ) (v w : X) (d : Y) → slice_get (values_of es) j ≡ Some v → ((k : K) → f (k, w) ≡ g (f (k, v))) → map f (set_value_at es j w) ≡ set (map f es) j (g (get_or (map f es) j d))
  map-set_value_at f g [] j v w d at same = cc
  map-set_value_at f g (e ∷ es) zero v w d at same =
      let here : e.1 ≡ v = cc at in
      ap (λ y. y ∷ map f es) (same e.0 ∙ ap (λ x. g (f (e.0, x))) (sym here))
  map-set_value_at f g (e ∷ es) (suc j) v w d at same = ap (λ ys. f e ∷ ys) (map-set_value_at f g es j v w d at same)

  pub values_of-set_value_at : (es : List (K × X)) (j : ℕ) (w : X) → values_of (set_value_at es j w) ≡ set (values_of es) j w
  values_of-set_value_at [] j w = refl
  values_of-set_value_at (e ∷ es) zero w = refl
  values_of-set_value_at (e ∷ es) (suc j) w = ap (λ ys. e.1 ∷ ys) (values_of-set_value_at es j w)

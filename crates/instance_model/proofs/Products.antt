-- The start sums take at most one product for each stored entry.
use Rattle.std.proofs.Common.{◌≡◌, ℕ, zero, suc, ◌+◌, ◌<◌, ◌≤◌, List, [], ◌∷◌, Bool, true, false, cond, eqb, drop, get_or, length, map, refl, sym, ◌∙◌, ap, arith}
use Rattle.std.specs.List.{filter, range_with_len, sum, sum_by}
use Rattle.std.proofs.lemmas.List.{take_all}
use Rattle.std.proofs.lemmas.List.Sums.{sum-map, sum_by-cons, sum_by-drop_more}
use Rattle.std.proofs.lemmas.List.FromFn.{get_or-range_with_len, length-range_with_len}
use Rattle.std.proofs.lemmas.Bool.{eqb-true}
use Rattle.rational.specs.Rational.{ℚ, one_unless_zero}
use Rattle.rational.specs.Sparse.{entry_at, upto}
use Rattle.rational.proofs.OrderLaws.{one_unless_zero-le, one_unless_zero-zero}
use Rattle.lp_run.specs.Instance.{Instance, Structural, no_structural, structural, structural_count}
use Rattle.instance_model.specs.Inner.Starts.{off_zero, row_products, starts_off}
use Rattle.instance_model.proofs.Lists.{map_at}

-- ── sums ──

module _ {X : Type 0} where
  -- a sum whose terms are at most the sums of two
  sum_by-two : (f g h : X → ℕ) (xs : List X) → ((x : X) → f x ≤ g x + h x) → sum_by f xs ≤ sum_by g xs + sum_by h xs
  sum_by-two f g h [] each = omega arith
  sum_by-two f g h (x ∷ xs) each = omega (arith, each x, sum_by-two f g h xs each, sum_by-cons f x xs, sum_by-cons g x xs, sum_by-cons h x xs)

  sum_by-nothing : (f : X → ℕ) (xs : List X) → ((x : X) → f x ≡ 0) → sum_by f xs ≡ 0
  sum_by-nothing f [] each = refl
  sum_by-nothing f (x ∷ xs) each = omega (arith, each x, sum_by-nothing f xs each, sum_by-cons f x xs)

  sum_by-filter : (f : X → ℕ) (p : X → Bool) (xs : List X) → sum_by f (filter p xs) ≤ sum_by f xs
  sum_by-filter f p [] = omega arith
  sum_by-filter f p (x ∷ xs) = by (sum_by-filter f p xs) (p x)
    where
      by : sum_by f (filter p xs) ≤ sum_by f xs → (b : Bool) → sum_by f (cond b (x ∷ filter p xs) (filter p xs)) ≤ sum_by f (x ∷ xs)
      by rest true = omega (arith, rest, sum_by-cons f x xs, sum_by-cons f x (filter p xs))
      by rest false = omega (arith, rest, sum_by-cons f x xs)

-- ── the rows of a pair ──

one : Bool → ℕ
one b = cond b 1 0

abbrev here : ℕ → ℕ → ℕ
here k i = one (eqb k i)

none_past : (k a n : ℕ) → k < a → sum_by (here k) (range_with_len a n) ≡ 0
unfolding one
none_past k a zero past = refl
none_past k a (suc n) past =
    let none : here k a ≡ 0 = by (eqb k a) refl in
    let rest : sum_by (here k) (range_with_len (a + 1) n) ≡ 0 = none_past k (a + 1) n (omega (arith, past)) in
    let more : sum_by (here k) (range_with_len a (suc n)) ≡ here k a + sum_by (here k) (range_with_len (a + 1) n) = sum_by-cons (here k) a (range_with_len (a + 1) n) in
    omega (arith, none, rest, more)
  where
    by : (b : Bool) → eqb k a ≡ b → one b ≡ 0
    by true e = let same : k ≡ a = eqb-true k a e in absurd (omega (arith, same, past))
    by false e = refl

at_most_one : (k a n : ℕ) → sum_by (here k) (range_with_len a n) ≤ 1
unfolding one
at_most_one k a zero = omega arith
at_most_one k a (suc n) = by (at_most_one k (a + 1) n) (eqb k a) refl
  where
    more : sum_by (here k) (range_with_len a (suc n)) ≡ here k a + sum_by (here k) (range_with_len (a + 1) n)
    more = sum_by-cons (here k) a (range_with_len (a + 1) n)

    yes : one true ≡ 1
    yes = refl

    no : one false ≡ 0
    no = refl

    by : sum_by (here k) (range_with_len (a + 1) n) ≤ 1 → (b : Bool) → eqb k a ≡ b → sum_by (here k) (range_with_len a (suc n)) ≤ 1
    by rest true e =
        let same : k ≡ a = eqb-true k a e in
        let now : here k a ≡ 1 = ap one e ∙ yes in
        let none : sum_by (here k) (range_with_len (a + 1) n) ≡ 0 = none_past k (a + 1) n (omega (arith, same)) in
        omega (arith, now, none, more)
    by rest false e =
        let now : here k a ≡ 0 = ap one e ∙ no in
        omega (arith, now, rest, more)

-- ── the products of a structural ──

abbrev in_row : List (ℕ × ℚ) → ℕ → ℕ
in_row pairs i = one_unless_zero (entry_at pairs i)

no_entry : (i : ℕ) → in_row [] i ≡ 0
no_entry i = one_unless_zero-zero

of_pair : (k : ℕ) (v : ℚ) (pairs : List (ℕ × ℚ)) (i : ℕ) → in_row ((k, v) ∷ pairs) i ≤ here k i + in_row pairs i
unfolding one
of_pair k v pairs i = by (eqb k i)
  where
    by : (b : Bool) → one_unless_zero (cond b v (entry_at pairs i)) ≤ one b + in_row pairs i
    by true = omega (arith, one_unless_zero-le v)
    by false = omega arith

-- in so many rows a structural takes at most one product for each of its entries
stored : (pairs : List (ℕ × ℚ)) (a n : ℕ) → sum_by (in_row pairs) (range_with_len a n) ≤ length pairs
stored [] a n = let none : sum_by (in_row []) (range_with_len a n) ≡ 0 = sum_by-nothing (in_row []) (range_with_len a n) no_entry in omega (arith, none)
stored ((k, v) ∷ pairs) a n =
    let rows = range_with_len a n in
    let split = sum_by-two (in_row ((k, v) ∷ pairs)) (here k) (in_row pairs) rows (of_pair k v pairs) in
    omega (arith, split, at_most_one k a n, stored pairs a n)

module _ (inst : Instance) where
  abbrev size : ℕ → ℕ
  size j = length (structural inst j).entries

  abbrev taken_by : List ℕ → ℕ → ℕ
  taken_by js i = sum_by (λ j. in_row (structural inst j).entries i) js

  -- after a product the work done and the products left are as much
  pub step_costs : (i : ℕ) (js : List ℕ) (k j : ℕ) (a : ℚ) → k < length js → j ≡ get_or js k 0 → a ≡ entry_at (structural inst j).entries i
      → (before after all : ℕ) → after ≤ before + one_unless_zero a → before + taken_by (drop k js) i ≤ all → after + taken_by (drop (k + 1) js) i ≤ all
  step_costs i js k j a within is entry before after all spent within_all =
      let f : ℕ → ℕ = λ j. in_row (structural inst j).entries i in
      let now : one_unless_zero a ≡ f (get_or js k 0) = ap one_unless_zero entry ∙ ap f is in
      let more : taken_by (drop k js) i ≡ f (get_or js k 0) + taken_by (drop (k + 1) js) i = sum_by-drop_more f js k 0 within in
      omega (arith, spent, within_all, now, more)

  -- the same after a row
  pub row_costs : (m row : ℕ) → row < m → (before after all : ℕ) → after ≤ before + row_products inst row → before + sum_by (row_products inst) (drop row (upto m)) ≤ all
      → after + sum_by (row_products inst) (drop (row + 1) (upto m)) ≤ all
  row_costs m row within before after all spent within_all =
      let none : 0 + row ≡ row = omega arith in
      let at : get_or (upto m) row 0 ≡ row = get_or-range_with_len 0 m row 0 within ∙ none in
      let here : row_products inst (get_or (upto m) row 0) ≡ row_products inst row = ap (row_products inst) at in
      let long : length (upto m) ≡ m = length-range_with_len 0 m in
      let more : sum_by (row_products inst) (drop row (upto m)) ≡ row_products inst (get_or (upto m) row 0) + sum_by (row_products inst) (drop (row + 1) (upto m)) =
      sum_by-drop_more (row_products inst) (upto m) row 0 (omega (arith, long, within)) in
      omega (arith, spent, within_all, here, more)

  by_columns : (js : List ℕ) (a n : ℕ) → sum_by (taken_by js) (range_with_len a n) ≤ sum_by size js
  by_columns [] a n =
      let none : sum_by (taken_by []) (range_with_len a n) ≡ 0 = sum_by-nothing (taken_by []) (range_with_len a n) (λ i. refl) in
      omega (arith, none)
  by_columns (j ∷ js) a n =
      let rows = range_with_len a n in
      let pairs = (structural inst j).entries in
      let split = sum_by-two (taken_by (j ∷ js)) (in_row pairs) (taken_by js) rows
      (λ i. let both : taken_by (j ∷ js) i ≡ in_row pairs i + taken_by js i = sum_by-cons (λ j. in_row (structural inst j).entries i) j js in omega (arith, both)) in
      let more : sum_by size (j ∷ js) ≡ size j + sum_by size js = sum_by-cons size j js in
      omega (arith, split, stored pairs a n, by_columns js a n, more)

  all_columns : sum_by size (upto (structural_count inst)) ≡ sum_by (λ (c : Structural). length c.entries) inst.structurals
  all_columns =
      sym (sum-map size (upto (structural_count inst)))
      ∙ ap sum (map_at (λ (c : Structural). length c.entries) inst.structurals no_structural (structural_count inst) (omega arith)
      ∙ ap (map (λ (c : Structural). length c.entries)) (take_all (structural_count inst) inst.structurals (omega arith)))
      ∙ sum-map (λ (c : Structural). length c.entries) inst.structurals

  pub products_stored : (m : ℕ) → sum_by (row_products inst) (upto m) ≤ sum_by (λ (c : Structural). length c.entries) inst.structurals
  products_stored m =
      let rows = by_columns (off_zero inst) 0 m in
      let fewer : sum_by size (off_zero inst) ≤ sum_by size (upto (structural_count inst)) = sum_by-filter size (starts_off inst) (upto (structural_count inst)) in
      omega (arith, rows, fewer, all_columns)

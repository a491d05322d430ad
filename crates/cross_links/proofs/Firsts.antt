-- The first entry of cost 0 is the least of all.
use Rattle.std.proofs.Common.{◌≡◌, ◌≢◌, ℕ, ◌-◌, ◌*◌, ◌<◌, ◌≤◌, List, [], ◌∷◌, length, true, false, Option, Some, None, slice_get, refl, sym, ap, subst, ◌∙◌, ⊎_elim, ◌⊎◌, inl, inr, arith}
use Rattle.std.specs.List.{Contains}
use Rattle.std.specs.Option.{IsSome}
use Rattle.std.proofs.Math.Nat.{mul-zero, zero-mul}
use Rattle.std.proofs.lemmas.Bool.{cases_eq, cases_lt, eq-eqb, eqb-true, eqb-false, both_ways}
use Rattle.std.proofs.lemmas.Nat.{mul-le}
use Rattle.std.proofs.lemmas.List.{get_or_past}
use Rattle.chain_links.proofs.Rest.{nothing_contains}
use Rattle.flag_tree.specs.Flags.{is_set}
use Rattle.count_chain.specs.Chains.{list_at}
use Rattle.cross_links.specs.declared.cheap.Cheap.{Cheap}
use Rattle.cross_links.specs.Matrix.{Matrix, row, col, row_of, col_of, cost_of, IsLink, IsMatrix, IsNotWorse}
use Rattle.cross_links.specs.Sides.{IsLinkIfSome, Covers}
use Rattle.cross_links.specs.Cheap.{is_one, has_some, IsCheap, IsMarked, IsFirstMarked, IsLeastIn}
use Rattle.cross_links.proofs.Entries.{first_link}
use Rattle.cross_links.proofs.Cheaps.{lone_in-one, lone_in-some, one_item}

has_some-held : (xs : List ℕ) (x : ℕ) → Contains xs x → has_some xs ≡ true
has_some-held [] x held = absurd (nothing_contains x held)
has_some-held (y ∷ ys) x held = refl

one_of_product : (n m : ℕ) → 0 < n → 0 < m → (n - 1) * (m - 1) ≡ 0 → (n ≡ 1) ⊎ (m ≡ 1)
one_of_product n m some_n some_m none =
    ⊎_elim
    (λ (e : n ≡ 1). inl e)
    (λ (more_n : n ≢ 1). ⊎_elim
    (λ (e : m ≡ 1). inr e)
    (λ (more_m : m ≢ 1). absurd (omega (arith, none, mul-le 1 1 (n - 1) (m - 1) (omega arith) (omega arith))))
    (cases_eq m 1))
    (cases_eq n 1)

module _ (a : Matrix) (m : IsMatrix a) (h : Cheap) (ok : IsCheap a h) where
  -- a row that is marked is a row
  pub marked_below : (r : ℕ) → IsMarked h r → r < a.size
  marked_below r marked =
      ⊎_elim
      (λ (lt : r < a.size). lt)
      (λ (le : a.size ≤ r). ⊎_elim
      (λ (single : is_set h.singles r ≡ true). absurd (both_ways _ (ap is_one (get_or_past a.rows r [] (omega (arith, m.rows.lines_len)))) (sym (ok.singles r) ∙ single)))
      (λ (holder : is_set h.holders r ≡ true). absurd (both_ways _ (ap has_some (get_or_past h.lone.lists r [] (omega (arith, ok.lists)))) (sym (ok.flagged.flags r) ∙ holder)))
      marked)
      (cases_lt r a.size)

  -- an entry of cost 0 is alone in its row or in its column, and its row is marked
  module _ (k : ℕ) (some : IsLink a k) (free : cost_of a k ≡ 0) where
    pub alone : (length (row a (row_of a k)) ≡ 1) ⊎ (length (col a (col_of a k)) ≡ 1)
    alone = one_of_product (length (row a (row_of a k))) (length (col a (col_of a k))) (omega (arith, (m.rows.held k some).1)) (omega (arith, (m.cols.held k some).1)) free

    pub in_list : length (col a (col_of a k)) ≡ 1 → Contains (list_at h.lone (row_of a k)) (col_of a k)
    in_list one = ok.held (col_of a k) (row_of a k) (lone_in-one a.entries (col a (col_of a k)) k one (m.cols.held k some))

    marked_row : IsMarked h (row_of a k)
    marked_row =
        ⊎_elim
        (λ (one : length (row a (row_of a k)) ≡ 1). inl (ok.singles (row_of a k) ∙ eq-eqb (length (row a (row_of a k))) 1 one))
        (λ (one : length (col a (col_of a k)) ≡ 1). inr (ok.flagged.flags (row_of a k) ∙ has_some-held (list_at h.lone (row_of a k)) (col_of a k) (in_list one)))
        alone

  -- an entry of cost 0 in the first marked row, before the others of cost 0 there
  pub first_covers : (r l : ℕ) → IsFirstMarked h r → row_of a l ≡ r → cost_of a l ≡ 0
      → ((k : ℕ) → IsLink a k → row_of a k ≡ r → cost_of a k ≡ 0 → col_of a l ≤ col_of a k) → (k : ℕ) → IsLink a k → IsNotWorse a l k
  first_covers r l first in_r free least k some =
      ⊎_elim
      (λ (dear : 0 < cost_of a k). inl (omega (arith, free)))
      (λ (cheap : cost_of a k ≤ 0).
      let free_k : cost_of a k ≡ 0 = omega arith in
      ⊎_elim
      (λ (before : row_of a k < r). absurd (first.first (row_of a k) before (marked_row k some free_k)))
      (λ (from : r ≤ row_of a k). inr (
        free ∙ sym free_k,
        ⊎_elim
            (λ (e : row_of a k ≡ r). inr (in_r ∙ sym e, least k some e free_k))
            (λ (ne : row_of a k ≢ r). inl (omega (arith, in_r)))
            (cases_eq (row_of a k) r),
      ))
      (cases_lt (row_of a k) r))
      (cases_lt 0 (cost_of a k))

  -- the one entry of the first marked row
  pub single_covers : (r l : ℕ) → IsFirstMarked h r → length (row a r) ≡ 1 → Contains (row a r) l → (k : ℕ) → IsLink a k → IsNotWorse a l k
  single_covers r l first one held =
      let in_r = (m.rows.only r l held).1 in
      let none : length (row a (row_of a l)) - 1 ≡ 0 = omega (arith, ap (λ (i : ℕ). length (row a i)) in_r) in
      let free : cost_of a l ≡ 0 = ap (λ (n : ℕ). n * (length (col a (col_of a l)) - 1)) none ∙ zero-mul (length (col a (col_of a l)) - 1) in
      first_covers r l first in_r free (λ k some e _.
      let in_row : Contains (row a r) k = subst (λ (i : ℕ). Contains (row a i) k) e (m.rows.held k some) in
      let same : l ∷ [] ≡ k ∷ [] = sym (one_item (row a r) l one held) ∙ one_item (row a r) k one in_row in
      let here : l ≡ k = cc in
      omega (arith, ap (col_of a) here))

  -- the entry of the least column of one entry of the first marked row
  pub lone_covers : (r c l : ℕ) → IsFirstMarked h r → length (row a r) ≢ 1 → IsLeastIn (list_at h.lone r) c → slice_get (col a c) 0 ≡ Some l → IsLink a l × ((k : ℕ) → IsLink a k → IsNotWorse a l k)
  lone_covers r c l first more least at =
      let lone = lone_in-some a.entries (col a c) r (ok.only c r least.held) in
      let here : lone.0 ≡ l = let read : Some lone.0 ≡ Some l = sym (ap (λ (xs : List ℕ). slice_get xs 0) lone.1) ∙ at in cc in
      let is = m.cols.only c l (first_link (col a c) l at) in
      let in_r : row_of a l ≡ r = ap (row_of a) (sym here) ∙ lone.2 in
      let none : length (col a (col_of a l)) - 1 ≡ 0 = omega (arith, ap (λ (d : ℕ). length (col a d)) is.1, ap length lone.1) in
      let free : cost_of a l ≡ 0 = ap (λ (n : ℕ). (length (row a (row_of a l)) - 1) * n) none ∙ mul-zero (length (row a (row_of a l)) - 1) in (
        is.0,
        first_covers r l first in_r free (λ k some e free_k. ⊎_elim
            (λ (one : length (row a (row_of a k)) ≡ 1). absurd (more (ap (λ (i : ℕ). length (row a i)) (sym e) ∙ one)))
            (λ (one : length (col a (col_of a k)) ≡ 1). omega (arith, is.1, least.least (col_of a k) (subst (λ (i : ℕ). Contains (list_at h.lone i) (col_of a k)) e (in_list k some free_k one))))
            (alone k some free_k)),
      )

  -- the first entry of that row, or of that column
  module _ (r : ℕ) (first : IsFirstMarked h r) where
    pub single_link : (o : Option ℕ) → o ≡ slice_get (row a r) 0 → IsLinkIfSome a o
    single_link None is = tt
    single_link (Some l) is = (m.rows.only r l (first_link (row a r) l (sym is))).0

    pub single_least : (o : Option ℕ) → is_one (row a r) ≡ true → o ≡ slice_get (row a r) 0 → IsSome o → (k : ℕ) → IsLink a k → Covers a o k
    single_least None one is some k link = absurd (cc)
    single_least (Some l) one is some k link = single_covers r l first (eqb-true (length (row a r)) 1 one) (first_link (row a r) l (sym is)) k link

    module _ (c : ℕ) (more : is_one (row a r) ≡ false) (least : IsLeastIn (list_at h.lone r) c) where
      pub lone_link : (o : Option ℕ) → o ≡ slice_get (col a c) 0 → IsLinkIfSome a o
      lone_link None is = tt
      lone_link (Some l) is = (lone_covers r c l first (eqb-false (length (row a r)) 1 more) least (sym is)).0

      pub lone_least : (o : Option ℕ) → o ≡ slice_get (col a c) 0 → IsSome o → (k : ℕ) → IsLink a k → Covers a o k
      lone_least None is some k link = absurd (cc)
      lone_least (Some l) is some k link = (lone_covers r c l first (eqb-false (length (row a r)) 1 more) least (sym is)).1 k link

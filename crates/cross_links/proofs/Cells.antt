-- What an edit does to the values by row and column, and how many entries a line has.
use Rattle.std.proofs.Common.{◌≡◌, ◌≢◌, ℕ, ◌<◌, ◌≤◌, List, [], ◌∷◌, length, map, set, eqb, ◌↔◌, ◌⊎◌, inl, inr, Option, Some, None, unwrap_or, refl, sym, ap, subst, ◌∙◌, ⊎_elim, arith, length-set, get_or-set_same, get_or-set_other}
use Rattle.std.specs.List.{Contains, IsDistinct}
use Rattle.std.specs.Option.{IsSome}
use Rattle.std.proofs.lemmas.Bool.{cases_eq, cases_lt, cond-true, cond-false, eq-eqb, ne_eqb}
use Rattle.std.proofs.lemmas.List.{get_or_past, length-map}
use Rattle.std.proofs.lemmas.Cmp.{nat_eq_equiv}
use Rattle.std.proofs.lemmas.Map.Made.{length-le_from_is_member}
use Rattle.chain_links.proofs.Rings.{has-from_Contains, Contains-from_has}
use Rattle.rational.specs.Rational.{ℚ, zero_ℚ}
use Rattle.sparse_cols.specs.Sparse.{value_at}
use Rattle.chain_links.proofs.Rest.{nothing_contains, cons_cases, head_contains, tail_contains}
use Rattle.cross_links.specs.Matrix.{Entry, Matrix, row, col, entry_at, row_in, col_in, row_of, col_of, pair_in, col_pairs, IsLink, Has, IsMatrix, IsFilled, with_value, without_entry, without_entries, without_row, without_col}
use Rattle.cross_links.specs.Cells.{cell, HasNoZero}
use Rattle.cross_links.proofs.Entries.{none_some, some_from, some_entry, link_within, distinct_mapped}

-- among pairs made of links
pub value_at-held : (f : ℕ → ℕ × ℚ) (ls : List ℕ) (l : ℕ) → Contains ls l → ((k : ℕ) → Contains ls k → (f k).0 ≡ (f l).0 → k ≡ l) → value_at (map f ls) (f l).0 ≡ Some (f l).1
value_at-held f [] l held one = absurd (nothing_contains l held)
value_at-held f (k ∷ ks) l held one =
    ⊎_elim
    (λ (e : (f k).0 ≡ (f l).0). cond-true (eqb (f k).0 (f l).0) _ _ (eq-eqb (f k).0 (f l).0 e) ∙ ap (λ (x : ℕ). Some (f x).1) (one k (head_contains k ks) e))
    (λ (ne : (f k).0 ≢ (f l).0).
    let later : Contains ks l = ⊎_elim (λ (e : l ≡ k). absurd (ne (ap (λ (x : ℕ). (f x).0) (sym e)))) (λ (h : Contains ks l). h) (cons_cases k ks l held) in
    cond-false (eqb (f k).0 (f l).0) _ _ (ne_eqb (f k).0 (f l).0 ne) ∙ value_at-held f ks l later (λ x in_ks e. one x (tail_contains k ks x in_ks) e))
    (cases_eq (f k).0 (f l).0)

pub value_at-lacks : (f : ℕ → ℕ × ℚ) (ls : List ℕ) (i : ℕ) → ((k : ℕ) → Contains ls k → (f k).0 ≢ i) → value_at (map f ls) i ≡ None
value_at-lacks f [] i lacks = refl
value_at-lacks f (k ∷ ks) i lacks =
    cond-false (eqb (f k).0 i) _ _ (ne_eqb (f k).0 i (lacks k (head_contains k ks))) ∙ value_at-lacks f ks i (λ x in_ks. lacks x (tail_contains k ks x in_ks))

-- what stands in a row, or that nothing does
find_in : (a : Matrix) (i : ℕ) (ls : List ℕ) → ((l : ℕ) × Contains ls l × (row_of a l ≡ i)) ⊎ ((l : ℕ) → Contains ls l → row_of a l ≢ i)
find_in a i [] = inr (λ l held e. nothing_contains l held)
find_in a i (k ∷ ks) =
    ⊎_elim
    (λ (e : row_of a k ≡ i). inl (k, head_contains k ks, e))
    (λ (ne : row_of a k ≢ i). ⊎_elim
    (λ (there : (l : ℕ) × Contains ks l × (row_of a l ≡ i)). inl (there.0, tail_contains k ks there.0 there.1, there.2))
    (λ (no : (l : ℕ) → Contains ks l → row_of a l ≢ i). inr (λ l held. ⊎_elim (λ (e : l ≡ k). subst (λ (x : ℕ). row_of a x ≢ i) (sym e) ne)
    (λ (later : Contains ks l). no l later) (cons_cases k ks l held)))
    (find_in a i ks))
    (cases_eq (row_of a k) i)

module _ (a : Matrix) (h : IsMatrix a) where
  pub has_cases : (i p : ℕ) → Has a i p ⊎ (Has a i p → ⊥)
  has_cases i p =
      ⊎_elim
      (λ (there : (l : ℕ) × Contains (col a p) l × (row_of a l ≡ i)). let is = h.cols.only p there.0 there.1 in inl (there.0, is.0, there.2, is.1))
      (λ (no : (l : ℕ) → Contains (col a p) l → row_of a l ≢ i). inr (λ has. no has.0 (subst (λ (d : ℕ). Contains (col a d) has.0) has.3 (h.cols.held has.0 has.1)) has.2))
      (find_in a i (col a p))

  -- the value of an entry, and 0 where there is none
  pub cell-is : (l : ℕ) (e : Entry) → entry_at a l ≡ Some e → cell a e.0 e.1 ≡ e.2
  cell-is l e is =
      let held : Contains (col a e.1) l = subst (λ (d : ℕ). Contains (col a d) l) (ap col_in is) (h.cols.held l (some_from _ e is)) in
      let f : ℕ → ℕ × ℚ = λ k. pair_in (entry_at a k) in
      let row_is : (k : ℕ) → Contains (col a e.1) k → (f k).0 ≡ row_of a k = λ k in_col. let some = some_entry (entry_at a k) (h.cols.only e.1 k in_col).0 in
      ap (λ (o : Option Entry). (pair_in o).0) some.1 ∙ sym (ap row_in some.1) in
      let one : (k : ℕ) → Contains (col a e.1) k → (f k).0 ≡ (f l).0 → k ≡ l = λ k in_col same.
      h.apart k l (h.cols.only e.1 k in_col).0 (some_from _ e is) (sym (row_is k in_col) ∙ same ∙ row_is l held)
      ((h.cols.only e.1 k in_col).1 ∙ sym (ap col_in is)) in
      let found = value_at-held f (col a e.1) l held one in
      ap (λ (o : Option ℚ). unwrap_or o zero_ℚ) (ap (value_at (col_pairs a e.1)) (sym (ap (λ (o : Option Entry). (pair_in o).0) is)) ∙ found) ∙ ap (λ (o : Option Entry). (pair_in o).1) is

  pub cell-none : (i p : ℕ) → (Has a i p → ⊥) → cell a i p ≡ zero_ℚ
  cell-none i p absent =
      let no : (k : ℕ) → Contains (col a p) k → (pair_in (entry_at a k)).0 ≢ i = λ k in_col e.
      let is = h.cols.only p k in_col in
      let some = some_entry (entry_at a k) is.0 in
      absent (k, is.0, ap row_in some.1 ∙ sym (ap (λ (o : Option Entry). (pair_in o).0) some.1) ∙ e, is.1) in
      ap (λ (o : Option ℚ). unwrap_or o zero_ℚ) (value_at-lacks (λ k. pair_in (entry_at a k)) (col a p) i no)

  -- where no entry is 0, there is one just where the value is not
  pub has_from_cell : (i p : ℕ) → cell a i p ≢ zero_ℚ → Has a i p
  has_from_cell i p some = ⊎_elim (λ (has : Has a i p). has) (λ (absent : Has a i p → ⊥). absurd (some (cell-none i p absent))) (has_cases i p)

  pub cell_from_has : HasNoZero a → (i p : ℕ) → Has a i p → cell a i p ≢ zero_ℚ
  cell_from_has no_zero i p has e =
      let some = some_entry (entry_at a has.0) has.1 in
      let in_row : some.0.0 ≡ i = sym (ap row_in some.1) ∙ has.2 in
      let in_col : some.0.1 ≡ p = sym (ap col_in some.1) ∙ has.3 in
      no_zero has.0 some.0 some.1 (sym (cell-is has.0 some.0 some.1) ∙ ap (λ (r : ℕ). cell a r some.0.1) in_row ∙ ap (cell a i) in_col ∙ e)

-- the entries at a place are the same
pub cell-same : (a b : Matrix) → IsMatrix a → IsMatrix b → (i p : ℕ) → ((l : ℕ) (e : Entry) → e.0 ≡ i → e.1 ≡ p → (entry_at a l ≡ Some e) ↔ (entry_at b l ≡ Some e)) → cell b i p ≡ cell a i p
cell-same a b h k i p same =
    ⊎_elim
    (λ (has : Has a i p).
    let some = some_entry (entry_at a has.0) has.1 in
    let in_row : some.0.0 ≡ i = sym (ap row_in some.1) ∙ has.2 in
    let in_col : some.0.1 ≡ p = sym (ap col_in some.1) ∙ has.3 in
    let value : (x : Matrix) → IsMatrix x → entry_at x has.0 ≡ Some some.0 → cell x i p ≡ some.0.2 = λ x m is. sym (ap (λ (r : ℕ). cell x r p) in_row)
    ∙ sym (ap (cell x some.0.0) in_col) ∙ cell-is x m has.0 some.0 is in
    value b k ((same has.0 some.0 in_row in_col).0 some.1) ∙ sym (value a h some.1))
    (λ (absent : Has a i p → ⊥).
    let none : Has b i p → ⊥ = λ has.
    let some = some_entry (entry_at b has.0) has.1 in
    let in_row : some.0.0 ≡ i = sym (ap row_in some.1) ∙ has.2 in
    let in_col : some.0.1 ≡ p = sym (ap col_in some.1) ∙ has.3 in
    let was = (same has.0 some.0 in_row in_col).1 some.1 in
    absent (has.0, some_from _ some.0 was, ap row_in was ∙ in_row, ap col_in was ∙ in_col) in
    cell-none b k i p none ∙ sym (cell-none a h i p absent))
    (has_cases a h i p)

-- the entries that go with some links
pub left_entry : (ls : List ℕ) (a : Matrix) (k : ℕ) → (Contains ls k → ⊥) → entry_at (without_entries ls a) k ≡ entry_at a k
left_entry [] a k other = refl
left_entry (l ∷ ls) a k other =
    left_entry ls (without_entry a l) k (λ held. other (tail_contains l ls k held))
    ∙ get_or-set_other a.entries l k None None (λ e. other (subst (λ (x : ℕ). Contains (l ∷ ls) x) (sym e) (head_contains l ls)))

no_entry : (a : Matrix) (l : ℕ) → entry_at (without_entry a l) l ≡ None
no_entry a l =
    ⊎_elim
    (λ (lt : l < length a.entries). get_or-set_same a.entries l None None lt)
    (λ (le : length a.entries ≤ l). get_or_past (set a.entries l None) l None (omega (arith, length-set a.entries l None)))
    (cases_lt l (length a.entries))

stays_none : (ls : List ℕ) (a : Matrix) (k : ℕ) → entry_at a k ≡ None → entry_at (without_entries ls a) k ≡ None
stays_none [] a k none = none
stays_none (l ∷ ls) a k none =
    stays_none ls (without_entry a l) k (⊎_elim
    (λ (e : k ≡ l). ap (entry_at (without_entry a l)) e ∙ no_entry a l)
    (λ (ne : k ≢ l). get_or-set_other a.entries l k None None ne ∙ none)
    (cases_eq k l))

pub gone_entry : (ls : List ℕ) (a : Matrix) (k : ℕ) → Contains ls k → entry_at (without_entries ls a) k ≡ None
gone_entry [] a k held = absurd (nothing_contains k held)
gone_entry (l ∷ ls) a k held =
    ⊎_elim
    (λ (e : k ≡ l). stays_none ls (without_entry a l) k (ap (entry_at (without_entry a l)) e ∙ no_entry a l))
    (λ (later : Contains ls k). gone_entry ls (without_entry a l) k later)
    (cons_cases l ls k held)

-- a link that is left had its entry before
link_before : (ls : List ℕ) (a : Matrix) (k : ℕ) → IsLink (without_entries ls a) k → IsLink a k × (entry_at (without_entries ls a) k ≡ entry_at a k)
link_before [] a k some = (some, refl)
link_before (l ∷ ls) a k some =
    let later = link_before ls (without_entry a l) k some in
    let ne : k ≢ l = λ e. none_some _ (ap (entry_at (without_entry a l)) e ∙ no_entry a l) later.0 in
    let same = get_or-set_other a.entries l k None None ne in
    (subst IsSome same later.0, later.1 ∙ same)

-- what an edit does to the value in row i and column p
module _ (a b : Matrix) (h : IsMatrix a) (k : IsMatrix b) where
  -- where the entries agree but at one link, which stands elsewhere
  cell_apart : (l i p : ℕ) → ((x : ℕ) → x ≢ l → entry_at b x ≡ entry_at a x) → ((e : Entry) → (entry_at a l ≡ Some e) ⊎ (entry_at b l ≡ Some e) → e.0 ≡ i → e.1 ≡ p → ⊥) → cell b i p ≡ cell a i p
  cell_apart l i p others elsewhere =
      cell-same a b h k i p (λ x e in_row in_col. ⊎_elim
      (λ (here : x ≡ l). (
        λ (is : entry_at a x ≡ Some e). absurd (elsewhere e (inl (ap (entry_at a) (sym here) ∙ is)) in_row in_col),
        λ (is : entry_at b x ≡ Some e). absurd (elsewhere e (inr (ap (entry_at b) (sym here) ∙ is)) in_row in_col),
      ))
      (λ (ne : x ≢ l). (
        λ (is : entry_at a x ≡ Some e). others x ne ∙ is,
        λ (is : entry_at b x ≡ Some e). sym (others x ne) ∙ is,
      ))
      (cases_eq x l))

  -- an entry more
  module _ (l : ℕ) (e : Entry) (f : IsFilled a l e b) where
    pub cell-filled : cell b e.0 e.1 ≡ e.2
    cell-filled = cell-is b k l e f.entry

    pub cell-filled_other : (i p : ℕ) → ((i ≡ e.0) × (p ≡ e.1) → ⊥) → cell b i p ≡ cell a i p
    cell-filled_other i p other =
        cell_apart l i p f.others (λ d is in_row in_col. ⊎_elim
        (λ (was : entry_at a l ≡ Some d). none_some _ f.free (some_from _ d was))
        (λ (now : entry_at b l ≡ Some d). let same : d ≡ e = cc in other (sym in_row ∙ ap (λ (x : Entry). x.0) same, sym in_col ∙ ap (λ (x : Entry). x.1) same))
        is)

  -- another value
  module _ (l : ℕ) (e : Entry) (v : ℚ) (here : entry_at a l ≡ Some e) (is : b ≡ with_value a l v) where
    now_at : entry_at b l ≡ Some (e.0, e.1, v)
    now_at =
        ap (λ (x : Matrix). entry_at x l) is ∙ get_or-set_same a.entries l (Some (row_of a l, col_of a l, v)) None
        (link_within a.entries l (some_from _ e here)) ∙ ap (λ (r : ℕ). Some (r, col_of a l, v)) (ap row_in here)
        ∙ ap (λ (c : ℕ). Some (e.0, c, v)) (ap col_in here)

    pub cell-set : cell b e.0 e.1 ≡ v
    cell-set = cell-is b k l (e.0, e.1, v) now_at

    pub cell-set_other : (i p : ℕ) → ((i ≡ e.0) × (p ≡ e.1) → ⊥) → cell b i p ≡ cell a i p
    cell-set_other i p other =
        cell_apart l i p (λ x ne. ap (λ (m : Matrix). entry_at m x) is ∙ get_or-set_other a.entries l x (Some (row_of a l, col_of a l, v)) None ne) (λ d at in_row in_col. ⊎_elim
        (λ (was : entry_at a l ≡ Some d). let same : d ≡ e = cc in other (sym in_row ∙ ap (λ (x : Entry). x.0) same, sym in_col ∙ ap (λ (x : Entry). x.1) same))
        (λ (now : entry_at b l ≡ Some d). let same : d ≡ (e.0, e.1, v) = (let set_to : entry_at b l ≡ Some (e.0, e.1, v) = now_at in cc) in
        other (sym in_row ∙ ap (λ (x : Entry). x.0) same, sym in_col ∙ ap (λ (x : Entry). x.1) same))
        at)

  -- an entry less
  module _ (l : ℕ) (e : Entry) (here : entry_at a l ≡ Some e) (is : b ≡ without_entry a l) where
    now_none : entry_at b l ≡ None
    now_none = ap (λ (x : Matrix). entry_at x l) is ∙ no_entry a l

    pub cell-cancelled : cell b e.0 e.1 ≡ zero_ℚ
    cell-cancelled =
        cell-none b k e.0 e.1 (λ has.
        let some = some_entry (entry_at b has.0) has.1 in
        let ne : has.0 ≢ l = λ eq. none_some _ (ap (entry_at b) eq ∙ now_none) has.1 in
        let was : entry_at a has.0 ≡ entry_at b has.0 = sym (ap (λ (x : Matrix). entry_at x has.0) is ∙ get_or-set_other a.entries l has.0 None None ne) in
        ne (h.apart has.0 l (subst IsSome (sym was) has.1) (some_from _ e here) (ap row_in was ∙ has.2 ∙ sym (ap row_in here)) (ap col_in was ∙ has.3 ∙ sym (ap col_in here))))

    pub cell-cancelled_other : (i p : ℕ) → ((i ≡ e.0) × (p ≡ e.1) → ⊥) → cell b i p ≡ cell a i p
    cell-cancelled_other i p other =
        cell_apart l i p (λ x ne. ap (λ (m : Matrix). entry_at m x) is ∙ get_or-set_other a.entries l x None None ne) (λ d at in_row in_col. ⊎_elim
        (λ (was : entry_at a l ≡ Some d). let same : d ≡ e = cc in other (sym in_row ∙ ap (λ (x : Entry). x.0) same, sym in_col ∙ ap (λ (x : Entry). x.1) same))
        (λ (now : entry_at b l ≡ Some d). none_some _ now_none (some_from _ d now))
        at)

  -- a line less: the entries of some links go, which are those of the line
  cell_gone : (ls : List ℕ) (i p : ℕ) → ((x : ℕ) → entry_at b x ≡ entry_at (without_entries ls a) x) → ((x : ℕ) → IsLink a x → row_of a x ≡ i → col_of a x ≡ p → Contains ls x) → cell b i p ≡ zero_ℚ
  cell_gone ls i p same all =
      cell-none b k i p (λ has.
      let was : IsLink (without_entries ls a) has.0 = subst IsSome (same has.0) has.1 in
      let before = link_before ls a has.0 was in
      let stays = same has.0 ∙ before.1 in
      none_some _ (gone_entry ls a has.0 (all has.0 before.0 (sym (ap row_in stays) ∙ has.2) (sym (ap col_in stays) ∙ has.3))) was)

  cell_left : (ls : List ℕ) (i p : ℕ) → ((x : ℕ) → entry_at b x ≡ entry_at (without_entries ls a) x) → ((x : ℕ) → Contains ls x → row_of a x ≡ i → col_of a x ≡ p → ⊥) → cell b i p ≡ cell a i p
  cell_left ls i p same none =
      cell-same a b h k i p (λ x e in_row in_col. (
        λ (is : entry_at a x ≡ Some e). same x ∙ left_entry ls a x (λ held. none x held (ap row_in is ∙ in_row) (ap col_in is ∙ in_col)) ∙ is,
        λ (is : entry_at b x ≡ Some e). sym (link_before ls a x (subst IsSome (same x) (some_from _ e is))).1 ∙ sym (same x) ∙ is,
      ))

  module _ (r : ℕ) (is : b ≡ without_row a r) where
    pub cell-row_removed : (p : ℕ) → cell b r p ≡ zero_ℚ
    cell-row_removed p = cell_gone (row a r) r p (λ x. ap (λ (m : Matrix). entry_at m x) is) (λ x some in_r _. subst (λ (i : ℕ). Contains (row a i) x) in_r (h.rows.held x some))

    pub cell-row_removed_other : (i p : ℕ) → i ≢ r → cell b i p ≡ cell a i p
    cell-row_removed_other i p ne = cell_left (row a r) i p (λ x. ap (λ (m : Matrix). entry_at m x) is) (λ x held in_i _. ne (sym in_i ∙ (h.rows.only r x held).1))

  module _ (c : ℕ) (is : b ≡ without_col a c) where
    pub cell-col_removed : (i : ℕ) → cell b i c ≡ zero_ℚ
    cell-col_removed i = cell_gone (col a c) i c (λ x. ap (λ (m : Matrix). entry_at m x) is) (λ x some _ in_c. subst (λ (p : ℕ). Contains (col a p) x) in_c (h.cols.held x some))

    pub cell-col_removed_other : (i p : ℕ) → p ≢ c → cell b i p ≡ cell a i p
    cell-col_removed_other i p ne = cell_left (col a c) i p (λ x. ap (λ (m : Matrix). entry_at m x) is) (λ x held _ in_p. ne (sym in_p ∙ (h.cols.only c x held).1))

-- the numbers of the links of a list
mapped_from : (key : ℕ → ℕ) (ls : List ℕ) (q : ℕ) → Contains (map key ls) q → (l : ℕ) × Contains ls l × (key l ≡ q)
mapped_from key [] q held = absurd (nothing_contains q held)
mapped_from key (k ∷ ks) q held =
    ⊎_elim
    (λ (e : q ≡ key k). (k, head_contains k ks, sym e))
    (λ (later : Contains (map key ks) q). let rest = mapped_from key ks q later in (rest.0, tail_contains k ks rest.0 rest.1, rest.2))
    (cons_cases (key k) (map key ks) q held)

mapped_held : (key : ℕ → ℕ) (ls : List ℕ) (l : ℕ) → Contains ls l → Contains (map key ls) (key l)
mapped_held key [] l held = absurd (nothing_contains l held)
mapped_held key (k ∷ ks) l held =
    ⊎_elim
    (λ (e : l ≡ k). subst (λ (x : ℕ). Contains (key k ∷ map key ks) (key x)) (sym e) (head_contains (key k) (map key ks)))
    (λ (later : Contains ks l). tail_contains (key k) (map key ks) (key l) (mapped_held key ks l later))
    (cons_cases k ks l held)

count_same : (key : ℕ → ℕ) (ls qs : List ℕ) → IsDistinct eqb ls → ((l k : ℕ) → Contains ls l → Contains ls k → key l ≡ key k → l ≡ k) → IsDistinct eqb qs
    → ((l : ℕ) → Contains ls l → Contains qs (key l)) → ((q : ℕ) → Contains qs q → (l : ℕ) × Contains ls l × (key l ≡ q)) → length ls ≡ length qs
count_same key ls qs once one distinct forth back =
    let to = length-le_from_is_member nat_eq_equiv (map key ls) qs (distinct_mapped key ls once one)
    (λ q has_q. let from = mapped_from key ls q (Contains-from_has q (map key ls) has_q) in
    has-from_Contains q qs (subst (λ (x : ℕ). Contains qs x) from.2 (forth from.0 from.1))) in
    let fro = length-le_from_is_member nat_eq_equiv qs (map key ls) distinct (λ q has_q. let from = back q (Contains-from_has q qs has_q) in
    has-from_Contains q (map key ls) (subst (λ (x : ℕ). Contains (map key ls) x) from.2 (mapped_held key ls from.0 from.1))) in
    omega (arith, to, fro, length-map ls key)

-- the count of a row is the number of the columns in which it has an entry, and the same of a column
module _ (a : Matrix) (h : IsMatrix a) where
  pub count_row : (r : ℕ) (ps : List ℕ) → IsDistinct eqb ps → ((p : ℕ) → Contains ps p ↔ Has a r p) → length (row a r) ≡ length ps
  count_row r ps distinct all =
      count_same (λ l. col_of a l) (row a r) ps (h.rows.once r)
      (λ l k in_l in_k e. h.apart l k (h.rows.only r l in_l).0 (h.rows.only r k in_k).0 ((h.rows.only r l in_l).1 ∙ sym (h.rows.only r k in_k).1) e)
      distinct
      (λ l held. (all (col_of a l)).1 (l, (h.rows.only r l held).0, (h.rows.only r l held).1, refl))
      (λ p held. let has = (all p).0 held in (has.0, subst (λ (i : ℕ). Contains (row a i) has.0) has.2 (h.rows.held has.0 has.1), has.3))

  pub count_col : (c : ℕ) (is : List ℕ) → IsDistinct eqb is → ((i : ℕ) → Contains is i ↔ Has a i c) → length (col a c) ≡ length is
  count_col c is distinct all =
      count_same (λ l. row_of a l) (col a c) is (h.cols.once c)
      (λ l k in_l in_k e. h.apart l k (h.cols.only c l in_l).0 (h.cols.only c k in_k).0 e ((h.cols.only c l in_l).1 ∙ sym (h.cols.only c k in_k).1))
      distinct
      (λ l held. (all (row_of a l)).1 (l, (h.cols.only c l held).0, refl, (h.cols.only c l held).1))
      (λ i held. let has = (all i).0 held in (has.0, subst (λ (p : ℕ). Contains (col a p) has.0) has.3 (h.cols.held has.0 has.1), has.2))

-- no edit puts a 0 in but by its own value
pub HasNoZero-filled : (a b : Matrix) (l : ℕ) (e : Entry) → HasNoZero a → IsFilled a l e b → e.2 ≢ zero_ℚ → HasNoZero b
HasNoZero-filled a b l e no_zero f some k d is =
    ⊎_elim
    (λ (here : k ≡ l). let same : d ≡ e = (let now : entry_at b l ≡ Some d = ap (entry_at b) (sym here) ∙ is in let was = f.entry in cc) in
    λ (z : d.2 ≡ zero_ℚ). some (sym (ap (λ (x : Entry). x.2) same) ∙ z))
    (λ (ne : k ≢ l). no_zero k d (sym (f.others k ne) ∙ is))
    (cases_eq k l)

pub HasNoZero-set : (a : Matrix) (l : ℕ) (v : ℚ) → HasNoZero a → v ≢ zero_ℚ → IsLink a l → HasNoZero (with_value a l v)
HasNoZero-set a l v no_zero some link k d is =
    let new : Entry = (row_of a l, col_of a l, v) in
    ⊎_elim
    (λ (here : k ≡ l). let same : d ≡ new = (let now : Some new ≡ Some d = sym (get_or-set_same a.entries l (Some new) None (link_within a.entries l link))
    ∙ ap (entry_at (with_value a l v)) (sym here) ∙ is in cc) in λ (z : d.2 ≡ zero_ℚ). some (sym (ap (λ (x : Entry). x.2) same) ∙ z))
    (λ (ne : k ≢ l). no_zero k d (sym (get_or-set_other a.entries l k (Some new) None ne) ∙ is))
    (cases_eq k l)

pub HasNoZero-without : (ls : List ℕ) (a : Matrix) → HasNoZero a → HasNoZero (without_entries ls a)
HasNoZero-without ls a no_zero k d is = no_zero k d (sym (link_before ls a k (some_from _ d is)).1 ∙ is)

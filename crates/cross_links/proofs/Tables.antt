-- What becomes of the table when an entry changes, comes or goes.
use Rattle.std.proofs.Common.{◌≡◌, ◌≢◌, ℕ, ◌+◌, ◌^◌, ◌<◌, ◌≤◌, List, [], length, set, Bool, true, false, Option, Some, None, refl, sym, ap, subst, ◌∙◌, ⊎_elim, arith, replicate, length-set, get_or-set_same, get_or-set_other}
use Rattle.std.specs.List.{Contains}
use Rattle.std.specs.Option.{IsSome}
use Rattle.std.proofs.lemmas.Bool.{cases_eq, cases_lt}
use Rattle.std.proofs.lemmas.List.{length-map, length-replicate, get_or_past}
use Rattle.std.proofs.lemmas.List.Elements.{All-contains}
use Rattle.rational.specs.Rational.{ℚ}
use Rattle.chain_links.specs.Lists.{without}
use Rattle.chain_links.proofs.Rest.{nothing_contains}
use Rattle.count_chain.specs.Chains.{Chains, list_at, IsPlaced, with_item, without_item, IsChained}
use Rattle.cross_links.specs.declared.table.Table.{Table}
use Rattle.cross_links.specs.Matrix.{Entry, row, col, at_link, row_in, col_in, is_active, Has, IsSide, IsMatrix}
use Rattle.cross_links.specs.Sides.{IsKept, AreFree}
use Rattle.cross_links.specs.Held.{matrix_of, IsHeld}
use Rattle.cross_links.proofs.Buckets.{item_in, item_held, others_held, left_in, left_held, IsChained-none, empty_lists}
use Rattle.cross_links.proofs.Entries.{none_some, some_from, link_within, IsSide-same, IsSide-retired, IsSide-put, IsSide-taken}

-- a free link is one of the links
pub free_below : (t : Table) (l k : ℕ) → IsHeld t → Contains (list_at t.free k) l → l < length t.entries.items
free_below t l k h held =
    omega (arith, h.free_links, All-contains (λ i. i < t.free.items) (list_at t.free k) l (h.free_chained.below k) held)

-- the link of an entry is in the lists of its row and of its column, and a link that is free in none
module _ (t : Table) (l : ℕ) (h : IsHeld t) where
  pub in_row : (e : Entry) → at_link t.entries.items l ≡ Some e → Contains (list_at t.rows.lines e.0) l
  in_row e is = subst (λ (i : ℕ). Contains (list_at t.rows.lines i) l) (ap row_in is) (h.matrix.rows.held l (some_from _ e is))

  pub in_col : (e : Entry) → at_link t.entries.items l ≡ Some e → Contains (list_at t.cols.lines e.1) l
  in_col e is = subst (λ (i : ℕ). Contains (list_at t.cols.lines i) l) (ap col_in is) (h.matrix.cols.held l (some_from _ e is))

  pub loose_row : at_link t.entries.items l ≡ None → IsPlaced t.rows.lines l → ⊥
  loose_row free (k, within, held) = none_some _ free (h.matrix.rows.only k l held).0

  pub loose_col : at_link t.entries.items l ≡ None → IsPlaced t.cols.lines l → ⊥
  loose_col free (k, within, held) = none_some _ free (h.matrix.cols.only k l held).0

  pub not_free : (e : Entry) → at_link t.entries.items l ≡ Some e → IsPlaced t.free l → ⊥
  not_free e is (k, within, held) = none_some _ (h.free_only l k held) (some_from _ e is)

-- what stands at the links when one has another
module _ (es es' : List (Option Entry)) (l : ℕ) (o : Option Entry) (lt : l < length es) (is : es' ≡ set es l o) where
  pub set_here : at_link es' l ≡ o
  set_here = ap (λ (xs : List (Option Entry)). at_link xs l) is ∙ get_or-set_same es l o None lt

  pub set_there : (k : ℕ) → k ≢ l → at_link es' k ≡ at_link es k
  set_there k ne = ap (λ (xs : List (Option Entry)). at_link xs k) is ∙ get_or-set_other es l k o None ne

  pub set_len : length es' ≡ length es
  set_len = ap length is ∙ length-set es l o

-- the value of an entry changes
pub IsHeld-set : (t t' : Table) (l : ℕ) (e : Entry) (v : ℚ) → IsHeld t → at_link t.entries.items l ≡ Some e → t'.size ≡ t.size
    → t'.entries.items ≡ set t.entries.items l (Some (e.0, e.1, v)) → t'.free ≡ t.free → t'.rows ≡ t.rows → t'.cols ≡ t.cols → IsHeld t'
IsHeld-set t t' l e v h here size is free rows cols =
    let es = t.entries.items in
    let es' = t'.entries.items in
    let within = link_within es l (some_from _ e here) in
    let now = set_here es es' l (Some (e.0, e.1, v)) within is in
    let there = set_there es es' l (Some (e.0, e.1, v)) within is in
    let len = set_len es es' l (Some (e.0, e.1, v)) within is in
    let back : (k : ℕ) → IsSome (at_link es' k) → IsSome (at_link es k) = λ k some.
    ⊎_elim (λ (eq : k ≡ l). subst (λ (x : ℕ). IsSome (at_link es x)) (sym eq) (some_from _ e here)) (λ (ne : k ≢ l). subst IsSome (there k ne) some)
    (cases_eq k l) in
    let forth : (k : ℕ) → IsSome (at_link es k) → IsSome (at_link es' k) = λ k some.
    ⊎_elim (λ (eq : k ≡ l). subst (λ (x : ℕ). IsSome (at_link es' x)) (sym eq) (some_from _ (e.0, e.1, v) now))
    (λ (ne : k ≢ l). subst IsSome (sym (there k ne)) some) (cases_eq k l) in
    let same_row : (k : ℕ) → row_in (at_link es' k) ≡ row_in (at_link es k) = λ k.
    ⊎_elim (λ (eq : k ≡ l). ap (λ (x : ℕ). row_in (at_link es' x)) eq ∙ ap row_in now ∙ sym (ap (λ (x : ℕ). row_in (at_link es x)) eq ∙ ap row_in here))
    (λ (ne : k ≢ l). ap row_in (there k ne)) (cases_eq k l) in
    let same_col : (k : ℕ) → col_in (at_link es' k) ≡ col_in (at_link es k) = λ k.
    ⊎_elim (λ (eq : k ≡ l). ap (λ (x : ℕ). col_in (at_link es' x)) eq ∙ ap col_in now ∙ sym (ap (λ (x : ℕ). col_in (at_link es x)) eq ∙ ap col_in here))
    (λ (ne : k ≢ l). ap col_in (there k ne)) (cases_eq k l) in
    let row_side = IsSide-same t.size es row_in t.rows.lines.lists t.rows.active.items h.matrix.rows es' back forth same_row in
    let col_side = IsSide-same t.size es col_in t.cols.lines.lists t.cols.active.items h.matrix.cols es' back forth same_col in
    record {
      matrix = record {
        small = subst (λ (n : ℕ). n < 2 ^ 16) (sym size) h.matrix.small;
        rows = subst (λ (n : ℕ). IsSide n es' row_in t'.rows.lines.lists t'.rows.active.items) (sym size) (subst (λ r. IsSide t.size es' row_in r.lines.lists r.active.items) (sym rows) row_side);
        cols = subst (λ (n : ℕ). IsSide n es' col_in t'.cols.lines.lists t'.cols.active.items) (sym size) (subst (λ r. IsSide t.size es' col_in r.lines.lists r.active.items) (sym cols) col_side);
        apart = λ k m some_k some_m er ec. h.matrix.apart k m (back k some_k) (back m some_m) (sym (same_row k) ∙ er ∙ same_row m) (sym (same_col k) ∙ ec ∙ same_col m);
      };
      rows = subst IsKept (sym rows) h.rows;
      cols = subst IsKept (sym cols) h.cols;
      row_links = ap (λ r. r.lines.items) rows ∙ h.row_links ∙ sym len;
      col_links = ap (λ r. r.lines.items) cols ∙ h.col_links ∙ sym len;
      fits = omega (arith, len, h.fits);
      free_links = ap (λ (c : Chains). c.items) free ∙ h.free_links ∙ sym len;
      free_list = ap (λ (c : Chains). length c.lists) free ∙ h.free_list;
      free_chained = subst IsChained (sym free) h.free_chained;
      free_held = λ k below off.
          let ne : k ≢ l = λ eq. none_some _ off (subst (λ (x : ℕ). IsSome (at_link es' x)) (sym eq) (some_from _ (e.0, e.1, v) now)) in
          subst (λ (c : Chains). Contains (list_at c 0) k) (sym free) (h.free_held k (omega (arith, len)) (sym (there k ne) ∙ off));
      free_only = λ k j held.
          let off = h.free_only k j (subst (λ (c : Chains). Contains (list_at c j) k) free held) in
          let ne : k ≢ l = λ eq. none_some _ (sym (ap (at_link es) eq) ∙ off) (some_from _ e here) in
          there k ne ∙ off;
    }

-- an entry goes
module _ (t t' : Table) (l : ℕ) (e : Entry) (h : IsHeld t) (here : at_link t.entries.items l ≡ Some e) (size : t'.size ≡ t.size) (is : t'.entries.items ≡ set t.entries.items l None) where
  abbrev es : List (Option Entry)
  es = t.entries.items

  abbrev es' : List (Option Entry)
  es' = t'.entries.items

  taken_within : l < length es
  taken_within = link_within es l (some_from _ e here)

  now_none : at_link es' l ≡ None
  now_none = set_here es es' l None taken_within is

  there : (k : ℕ) → k ≢ l → at_link es' k ≡ at_link es k
  there = set_there es es' l None taken_within is

  len : length es' ≡ length es
  len = set_len es es' l None taken_within is

  back : (k : ℕ) → IsSome (at_link es' k) → (k ≢ l) × IsSome (at_link es k)
  back k some =
      let ne : k ≢ l = λ eq. none_some _ (ap (at_link es') eq ∙ now_none) some in
      (ne, subst IsSome (there k ne) some)

  IsMatrix-taken : t'.rows.lines ≡ without_item t.rows.lines l → t'.rows.active.items ≡ t.rows.active.items → t'.cols.lines ≡ without_item t.cols.lines l
      → t'.cols.active.items ≡ t.cols.active.items → IsKept t'.rows → IsKept t'.cols → IsMatrix (matrix_of t')
  IsMatrix-taken rows active_rows cols active_cols kept_rows kept_cols = record {
    small = subst (λ (n : ℕ). n < 2 ^ 16) (sym size) h.matrix.small;
    rows = subst (λ (n : ℕ). IsSide n es' row_in t'.rows.lines.lists t'.rows.active.items) (sym size)
        (IsSide-taken t.size es es' row_in t.rows.lines t'.rows.lines t.rows.active.items t'.rows.active.items l h.matrix.rows now_none there active_rows rows
        kept_rows.chained);
    cols = subst (λ (n : ℕ). IsSide n es' col_in t'.cols.lines.lists t'.cols.active.items) (sym size)
        (IsSide-taken t.size es es' col_in t.cols.lines t'.cols.lines t.cols.active.items t'.cols.active.items l h.matrix.cols now_none there active_cols cols
        kept_cols.chained);
    apart = λ k m some_k some_m er ec.
        let b = back k some_k in
        let d = back m some_m in
        h.matrix.apart k m b.1 d.1 (sym (ap row_in (there k b.0)) ∙ er ∙ ap row_in (there m d.0)) (sym (ap col_in (there k b.0)) ∙ ec ∙ ap col_in (there m d.0));
  }

  pub IsHeld-taken : t'.free ≡ with_item t.free l 0 → IsChained t'.free → t'.rows.lines ≡ without_item t.rows.lines l
      → t'.rows.active.items ≡ t.rows.active.items → IsKept t'.rows → t'.cols.lines ≡ without_item t.cols.lines l → t'.cols.active.items ≡ t.cols.active.items
      → IsKept t'.cols → IsHeld t'
  IsHeld-taken free chained rows active_rows kept_rows cols active_cols kept_cols =
      let one : 0 < length t.free.lists = omega (arith, h.free_list) in
      record {
        matrix = IsMatrix-taken rows active_rows cols active_cols kept_rows kept_cols;
        rows = kept_rows;
        cols = kept_cols;
        row_links = ap (λ (c : Chains). c.items) rows ∙ h.row_links ∙ sym len;
        col_links = ap (λ (c : Chains). c.items) cols ∙ h.col_links ∙ sym len;
        fits = omega (arith, len, h.fits);
        free_links = ap (λ (c : Chains). c.items) free ∙ h.free_links ∙ sym len;
        free_list = ap (λ (c : Chains). length c.lists) free ∙ length-set t.free.lists 0 _ ∙ h.free_list;
        free_chained = chained;
        free_held = λ k below off. subst (λ (c : Chains). Contains (list_at c 0) k) (sym free) (⊎_elim
            (λ (eq : k ≡ l). subst (λ (x : ℕ). Contains (list_at (with_item t.free l 0) 0) x) (sym eq) (item_held t.free l 0 one))
            (λ (ne : k ≢ l). others_held t.free l 0 0 k one (h.free_held k (omega (arith, len)) (sym (there k ne) ∙ off)))
            (cases_eq k l));
        free_only = λ k j held. ⊎_elim
            (λ (new : (k ≡ l) × (j ≡ 0)). ap (at_link es') new.0 ∙ now_none)
            (λ (old : Contains (list_at t.free j) k).
            let off = h.free_only k j old in
            let ne : k ≢ l = λ eq. none_some _ (sym (ap (at_link es) eq) ∙ off) (some_from _ e here) in
            there k ne ∙ off)
            (item_in t.free l 0 j k one (subst (λ (c : Chains). Contains (list_at c j) k) free held));
      }

-- an entry comes
module _ (t t' : Table) (l : ℕ) (e : Entry) (h : IsHeld t) (at_free : Contains (list_at t.free 0) l) (size : t'.size ≡ t.size) (is : t'.entries.items ≡ set t.entries.items l (Some e)) where
  abbrev fs : List (Option Entry)
  fs = t.entries.items

  abbrev fs' : List (Option Entry)
  fs' = t'.entries.items

  put_within : l < length fs
  put_within = free_below t l 0 h at_free

  was_none : at_link fs l ≡ None
  was_none = h.free_only l 0 at_free

  now_some : at_link fs' l ≡ Some e
  now_some = set_here fs fs' l (Some e) put_within is

  others_there : (k : ℕ) → k ≢ l → at_link fs' k ≡ at_link fs k
  others_there = set_there fs fs' l (Some e) put_within is

  put_len : length fs' ≡ length fs
  put_len = set_len fs fs' l (Some e) put_within is

  put_apart : (Has (matrix_of t) e.0 e.1 → ⊥) → (k m : ℕ) → IsSome (at_link fs' k) → IsSome (at_link fs' m) → row_in (at_link fs' k) ≡ row_in (at_link fs' m)
      → col_in (at_link fs' k) ≡ col_in (at_link fs' m) → k ≡ m
  put_apart absent k m some_k some_m er ec =
      let row_l : row_in (at_link fs' l) ≡ e.0 = ap row_in now_some in
      let col_l : col_in (at_link fs' l) ≡ e.1 = ap col_in now_some in
      let clash : (x : ℕ) → x ≢ l → IsSome (at_link fs' x) → row_in (at_link fs' x) ≡ e.0 → col_in (at_link fs' x) ≡ e.1 → ⊥ =
      λ x ne some in_r in_c. absent (x, subst IsSome (others_there x ne) some, sym (ap row_in (others_there x ne)) ∙ in_r, sym (ap col_in (others_there x ne)) ∙ in_c) in
      ⊎_elim
      (λ (ek : k ≡ l). ⊎_elim
      (λ (em : m ≡ l). ek ∙ sym em)
      (λ (nm : m ≢ l). absurd (clash m nm some_m (sym er ∙ ap (λ (x : ℕ). row_in (at_link fs' x)) ek ∙ row_l) (sym ec ∙ ap (λ (x : ℕ). col_in (at_link fs' x)) ek ∙ col_l)))
      (cases_eq m l))
      (λ (nk : k ≢ l). ⊎_elim
      (λ (em : m ≡ l). absurd (clash k nk some_k (er ∙ ap (λ (x : ℕ). row_in (at_link fs' x)) em ∙ row_l) (ec ∙ ap (λ (x : ℕ). col_in (at_link fs' x)) em ∙ col_l)))
      (λ (nm : m ≢ l). h.matrix.apart k m (subst IsSome (others_there k nk) some_k) (subst IsSome (others_there m nm) some_m)
      (sym (ap row_in (others_there k nk)) ∙ er ∙ ap row_in (others_there m nm)) (sym (ap col_in (others_there k nk)) ∙ ec ∙ ap col_in (others_there m nm)))
      (cases_eq m l))
      (cases_eq k l)

  IsMatrix-put : e.0 < t.size → e.1 < t.size → is_active t.rows.active.items e.0 ≡ true → is_active t.cols.active.items e.1 ≡ true
      → (Has (matrix_of t) e.0 e.1 → ⊥) → t'.rows.lines ≡ with_item t.rows.lines l e.0 → t'.rows.active.items ≡ t.rows.active.items
      → t'.cols.lines ≡ with_item t.cols.lines l e.1 → t'.cols.active.items ≡ t.cols.active.items → IsChained t'.rows.lines → IsChained t'.cols.lines
      → IsMatrix (matrix_of t')
  IsMatrix-put r_lt c_lt on_r on_c absent rows active_rows cols active_cols chained_rows chained_cols = record {
    small = subst (λ (n : ℕ). n < 2 ^ 16) (sym size) h.matrix.small;
    rows = subst (λ (n : ℕ). IsSide n fs' row_in t'.rows.lines.lists t'.rows.active.items) (sym size)
        (IsSide-put t.size fs fs' row_in t.rows.lines t'.rows.lines t.rows.active.items t'.rows.active.items l e.0 e h.matrix.rows was_none now_some
        others_there refl r_lt on_r active_rows rows chained_rows);
    cols = subst (λ (n : ℕ). IsSide n fs' col_in t'.cols.lines.lists t'.cols.active.items) (sym size)
        (IsSide-put t.size fs fs' col_in t.cols.lines t'.cols.lines t.cols.active.items t'.cols.active.items l e.1 e h.matrix.cols was_none now_some
        others_there refl c_lt on_c active_cols cols chained_cols);
    apart = put_apart absent;
  }

  pub IsHeld-put : t'.free ≡ without_item t.free l → IsChained t'.free → e.0 < t.size → e.1 < t.size → is_active t.rows.active.items e.0 ≡ true
      → is_active t.cols.active.items e.1 ≡ true → (Has (matrix_of t) e.0 e.1 → ⊥) → t'.rows.lines ≡ with_item t.rows.lines l e.0
      → t'.rows.active.items ≡ t.rows.active.items → IsKept t'.rows → t'.cols.lines ≡ with_item t.cols.lines l e.1 → t'.cols.active.items ≡ t.cols.active.items
      → IsKept t'.cols → IsHeld t'
  IsHeld-put free chained r_lt c_lt on_r on_c absent rows active_rows kept_rows cols active_cols kept_cols =
      record {
        matrix = IsMatrix-put r_lt c_lt on_r on_c absent rows active_rows cols active_cols kept_rows.chained kept_cols.chained;
        rows = kept_rows;
        cols = kept_cols;
        row_links = ap (λ (c : Chains). c.items) rows ∙ h.row_links ∙ sym put_len;
        col_links = ap (λ (c : Chains). c.items) cols ∙ h.col_links ∙ sym put_len;
        fits = omega (arith, put_len, h.fits);
        free_links = ap (λ (c : Chains). c.items) free ∙ h.free_links ∙ sym put_len;
        free_list = ap (λ (c : Chains). length c.lists) free ∙ length-map t.free.lists (without l) ∙ h.free_list;
        free_chained = chained;
        free_held = λ k below off.
            let ne : k ≢ l = λ eq. none_some _ (sym (ap (at_link fs') eq) ∙ off) (some_from _ e now_some) in
            subst (λ (c : Chains). Contains (list_at c 0) k) (sym free) (left_held t.free l 0 k ne (h.free_held k (omega (arith, put_len)) (sym (others_there k ne) ∙ off)));
        free_only = λ k j held.
            let was = left_in t.free l j k (subst (λ (c : Chains). Contains (list_at c j) k) free held) in
            others_there k was.0 ∙ h.free_only k j was.1;
      }

-- the free links, one more at a time
pub AreFree-none : (first total : ℕ) (ch : Chains) → ch ≡ record { items = total; lists = replicate 1 [] } → AreFree first first total ch
AreFree-none first total ch is =
    let empty : (k : ℕ) → list_at ch k ≡ [] = λ k. ap (λ (c : Chains). list_at c k) is ∙ empty_lists 1 k in
    record {
      items = ap (λ (c : Chains). c.items) is;
      lists = ap (λ (c : Chains). length c.lists) is ∙ length-replicate {A = List ℕ} 1 [];
      chained = IsChained-none total 1 ch is;
      held = λ l above below. absurd (omega arith);
      only = λ l k held. absurd (nothing_contains l (subst (λ xs. Contains xs l) (empty k) held));
    }

module _ (first last total : ℕ) (ch : Chains) (h : AreFree first last total ch) where
  pub not_yet : IsPlaced ch last → ⊥
  not_yet (k, within, held) = omega (arith, (h.only last k held).1)

  pub AreFree-more : (ch' : Chains) → first ≤ last → ch' ≡ with_item ch last 0 → IsChained ch' → AreFree first (last + 1) total ch'
  AreFree-more ch' le is chained =
      let one : 0 < length ch.lists = omega (arith, h.lists) in
      record {
        items = ap (λ (c : Chains). c.items) is ∙ h.items;
        lists = ap (λ (c : Chains). length c.lists) is ∙ length-set ch.lists 0 _ ∙ h.lists;
        chained = chained;
        held = λ l above below. subst (λ (c : Chains). Contains (list_at c 0) l) (sym is) (⊎_elim
            (λ (eq : l ≡ last). subst (λ (x : ℕ). Contains (list_at (with_item ch last 0) 0) x) (sym eq) (item_held ch last 0 one))
            (λ (ne : l ≢ last). others_held ch last 0 0 l one (h.held l above (omega arith)))
            (cases_eq l last));
        only = λ l k held. ⊎_elim
            (λ (new : (l ≡ last) × (k ≡ 0)). (omega (arith, new.0), omega (arith, new.0)))
            (λ (old : Contains (list_at ch k) l). ((h.only l k old).0, omega (arith, (h.only l k old).1)))
            (item_in ch last 0 k l one (subst (λ (c : Chains). Contains (list_at c k) l) is held));
      }

-- links more, all of them free
module _ (t t' : Table) (total : ℕ) (h : IsHeld t) (full : list_at t.free 0 ≡ []) (size : t'.size ≡ t.size) (len : length t'.entries.items ≡ total)
    (same : (l : ℕ) → at_link t'.entries.items l ≡ at_link t.entries.items l) (most : total ≤ 2 ^ 32) where
  side_grown : (line_in : Option Entry → ℕ) (lists : List (List ℕ)) (active : List Bool) → IsSide t.size t.entries.items line_in lists active → IsSide t'.size t'.entries.items line_in lists active
  side_grown line_in lists active side =
      subst (λ (n : ℕ). IsSide n t'.entries.items line_in lists active) (sym size)
      (IsSide-same t.size t.entries.items line_in lists active side t'.entries.items (λ l some. subst IsSome (same l) some)
      (λ l some. subst IsSome (sym (same l)) some) (λ l. ap line_in (same l)))

  pub IsHeld-grown : AreFree (length t.entries.items) total total t'.free → t'.rows.lines ≡ record { items = total; lists = t.rows.lines.lists }
      → t'.rows.active.items ≡ t.rows.active.items → IsKept t'.rows → t'.cols.lines ≡ record { items = total; lists = t.cols.lines.lists }
      → t'.cols.active.items ≡ t.cols.active.items → IsKept t'.cols → IsHeld t'
  IsHeld-grown free rows active_rows kept_rows cols active_cols kept_cols = record {
    matrix = record {
      small = subst (λ (n : ℕ). n < 2 ^ 16) (sym size) h.matrix.small;
      rows = subst (λ (ls : List (List ℕ)). IsSide t'.size t'.entries.items row_in ls t'.rows.active.items) (sym (ap (λ (c : Chains). c.lists) rows))
          (subst (λ (bools : List Bool). IsSide t'.size t'.entries.items row_in t.rows.lines.lists bools) (sym active_rows)
          (side_grown row_in t.rows.lines.lists t.rows.active.items h.matrix.rows));
      cols = subst (λ (ls : List (List ℕ)). IsSide t'.size t'.entries.items col_in ls t'.cols.active.items) (sym (ap (λ (c : Chains). c.lists) cols))
          (subst (λ (bools : List Bool). IsSide t'.size t'.entries.items col_in t.cols.lines.lists bools) (sym active_cols)
          (side_grown col_in t.cols.lines.lists t.cols.active.items h.matrix.cols));
      apart = λ k m some_k some_m er ec. h.matrix.apart k m (subst IsSome (same k) some_k) (subst IsSome (same m) some_m)
          (sym (ap row_in (same k)) ∙ er ∙ ap row_in (same m)) (sym (ap col_in (same k)) ∙ ec ∙ ap col_in (same m));
    };
    rows = kept_rows;
    cols = kept_cols;
    row_links = ap (λ (c : Chains). c.items) rows ∙ sym len;
    col_links = ap (λ (c : Chains). c.items) cols ∙ sym len;
    fits = omega (arith, len);
    free_links = free.items ∙ sym len;
    free_list = free.lists;
    free_chained = free.chained;
    free_held = λ l below off. ⊎_elim
        (λ (old : l < length t.entries.items). absurd (nothing_contains l (subst (λ xs. Contains xs l) full (h.free_held l old (sym (same l) ∙ off)))))
        (λ (new : length t.entries.items ≤ l). free.held l new (omega (arith, len)))
        (cases_lt l (length t.entries.items));
    free_only = λ l k held. same l ∙ get_or_past t.entries.items l None (free.only l k held).0;
  }

-- nothing stands anywhere
pub IsHeld-new : (t : Table) (n : ℕ) → n < 2 ^ 16 → t.size ≡ n → t.entries.items ≡ [] → t.free ≡ record { items = 0; lists = replicate 1 [] }
    → t.rows.lines ≡ record { items = 0; lists = replicate n [] } → t.rows.active.items ≡ replicate n true → IsKept t.rows
    → t.cols.lines ≡ record { items = 0; lists = replicate n [] } → t.cols.active.items ≡ replicate n true → IsKept t.cols → IsHeld t
IsHeld-new t n small size none free rows active_rows kept_rows cols active_cols kept_cols =
    let off : (l : ℕ) → at_link t.entries.items l ≡ None = λ l. ap (λ (es : List (Option Entry)). at_link es l) none in
    let no_free : (k : ℕ) → list_at t.free k ≡ [] = λ k. ap (λ (c : Chains). list_at c k) free ∙ empty_lists 1 k in
    record {
      matrix = record {
        small = subst (λ (m : ℕ). m < 2 ^ 16) (sym size) small;
        rows = nothing_in t n size off row_in t.rows.lines t.rows.active.items rows active_rows kept_rows.chained;
        cols = nothing_in t n size off col_in t.cols.lines t.cols.active.items cols active_cols kept_cols.chained;
        apart = λ k m some_k some_m er ec. absurd (none_some _ (off k) some_k);
      };
      rows = kept_rows;
      cols = kept_cols;
      row_links = ap (λ (c : Chains). c.items) rows ∙ sym (ap length none);
      col_links = ap (λ (c : Chains). c.items) cols ∙ sym (ap length none);
      fits = omega (arith, ap length none);
      free_links = ap (λ (c : Chains). c.items) free ∙ sym (ap length none);
      free_list = ap (λ (c : Chains). length c.lists) free;
      free_chained = IsChained-none 0 1 t.free free;
      free_held = λ l below _. absurd (omega (arith, ap length none));
      free_only = λ l k held. off l;
    }
  where
    nothing_in : (t : Table) (n : ℕ) → t.size ≡ n → ((l : ℕ) → at_link t.entries.items l ≡ None)
        → (line_in : Option Entry → ℕ) (ch : Chains) (active : List Bool) → ch ≡ record { items = 0; lists = replicate n [] } → active ≡ replicate n true
        → IsChained ch → IsSide t.size t.entries.items line_in ch.lists active
    nothing_in t n size off line_in ch active is on chained =
        let empty : (i : ℕ) → list_at ch i ≡ [] = λ i. ap (λ (c : Chains). list_at c i) is ∙ empty_lists n i in
        record {
          lines_len = ap (λ (c : Chains). length c.lists) is ∙ length-replicate {A = List ℕ} n [] ∙ sym size;
          active_len = ap length on ∙ length-replicate {A = Bool} n true ∙ sym size;
          held = λ l some. absurd (none_some _ (off l) some);
          only = λ i l held. absurd (nothing_contains l (subst (λ xs. Contains xs l) (empty i) held));
          once = chained.once;
          removed = λ i _. empty i;
        }

-- the same entries and lists
module _ (t t' : Table) (i : ℕ) (h : IsHeld t) (lt : i < t.size) where
  IsHeld-lists : t'.size ≡ t.size → t'.entries ≡ t.entries → t'.free ≡ t.free → t'.rows.lines ≡ t.rows.lines → t'.cols.lines ≡ t.cols.lines → IsKept t'.rows
      → IsKept t'.cols → IsSide t.size t.entries.items row_in t.rows.lines.lists t'.rows.active.items
      → IsSide t.size t.entries.items col_in t.cols.lines.lists t'.cols.active.items → IsHeld t'
  IsHeld-lists size entries free rows cols kept_rows kept_cols row_side col_side =
      let items = ap (λ v. v.items) entries in
      record {
        matrix = record {
          small = subst (λ (n : ℕ). n < 2 ^ 16) (sym size) h.matrix.small;
          rows = rw (size, items, rows) row_side;
          cols = rw (size, items, cols) col_side;
          apart = rw items h.matrix.apart;
        };
        rows = kept_rows;
        cols = kept_cols;
        row_links = ap (λ (c : Chains). c.items) rows ∙ h.row_links ∙ sym (ap length items);
        col_links = ap (λ (c : Chains). c.items) cols ∙ h.col_links ∙ sym (ap length items);
        fits = omega (arith, ap length items, h.fits);
        free_links = ap (λ (c : Chains). c.items) free ∙ h.free_links ∙ sym (ap length items);
        free_list = ap (λ (c : Chains). length c.lists) free ∙ h.free_list;
        free_chained = subst IsChained (sym free) h.free_chained;
        free_held = rw (items, free) h.free_held;
        free_only = rw (items, free) h.free_only;
      }

  pub IsHeld-retired_row : row (matrix_of t) i ≡ [] → t'.size ≡ t.size → t'.entries ≡ t.entries → t'.free ≡ t.free → t'.rows.lines ≡ t.rows.lines
      → t'.rows.active.items ≡ set t.rows.active.items i false → IsKept t'.rows → t'.cols ≡ t.cols → IsHeld t'
  IsHeld-retired_row empty size entries free rows active kept cols =
      IsHeld-lists size entries free rows (ap (λ s. s.lines) cols) kept (subst IsKept (sym cols) h.cols)
      (subst (λ (bools : List Bool). IsSide t.size t.entries.items row_in t.rows.lines.lists bools) (sym active)
      (IsSide-retired t.size t.entries.items row_in t.rows.lines.lists t.rows.active.items h.matrix.rows i lt empty))
      (subst (λ s. IsSide t.size t.entries.items col_in t.cols.lines.lists s.active.items) (sym cols) h.matrix.cols)

  pub IsHeld-retired_col : col (matrix_of t) i ≡ [] → t'.size ≡ t.size → t'.entries ≡ t.entries → t'.free ≡ t.free → t'.cols.lines ≡ t.cols.lines
      → t'.cols.active.items ≡ set t.cols.active.items i false → IsKept t'.cols → t'.rows ≡ t.rows → IsHeld t'
  IsHeld-retired_col empty size entries free cols active kept rows =
      IsHeld-lists size entries free (ap (λ s. s.lines) rows) cols (subst IsKept (sym rows) h.rows) kept
      (subst (λ s. IsSide t.size t.entries.items row_in t.rows.lines.lists s.active.items) (sym rows) h.matrix.rows)
      (subst (λ (bools : List Bool). IsSide t.size t.entries.items col_in t.cols.lines.lists bools) (sym active)
      (IsSide-retired t.size t.entries.items col_in t.cols.lines.lists t.cols.active.items h.matrix.cols i lt empty))

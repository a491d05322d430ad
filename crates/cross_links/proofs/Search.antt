-- What a walk along a list has met, and what a search for the least entry knows.
use Rattle.std.proofs.Common.{◌≡◌, ℕ, ◌-◌, ◌*◌, ◌^◌, ◌<◌, ◌≤◌, List, length, get_or, eqb, Option, Some, None, slice_get, sym, ap, subst, ◌∙◌, ⊎_elim, ◌⊎◌, inl, inr, arith}
use Rattle.std.specs.List.{Contains, IsDistinct}
use Rattle.std.specs.Option.{IfSome}
use Rattle.std.proofs.lemmas.Nat.{mul-le}
use Rattle.std.proofs.lemmas.List.{get_or_read}
use Rattle.std.proofs.lemmas.List.Elements.{All-contains}
use Rattle.chain_links.specs.Lists.{after, rest}
use Rattle.chain_links.proofs.Rest.{rest-first, rest-shorter, rest_cases, IfSome-first, IfSome-after, nothing_contains}
use Rattle.count_chain.specs.Chains.{list_at}
use Rattle.cross_links.specs.declared.table.Table.{Table}
use Rattle.cross_links.specs.Matrix.{Entry, Matrix, row, col, at_link, row_in, col_in, row_of, col_of, cost_of, IsLink, IsNotWorse}
use Rattle.cross_links.specs.Held.{matrix_of, IsHeld}
use Rattle.cross_links.proofs.Entries.{link_within, side_below, side_active}

-- each item was met but those from the next on
pub record Walked (xs : List ℕ) (next : Option ℕ) (P : ℕ → Type 0) : Type 0 where
  pub next_in : IfSome next (λ x. Contains xs x)
  pub met : (x : ℕ) → Contains xs x → Contains (rest next xs) x ⊎ P x

pub Walked-first : (xs : List ℕ) (next : Option ℕ) (P : ℕ → Type 0) → next ≡ slice_get xs 0 → Walked xs next P
Walked-first xs next P is = record {
  next_in = subst (λ (o : Option ℕ). IfSome o (λ x. Contains xs x)) (sym is) (IfSome-first xs);
  met = λ x held. inl (subst (λ (o : Option ℕ). Contains (rest o xs) x) (sym is) (subst (λ (ys : List ℕ). Contains ys x) (sym (rest-first xs)) held));
}

module _ (xs : List ℕ) (next : Option ℕ) (P : ℕ → Type 0) (h : Walked xs next P) where
  pub walked_all : next ≡ None → (x : ℕ) → Contains xs x → P x
  walked_all is x held =
      ⊎_elim (λ (left : Contains (rest next xs) x). absurd (nothing_contains x (subst (λ (o : Option ℕ). Contains (rest o xs) x) is left))) (λ (met : P x). met) (h.met x held)

  module _ (x : ℕ) (is : next ≡ Some x) where
    pub walked_in : Contains xs x
    walked_in = subst (λ (o : Option ℕ). IfSome o (λ x. Contains xs x)) is h.next_in

    pub walked_shorter : (next' : Option ℕ) → IsDistinct eqb xs → next' ≡ after x xs → length (rest next' xs) < length (rest next xs)
    walked_shorter next' once behind =
        omega (arith, rest-shorter x xs once walked_in, ap (λ (o : Option ℕ). length (rest o xs)) behind, ap (λ (o : Option ℕ). length (rest o xs)) is)

    pub Walked-more : (next' : Option ℕ) (Q : ℕ → Type 0) → IsDistinct eqb xs → next' ≡ after x xs → ((y : ℕ) → P y → Q y) → Q x → Walked xs next' Q
    Walked-more next' Q once behind keeps here = record {
      next_in = subst (λ (o : Option ℕ). IfSome o (λ x. Contains xs x)) (sym behind) (IfSome-after x xs);
      met = λ y held. ⊎_elim
          (λ (left : Contains (rest next xs) y). ⊎_elim
          (λ (e : y ≡ x). inr (subst Q (sym e) here))
          (λ (later : Contains (rest (after x xs) xs) y). inl (subst (λ (o : Option ℕ). Contains (rest o xs) y) (sym behind) later))
          (rest_cases x y xs once walked_in (subst (λ (o : Option ℕ). Contains (rest o xs) y) is left)))
          (λ (met : P y). inr (keeps y met))
          (h.met y held);
    }

-- products of counts fit
pub product_fits : (n a b : ℕ) → n < 2 ^ 16 → a ≤ n → b ≤ n → a * b < 2 ^ 64
product_fits n a b small la lb =
    let to : a * b ≤ 65535 * 65535 = mul-le a b 65535 65535 (omega arith) (omega arith) in
    omega arith

-- a cost below the square of a count
pub settled : (a : Matrix) (l k count : ℕ) → cost_of a l < count * count → count < length (row a (row_of a k)) → count < length (col a (col_of a k)) → IsNotWorse a l k
settled a l k count less more_row more_col =
    let to : count * count ≤ cost_of a k = mul-le count count (length (row a (row_of a k)) - 1) (length (col a (col_of a k)) - 1) (omega arith) (omega arith) in
    inl (omega arith)

module _ (t : Table) (h : IsHeld t) where
  -- a line in a bucket is a line
  pub bucket_row : (k r : ℕ) → Contains (list_at t.rows.buckets k) r → r < t.size
  bucket_row k r held =
      omega (arith, h.rows.bucketed.items, h.matrix.rows.lines_len, All-contains (λ i. i < t.rows.buckets.items) (list_at t.rows.buckets k) r (h.rows.bucketed.chained.below k) held)

  pub bucket_col : (k c : ℕ) → Contains (list_at t.cols.buckets k) c → c < t.size
  bucket_col k c held =
      omega (arith, h.cols.bucketed.items, h.matrix.cols.lines_len, All-contains (λ i. i < t.cols.buckets.items) (list_at t.cols.buckets k) c (h.cols.bucketed.chained.below k) held)

  module _ (l : ℕ) (some : IsLink (matrix_of t) l) where
    -- an entry is in its row, and that in the bucket of its count
    pub in_its_row : Contains (row (matrix_of t) (row_of (matrix_of t) l)) l
    in_its_row = h.matrix.rows.held l some

    pub in_its_col : Contains (col (matrix_of t) (col_of (matrix_of t) l)) l
    in_its_col = h.matrix.cols.held l some

    pub row_in_bucket : (k : ℕ) → length (row (matrix_of t) (row_of (matrix_of t) l)) ≡ k → Contains (list_at t.rows.buckets k) (row_of (matrix_of t) l)
    row_in_bucket k is =
        subst (λ (m : ℕ). Contains (list_at t.rows.buckets m) (row_of (matrix_of t) l)) is
        (h.rows.bucketed.placed _ (side_active t.size t.entries.items row_in t.rows.lines.lists t.rows.active.items h.matrix.rows l some))

    pub col_in_bucket : (k : ℕ) → length (col (matrix_of t) (col_of (matrix_of t) l)) ≡ k → Contains (list_at t.cols.buckets k) (col_of (matrix_of t) l)
    col_in_bucket k is =
        subst (λ (m : ℕ). Contains (list_at t.cols.buckets m) (col_of (matrix_of t) l)) is
        (h.cols.bucketed.placed _ (side_active t.size t.entries.items col_in t.cols.lines.lists t.cols.active.items h.matrix.cols l some))

    pub some_row : 0 < length (row (matrix_of t) (row_of (matrix_of t) l))
    some_row = omega (arith, in_its_row.1)

    pub some_col : 0 < length (col (matrix_of t) (col_of (matrix_of t) l))
    some_col = omega (arith, in_its_col.1)

    -- where its link, its row and its column stand
    pub row_link_below : l < t.rows.lines.items
    row_link_below = omega (arith, h.row_links, link_within t.entries.items l some)

    pub col_link_below : l < t.cols.lines.items
    col_link_below = omega (arith, h.col_links, link_within t.entries.items l some)

    module _ (e : Entry) (is : at_link t.entries.items l ≡ Some e) where
      pub entry_row : row_of (matrix_of t) l ≡ e.0
      entry_row = ap row_in is

      pub entry_col : col_of (matrix_of t) l ≡ e.1
      entry_col = ap col_in is

      pub entry_row_below : e.0 < t.size
      entry_row_below =
          omega (arith, entry_row, side_below t.size t.entries.items row_in t.rows.lines.lists t.rows.active.items h.matrix.rows l some)

      pub entry_col_below : e.1 < t.size
      entry_col_below =
          omega (arith, entry_col, side_below t.size t.entries.items col_in t.cols.lines.lists t.cols.active.items h.matrix.cols l some)

  -- a count that was read
  pub row_count_is : (r n : ℕ) → r < t.size → n ≡ get_or t.rows.counts.items r n → n ≡ length (row (matrix_of t) r)
  row_count_is r n lt read =
      get_or_read t.rows.counts.items r n (omega (arith, h.rows.counts_len, h.matrix.rows.lines_len)) read 0 ∙ h.rows.counts r

  pub col_count_is : (c n : ℕ) → c < t.size → n ≡ get_or t.cols.counts.items c n → n ≡ length (col (matrix_of t) c)
  col_count_is c n lt read =
      get_or_read t.cols.counts.items c n (omega (arith, h.cols.counts_len, h.matrix.cols.lines_len)) read 0 ∙ h.cols.counts c

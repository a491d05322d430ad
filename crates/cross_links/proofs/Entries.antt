-- What becomes of the two directions when an entry changes, comes or goes.
use Rattle.std.proofs.Common.{◌≡◌, ◌≢◌, ℕ, ◌<◌, ◌≤◌, List, [], ◌∷◌, ◌++◌, length, map, set, Bool, true, false, eqb, Option, Some, None, slice_get, refl, sym, ap, subst, ◌∙◌, ⊎_elim, arith, length-set, get_or-set_same, get_or-set_other}
use Rattle.std.specs.List.{All, Contains, IsDistinct, AllByRecursion}
use Rattle.std.specs.Option.{IsSome, IfSome}
use Rattle.std.proofs.lemmas.Bool.{cases_eq, cases_lt, both_ways, ne_eqb}
use Rattle.std.proofs.Math.ListN.{get_or-map}
use Rattle.std.proofs.lemmas.List.{length-map, get_or_past}
use Rattle.std.proofs.lemmas.List.Elements.{All-nil, All-cons}
use Rattle.std.proofs.lemmas.Map.Keys.{IsDistinct-tail}
use Rattle.std.proofs.lemmas.Map.Steps.{length-le_from_distinct_below}
use Rattle.chain_links.specs.Lists.{without, after}
use Rattle.chain_links.proofs.Rest.{nothing_contains, IfSome-after, head_contains, tail_contains}
use Rattle.chain_links.proofs.Rings.{All-has}
use Rattle.count_chain.specs.Chains.{Chains, list_at, with_item, without_item, IsChained}
use Rattle.cross_links.specs.Matrix.{Entry, Matrix, line, row, col, at_link, row_in, col_in, row_of, col_of, is_active, Has, IsSide, IsMatrix, IsGrown, IsFilled, with_entry, without_entry, without_entries, without_row, without_col}
use Rattle.cross_links.proofs.Buckets.{item_in, item_held, others_held, left_in, left_held, list_at-without_item, list_at-with_item_other, not_in_tail, without-head, bool_cases, line_within}

pub none_some : (o : Option Entry) → o ≡ None → IsSome o → ⊥
none_some o is some = let none = subst IsSome is some in absurd (cc)

pub some_from : (o : Option Entry) (e : Entry) → o ≡ Some e → IsSome o
some_from o e is = rw is refl

pub some_entry : (o : Option Entry) → IsSome o → (e : Entry) × (o ≡ Some e)
some_entry None some = absurd (cc)
some_entry (Some e) some = (e, refl)

-- the first link of a list, and the others
pub first_and_rest : (xs : List ℕ) (l : ℕ) → slice_get xs 0 ≡ Some l → (ls : List ℕ) × (xs ≡ l ∷ ls)
first_and_rest [] l is = absurd (cc)
first_and_rest (x ∷ xs) l is = (xs, cc)

pub none_first : (xs : List ℕ) → slice_get xs 0 ≡ None → xs ≡ []
none_first [] is = refl
none_first (x ∷ xs) is = absurd (cc)

-- what stands at a link stands within
pub link_within : (es : List (Option Entry)) (l : ℕ) → IsSome (at_link es l) → l < length es
link_within es l some =
    ⊎_elim (λ (lt : l < length es). lt) (λ (le : length es ≤ l). absurd (none_some _ (get_or_past es l None le) some)) (cases_lt l (length es))

-- the list of a line has no more links than another numbering of them has numbers
differ_mapped : (x : ℕ) (key : ℕ → ℕ) (ys : List ℕ) → ((k : ℕ) → Contains ys k → x ≢ key k) → AllByRecursion (λ w. eqb x w ≡ false) (map key ys)
differ_mapped x key [] h = tt
differ_mapped x key (z ∷ zs) h =
    (ne_eqb x (key z) (h z (head_contains z zs)), differ_mapped x key zs (λ k held. h k (tail_contains z zs k held)))

pub distinct_mapped : (key : ℕ → ℕ) (ls : List ℕ) → IsDistinct eqb ls → ((l k : ℕ) → Contains ls l → Contains ls k → key l ≡ key k → l ≡ k) → IsDistinct eqb (map key ls)
unfolding IsDistinct
distinct_mapped key [] once one = tt
distinct_mapped key (y ∷ ys) once one = (
  differ_mapped (key y) key ys (λ k held e. not_in_tail y ys once (subst (λ (z : ℕ). Contains ys z) (sym (one y k (head_contains y ys) (tail_contains y ys k held) e)) held)),
  distinct_mapped key ys (IsDistinct-tail eqb y ys once) (λ l k in_l in_k e. one l k (tail_contains y ys l in_l) (tail_contains y ys k in_k) e),
)

all_mapped : (key : ℕ → ℕ) (n : ℕ) (ls : List ℕ) → ((l : ℕ) → Contains ls l → key l < n) → All (λ q. q < n) (map key ls)
all_mapped key n [] h = All-nil (λ q. q < n)
all_mapped key n (y ∷ ys) h =
    All-cons (λ q. q < n) (key y) (map key ys) (h y (head_contains y ys)) (all_mapped key n ys (λ l held. h l (tail_contains y ys l held)))

count_bound : (key : ℕ → ℕ) (n : ℕ) (ls : List ℕ) → IsDistinct eqb ls → ((l k : ℕ) → Contains ls l → Contains ls k → key l ≡ key k → l ≡ k) → ((l : ℕ) → Contains ls l → key l < n) → length ls ≤ n
count_bound key n ls once one below =
    omega (arith, length-map ls key, length-le_from_distinct_below (map key ls) n (distinct_mapped key ls once one) (λ q has_q. All-has (λ q. q < n) q (map key ls) (all_mapped key n ls below) has_q))

distinct_cons : (x : ℕ) (xs : List ℕ) → AllByRecursion (λ w. eqb x w ≡ false) xs → IsDistinct eqb xs → IsDistinct eqb (x ∷ xs)
unfolding IsDistinct
distinct_cons x xs differ once = (differ, once)

-- and fewer, where a number names none of them
count_room : (key : ℕ → ℕ) (n c : ℕ) (ls : List ℕ) → IsDistinct eqb ls → ((l k : ℕ) → Contains ls l → Contains ls k → key l ≡ key k → l ≡ k)
    → ((l : ℕ) → Contains ls l → key l < n) → c < n → ((l : ℕ) → Contains ls l → c ≢ key l) → length ls < n
count_room key n c ls once one below lt none =
    let all = All-cons (λ q. q < n) c (map key ls) lt (all_mapped key n ls below) in
    let whole = distinct_cons c (map key ls) (differ_mapped c key ls none) (distinct_mapped key ls once one) in
    omega (arith, length-map ls key, length-le_from_distinct_below (c ∷ map key ls) n whole (λ q has_q. All-has (λ q. q < n) q (c ∷ map key ls) all has_q))

-- one direction
module _ (n : ℕ) (es : List (Option Entry)) (line_in : Option Entry → ℕ) (lines : List (List ℕ)) (active : List Bool) (h : IsSide n es line_in lines active) where
  pub side_below : (l : ℕ) → IsSome (at_link es l) → line_in (at_link es l) < n
  side_below l some =
      omega (arith, h.lines_len, line_within (record { items = 0; lists = lines }) (line_in (at_link es l)) l (h.held l some))

  pub side_active : (l : ℕ) → IsSome (at_link es l) → is_active active (line_in (at_link es l)) ≡ true
  side_active l some =
      ⊎_elim
      (λ (on : is_active active (line_in (at_link es l)) ≡ true). on)
      (λ (off : is_active active (line_in (at_link es l)) ≡ false). absurd (nothing_contains l (subst (λ xs. Contains xs l) (h.removed _ off) (h.held l some))))
      (bool_cases (is_active active (line_in (at_link es l))))

  -- the same links in the same lines
  pub IsSide-same : (es' : List (Option Entry)) → ((l : ℕ) → IsSome (at_link es' l) → IsSome (at_link es l))
      → ((l : ℕ) → IsSome (at_link es l) → IsSome (at_link es' l)) → ((l : ℕ) → line_in (at_link es' l) ≡ line_in (at_link es l))
      → IsSide n es' line_in lines active
  IsSide-same es' back forth same = record {
    lines_len = h.lines_len;
    active_len = h.active_len;
    held = λ l some. subst (λ (i : ℕ). Contains (line lines i) l) (sym (same l)) (h.held l (back l some));
    only = λ i l held. (forth l (h.only i l held).0, same l ∙ (h.only i l held).1);
    once = h.once;
    removed = h.removed;
  }

  pub IsSide-retired : (i : ℕ) → i < n → line lines i ≡ [] → IsSide n es line_in lines (set active i false)
  IsSide-retired i lt none = record {
    lines_len = h.lines_len;
    active_len = length-set active i false ∙ h.active_len;
    held = h.held;
    only = h.only;
    once = h.once;
    removed = λ x off. ⊎_elim (λ (e : x ≡ i). ap (line lines) e ∙ none) (λ (ne : x ≢ i). h.removed x (sym (get_or-set_other active i x false false ne) ∙ off)) (cases_eq x i);
  }

-- an entry comes to a free link, at the end of a line
pub IsSide-put : (n : ℕ) (es es' : List (Option Entry)) (line_in : Option Entry → ℕ) (ch ch' : Chains) (active active' : List Bool) (l i : ℕ) (e : Entry)
    → IsSide n es line_in ch.lists active → at_link es l ≡ None → at_link es' l ≡ Some e → ((k : ℕ) → k ≢ l → at_link es' k ≡ at_link es k)
    → line_in (Some e) ≡ i → i < n → is_active active i ≡ true → active' ≡ active → ch' ≡ with_item ch l i → IsChained ch'
    → IsSide n es' line_in ch'.lists active'
IsSide-put n es es' line_in ch ch' active active' l i e h free here others in_i lt on same is chained =
    let within : i < length ch.lists = omega (arith, h.lines_len) in
    let lies : line_in (at_link es' l) ≡ i = ap line_in here ∙ in_i in
    let to = λ (c : Chains) (j x : ℕ). Contains (list_at c j) x in
    record {
      lines_len = ap (λ (c : Chains). length c.lists) is ∙ length-set ch.lists i _ ∙ h.lines_len;
      active_len = ap length same ∙ h.active_len;
      held = λ k some. ⊎_elim
          (λ (eq : k ≡ l). subst (λ (x : ℕ). to ch' (line_in (at_link es' x)) x) (sym eq)
          (subst (λ (j : ℕ). to ch' j l) (sym lies) (subst (λ (c : Chains). to c i l) (sym is) (item_held ch l i within))))
          (λ (ne : k ≢ l). subst (λ (j : ℕ). to ch' j k) (sym (ap line_in (others k ne)))
          (subst (λ (c : Chains). to c (line_in (at_link es k)) k) (sym is) (others_held ch l i _ k within (h.held k (subst IsSome (others k ne) some)))))
          (cases_eq k l);
      only = λ j k held. ⊎_elim
          (λ (new : (k ≡ l) × (j ≡ i)). (subst (λ (x : ℕ). IsSome (at_link es' x)) (sym new.0) (some_from _ e here), ap (λ (x : ℕ). line_in (at_link es' x)) new.0 ∙ lies ∙ sym new.1))
          (λ (old : Contains (list_at ch j) k).
          let was = h.only j k old in
          let ne : k ≢ l = λ eq. none_some _ (ap (at_link es) eq ∙ free) was.0 in
          (subst IsSome (sym (others k ne)) was.0, ap line_in (others k ne) ∙ was.1))
          (item_in ch l i j k within (subst (λ (c : Chains). to c j k) is held));
      once = chained.once;
      removed = λ x off.
          let was : is_active active x ≡ false = ap (λ (bools : List Bool). is_active bools x) (sym same) ∙ off in
          let ne : x ≢ i = λ eq. both_ways _ was (ap (is_active active) eq ∙ on) in
          ap (λ (c : Chains). list_at c x) is ∙ list_at-with_item_other ch l i x ne ∙ h.removed x was;
    }

-- an entry goes
pub IsSide-taken : (n : ℕ) (es es' : List (Option Entry)) (line_in : Option Entry → ℕ) (ch ch' : Chains) (active active' : List Bool) (l : ℕ)
    → IsSide n es line_in ch.lists active → at_link es' l ≡ None → ((k : ℕ) → k ≢ l → at_link es' k ≡ at_link es k) → active' ≡ active → ch' ≡ without_item ch l
    → IsChained ch' → IsSide n es' line_in ch'.lists active'
IsSide-taken n es es' line_in ch ch' active active' l h here others same is chained =
    let to = λ (c : Chains) (j x : ℕ). Contains (list_at c j) x in
    record {
      lines_len = ap (λ (c : Chains). length c.lists) is ∙ length-map ch.lists (without l) ∙ h.lines_len;
      active_len = ap length same ∙ h.active_len;
      held = λ k some.
          let ne : k ≢ l = λ eq. none_some _ (ap (at_link es') eq ∙ here) some in
          subst (λ (j : ℕ). to ch' j k) (sym (ap line_in (others k ne))) (subst (λ (c : Chains). to c (line_in (at_link es k)) k) (sym is)
          (left_held ch l _ k ne (h.held k (subst IsSome (others k ne) some))));
      only = λ j k held.
          let was = left_in ch l j k (subst (λ (c : Chains). to c j k) is held) in
          let then = h.only j k was.1 in
          (subst IsSome (sym (others k was.0)) then.0, ap line_in (others k was.0) ∙ then.1);
      once = chained.once;
      removed = λ x off.
          ap (λ (c : Chains). list_at c x) is ∙ list_at-without_item ch l x ∙ ap (without l) (h.removed x (ap (λ (bools : List Bool). is_active bools x) (sym same) ∙ off));
    }

module _ (a : Matrix) (h : IsMatrix a) where
  pub row_count_le : (r : ℕ) → length (row a r) ≤ a.size
  row_count_le r =
      count_bound (λ l. col_of a l) a.size (row a r) (h.rows.once r)
      (λ l k in_l in_k e. h.apart l k (h.rows.only r l in_l).0 (h.rows.only r k in_k).0 ((h.rows.only r l in_l).1 ∙ sym (h.rows.only r k in_k).1) e)
      (λ l held. side_below a.size a.entries col_in a.cols a.active_cols h.cols l (h.rows.only r l held).0)

  pub col_count_le : (c : ℕ) → length (col a c) ≤ a.size
  col_count_le c =
      count_bound (λ l. row_of a l) a.size (col a c) (h.cols.once c)
      (λ l k in_l in_k e. h.apart l k (h.cols.only c l in_l).0 (h.cols.only c k in_k).0 e ((h.cols.only c l in_l).1 ∙ sym (h.cols.only c k in_k).1))
      (λ l held. side_below a.size a.entries row_in a.rows a.active_rows h.rows l (h.cols.only c l held).0)

  -- a place without an entry leaves room in its row and in its column
  pub row_room : (r c : ℕ) → c < a.size → (Has a r c → ⊥) → length (row a r) < a.size
  row_room r c lt absent =
      count_room (λ l. col_of a l) a.size c (row a r) (h.rows.once r)
      (λ l k in_l in_k e. h.apart l k (h.rows.only r l in_l).0 (h.rows.only r k in_k).0 ((h.rows.only r l in_l).1 ∙ sym (h.rows.only r k in_k).1) e)
      (λ l held. side_below a.size a.entries col_in a.cols a.active_cols h.cols l (h.rows.only r l held).0)
      lt (λ l held e. absent (l, (h.rows.only r l held).0, (h.rows.only r l held).1, sym e))

  pub col_room : (r c : ℕ) → r < a.size → (Has a r c → ⊥) → length (col a c) < a.size
  col_room r c lt absent =
      count_room (λ l. row_of a l) a.size r (col a c) (h.cols.once c)
      (λ l k in_l in_k e. h.apart l k (h.cols.only c l in_l).0 (h.cols.only c k in_k).0 e ((h.cols.only c l in_l).1 ∙ sym (h.cols.only c k in_k).1))
      (λ l held. side_below a.size a.entries row_in a.rows a.active_rows h.rows l (h.cols.only c l held).0)
      lt (λ l held e. absent (l, (h.cols.only c l held).0, sym e, (h.cols.only c l held).1))

-- the first entry of a line goes
pub first_link : (xs : List ℕ) (l : ℕ) → slice_get xs 0 ≡ Some l → Contains xs l
first_link xs l is = let split = first_and_rest xs l is in subst (λ (ys : List ℕ). Contains ys l) (sym split.1) (head_contains l split.0)

pub behind_in : (xs : List ℕ) (k l : ℕ) → after k xs ≡ Some l → Contains xs l
behind_in xs k l is = subst (λ (o : Option ℕ). IfSome o (λ x. Contains xs x)) is (IfSome-after k xs)

taken_rest : (lines : List (List ℕ)) (i l : ℕ) (ls : List ℕ) → IsDistinct eqb (line lines i) → line lines i ≡ l ∷ ls → line (map (without l) lines) i ≡ ls
taken_rest lines i l ls once is =
    get_or-map (without l) lines i [] ∙ ap (without l) is ∙ without-head l ls (subst (λ (ys : List ℕ). IsDistinct eqb ys) is once)

module _ (a b : Matrix) (i l : ℕ) (h : IsMatrix a) where
  pub row_taken : slice_get (row a i) 0 ≡ Some l → b ≡ without_entry a l → without_entries (row b i) b ≡ without_entries (row a i) a
  row_taken first is =
      let split = first_and_rest (row a i) l first in
      let left : row b i ≡ split.0 = ap (λ (x : Matrix). row x i) is ∙ taken_rest a.rows i l split.0 (h.rows.once i) split.1 in
      ap (λ (ls : List ℕ). without_entries ls b) left ∙ ap (λ (x : Matrix). without_entries split.0 x) is ∙ sym (ap (λ (ls : List ℕ). without_entries ls a) split.1)

  pub row_shorter : slice_get (row a i) 0 ≡ Some l → b ≡ without_entry a l → length (row b i) < length (row a i)
  row_shorter first is =
      let split = first_and_rest (row a i) l first in
      let left : row b i ≡ split.0 = ap (λ (x : Matrix). row x i) is ∙ taken_rest a.rows i l split.0 (h.rows.once i) split.1 in
      omega (arith, ap length left, ap length split.1)

  pub col_taken : slice_get (col a i) 0 ≡ Some l → b ≡ without_entry a l → without_entries (col b i) b ≡ without_entries (col a i) a
  col_taken first is =
      let split = first_and_rest (col a i) l first in
      let left : col b i ≡ split.0 = ap (λ (x : Matrix). col x i) is ∙ taken_rest a.cols i l split.0 (h.cols.once i) split.1 in
      ap (λ (ls : List ℕ). without_entries ls b) left ∙ ap (λ (x : Matrix). without_entries split.0 x) is ∙ sym (ap (λ (ls : List ℕ). without_entries ls a) split.1)

  pub col_shorter : slice_get (col a i) 0 ≡ Some l → b ≡ without_entry a l → length (col b i) < length (col a i)
  col_shorter first is =
      let split = first_and_rest (col a i) l first in
      let left : col b i ≡ split.0 = ap (λ (x : Matrix). col x i) is ∙ taken_rest a.cols i l split.0 (h.cols.once i) split.1 in
      omega (arith, ap length left, ap length split.1)

-- an entry more, where there was room or room was made
pub IsFilled-from : (a b c : Matrix) (l : ℕ) (e : Entry) → IsGrown a b → at_link b.entries l ≡ None → l < length b.entries → c ≡ with_entry b l e → IsFilled a l e c
IsFilled-from a b c l e h free within is = record {
  free = sym (h.same l) ∙ free;
  size = ap (λ (x : Matrix). x.size) is ∙ h.size;
  entry = ap (λ (x : Matrix). at_link x.entries l) is ∙ get_or-set_same b.entries l (Some e) None within;
  others = λ k ne. ap (λ (x : Matrix). at_link x.entries k) is ∙ get_or-set_other b.entries l k (Some e) None ne ∙ h.same k;
  rows = ap (λ (x : Matrix). x.rows) is ∙ ap (λ (rs : List (List ℕ)). set rs e.0 (line rs e.0 ++ l ∷ [])) h.rows;
  cols = ap (λ (x : Matrix). x.cols) is ∙ ap (λ (cs : List (List ℕ)). set cs e.1 (line cs e.1 ++ l ∷ [])) h.cols;
  active_rows = ap (λ (x : Matrix). x.active_rows) is ∙ h.active_rows;
  active_cols = ap (λ (x : Matrix). x.active_cols) is ∙ h.active_cols;
  used_again = λ lt. h.used_again (omega (arith, ap (λ (x : Matrix). length x.entries) is, length-set b.entries l (Some e)));
  few = omega (arith, h.few, ap (λ (x : Matrix). length x.entries) is, length-set b.entries l (Some e));
}

-- the size, and what was removed, stay when entries go
pub size_kept : (ls : List ℕ) (a : Matrix) → (without_entries ls a).size ≡ a.size
size_kept [] a = refl
size_kept (l ∷ ls) a = size_kept ls (without_entry a l)

pub active_rows_kept : (ls : List ℕ) (a : Matrix) → (without_entries ls a).active_rows ≡ a.active_rows
active_rows_kept [] a = refl
active_rows_kept (l ∷ ls) a = active_rows_kept ls (without_entry a l)

pub active_cols_kept : (ls : List ℕ) (a : Matrix) → (without_entries ls a).active_cols ≡ a.active_cols
active_cols_kept [] a = refl
active_cols_kept (l ∷ ls) a = active_cols_kept ls (without_entry a l)

module _ (a b m : Matrix) (i : ℕ) (same : m ≡ a) where
  pub row_removal_keeps : b ≡ without_row m i → (b.size ≡ a.size) × (b.active_rows ≡ set a.active_rows i false) × (b.active_cols ≡ a.active_cols)
  row_removal_keeps is =
      let from = is ∙ ap (λ (x : Matrix). without_row x i) same in (
        ap (λ (x : Matrix). x.size) from ∙ size_kept (row a i) a,
        ap (λ (x : Matrix). x.active_rows) from ∙ ap (λ (on : List Bool). set on i false) (active_rows_kept (row a i) a),
        ap (λ (x : Matrix). x.active_cols) from ∙ active_cols_kept (row a i) a,
      )

  pub col_removal_keeps : b ≡ without_col m i → (b.size ≡ a.size) × (b.active_rows ≡ a.active_rows) × (b.active_cols ≡ set a.active_cols i false)
  col_removal_keeps is =
      let from = is ∙ ap (λ (x : Matrix). without_col x i) same in (
        ap (λ (x : Matrix). x.size) from ∙ size_kept (col a i) a,
        ap (λ (x : Matrix). x.active_rows) from ∙ active_rows_kept (col a i) a,
        ap (λ (x : Matrix). x.active_cols) from ∙ ap (λ (on : List Bool). set on i false) (active_cols_kept (col a i) a),
      )

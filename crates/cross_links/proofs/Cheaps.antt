-- How the flags and the lists of columns of one entry follow the matrix.
use Rattle.std.proofs.Common.{◌≡◌, ◌≢◌, ℕ, ◌<◌, ◌≤◌, List, [], ◌∷◌, ◌++◌, length, map, set, replicate, is_some, Bool, false, Option, Some, None, slice_get, refl, sym, ap, subst, ◌∙◌, ⊎_elim, ◌⊎◌, inl, inr, arith, length-set, get_or-set_same, get_or-set_other}
use Rattle.std.specs.List.{Contains}
use Rattle.std.specs.Option.{IfSome}
use Rattle.std.proofs.lemmas.Bool.{cases_eq}
use Rattle.std.proofs.Math.ListN.{get_or-map}
use Rattle.std.proofs.lemmas.List.{length-map, length-replicate}
use Rattle.rational.specs.Rational.{ℚ}
use Rattle.chain_links.specs.Lists.{without}
use Rattle.chain_links.proofs.Rest.{nothing_contains, contains_one, one_contains}
use Rattle.flag_tree.specs.Flags.{is_set, NoneSet}
use Rattle.count_chain.specs.Chains.{Chains, list_at, IsPlaced, with_item, without_item, IsChained}
use Rattle.cross_links.specs.declared.cheap.Cheap.{Cheap}
use Rattle.cross_links.specs.Matrix.{Entry, Matrix, line, row, col, at_link, entry_at, row_in, col_in, row_of, col_of, IsLink, IsMatrix, IsFilled, with_value, without_entry}
use Rattle.cross_links.specs.Cheap.{is_one, has_some, lone_in, lone_row, taken, placed, IsFlagged, IsCheap}
use Rattle.cross_links.proofs.Buckets.{item_in, item_held, others_held, left_in, left_held, line_within, without-absent, list_at-without_other, IsChained-none, empty_lists}
use Rattle.cross_links.proofs.Entries.{none_some, link_within}
use Rattle.cross_links.proofs.Loads.{col_other}

-- the one entry of a list
pub lone_in-same : (es es' : List (Option Entry)) (ls : List ℕ) → ((k : ℕ) → Contains ls k → row_in (at_link es' k) ≡ row_in (at_link es k)) → lone_in es' ls ≡ lone_in es ls
lone_in-same es es' [] same = refl
lone_in-same es es' (l ∷ []) same = ap Some (same l (one_contains l))
lone_in-same es es' (l ∷ (k ∷ ls)) same = refl

pub lone_in-some : (es : List (Option Entry)) (ls : List ℕ) (r : ℕ) → lone_in es ls ≡ Some r → (l : ℕ) × (ls ≡ l ∷ []) × (row_in (at_link es l) ≡ r)
lone_in-some es [] r is = absurd (cc)
lone_in-some es (l ∷ []) r is = (l, refl, cc)
lone_in-some es (l ∷ (k ∷ ls)) r is = absurd (cc)

pub one_item : (ls : List ℕ) (l : ℕ) → length ls ≡ 1 → Contains ls l → ls ≡ l ∷ []
one_item [] l one held = absurd (omega arith)
one_item (x ∷ []) l one held = ap (λ (y : ℕ). y ∷ []) (sym (contains_one x l held))
one_item (x ∷ (y ∷ ls)) l one held = absurd (omega arith)

pub lone_in-one : (es : List (Option Entry)) (ls : List ℕ) (l : ℕ) → length ls ≡ 1 → Contains ls l → lone_in es ls ≡ Some (row_in (at_link es l))
lone_in-one es ls l one held = ap (lone_in es) (one_item ls l one held)

-- an item out of a list and into another
taken_in : (ch : Chains) (c : ℕ) (o : Option ℕ) (i d : ℕ) → (o ≡ None → (j : ℕ) → Contains (list_at ch j) c → ⊥) → Contains (list_at (taken ch c o) i) d → (d ≢ c) × Contains (list_at ch i) d
taken_in ch c None i d loose held = (λ e. loose refl i (subst (λ (x : ℕ). Contains (list_at ch i) x) e held), held)
taken_in ch c (Some r) i d loose held = left_in ch c i d held

taken_held : (ch : Chains) (c : ℕ) (o : Option ℕ) (i d : ℕ) → d ≢ c → Contains (list_at ch i) d → Contains (list_at (taken ch c o) i) d
taken_held ch c None i d ne held = held
taken_held ch c (Some r) i d ne held = left_held ch c i d ne held

placed_in : (ch : Chains) (c : ℕ) (o : Option ℕ) (i d : ℕ) → IfSome o (λ r. r < length ch.lists) → Contains (list_at (placed ch c o) i) d → ((d ≡ c) × (o ≡ Some i)) ⊎ Contains (list_at ch i) d
placed_in ch c None i d lt held = inr held
placed_in ch c (Some r) i d lt held =
    ⊎_elim (λ (new : (d ≡ c) × (i ≡ r)). inl (new.0, ap Some (sym new.1))) (λ (old : Contains (list_at ch i) d). inr old) (item_in ch c r i d lt held)

placed_held : (ch : Chains) (c : ℕ) (o : Option ℕ) (i d : ℕ) → IfSome o (λ r. r < length ch.lists) → Contains (list_at ch i) d → Contains (list_at (placed ch c o) i) d
placed_held ch c None i d lt held = held
placed_held ch c (Some r) i d lt held = others_held ch c r i d lt held

placed_new : (ch : Chains) (c : ℕ) (o : Option ℕ) (i : ℕ) → o ≡ Some i → i < length ch.lists → Contains (list_at (placed ch c o) i) c
placed_new ch c None i is lt = absurd (cc)
placed_new ch c (Some r) i is lt = let e : r ≡ i = cc in subst (λ (x : ℕ). Contains (list_at (with_item ch c r) x) c) e (item_held ch c r (omega (arith, e)))

pub length-taken : (ch : Chains) (c : ℕ) (o : Option ℕ) → (length (taken ch c o).lists ≡ length ch.lists) × ((taken ch c o).items ≡ ch.items)
length-taken ch c None = (refl, refl)
length-taken ch c (Some r) = (length-map ch.lists (without c), refl)

length-placed : (ch : Chains) (c : ℕ) (o : Option ℕ) → (length (placed ch c o).lists ≡ length ch.lists) × ((placed ch c o).items ≡ ch.items)
length-placed ch c None = (refl, refl)
length-placed ch c (Some r) = (length-set ch.lists r (list_at ch r ++ c ∷ []), refl)

-- what was in no list, or was taken out of its list, is in none
pub loose_after : (ch : Chains) (c : ℕ) (o : Option ℕ) → (o ≡ None → (j : ℕ) → Contains (list_at ch j) c → ⊥) → IsPlaced (taken ch c o) c → ⊥
loose_after ch c o loose (i, within, held) = (taken_in ch c o i c loose held).0 refl

-- the same rows and columns
pub IsCheap-same : (a b : Matrix) (h : Cheap) → IsCheap a h → b.size ≡ a.size → b.rows ≡ a.rows → ((c : ℕ) → lone_row b c ≡ lone_row a c) → IsCheap b h
IsCheap-same a b h ok size rows cols = record {
  singles_len = omega (arith, ok.singles_len);
  singles = λ r. ok.singles r ∙ ap (λ (ls : List (List ℕ)). is_one (row (record a { rows = ls }) r)) (sym rows);
  flagged = ok.flagged;
  items = ok.items ∙ sym size;
  lists = ok.lists ∙ sym size;
  held = λ c r is. ok.held c r (sym (cols c) ∙ is);
  only = λ c r held. cols c ∙ ok.only c r held;
}

-- columns without the link have the same entries
lone_other : (a b : Matrix) (l : ℕ) → ((k : ℕ) → k ≢ l → entry_at b k ≡ entry_at a k) → (d : ℕ) → col b d ≡ col a d → (Contains (col a d) l → ⊥) → lone_row b d ≡ lone_row a d
lone_other a b l entries d same lacks =
    ap (lone_in b.entries) same ∙ lone_in-same a.entries b.entries (col a d) (λ k held. ap row_in (entries k (λ e. lacks (subst (λ (x : ℕ). Contains (col a d) x) e held))))

-- a column without a lone entry is in no list
lone_loose : (a : Matrix) (c : ℕ) (h : Cheap) → IsCheap a h → lone_row a c ≡ None → (j : ℕ) → Contains (list_at h.lone j) c → ⊥
lone_loose a c h ok none j held = let some = ok.only c j held in absurd (cc)

pub loose_from : (a : Matrix) (c : ℕ) (h h' : Cheap) (before : Option ℕ) → IsCheap a h → before ≡ lone_row a c → h'.lone ≡ taken h.lone c before → IsPlaced h'.lone c → ⊥
loose_from a c h h' before ok is lone held =
    loose_after h.lone c before (λ none. lone_loose a c h ok (sym is ∙ none)) (subst (λ (ch : Chains). IsPlaced ch c) lone held)

module _ (a b : Matrix) (r c : ℕ) (h : Cheap) (ok : IsCheap a h) where
  -- row r and column c change
  IsCheap-changed : (h' : Cheap) → b.size ≡ a.size → r < a.size → c < a.size → ((i : ℕ) → i ≢ r → row b i ≡ row a i)
      → ((d : ℕ) → d ≢ c → lone_row b d ≡ lone_row a d) → IfSome (lone_row b c) (λ i. i < a.size) → h'.singles ≡ set h.singles r (is_one (row b r))
      → h'.lone ≡ placed (taken h.lone c (lone_row a c)) c (lone_row b c) → IsFlagged h' → IsCheap b h'
  IsCheap-changed h' size r_lt c_lt rows cols after singles lone flagged =
      let mid = taken h.lone c (lone_row a c) in
      let end = placed mid c (lone_row b c) in
      let lens : length mid.lists ≡ a.size = (length-taken h.lone c (lone_row a c)).0 ∙ ok.lists in
      let fits : IfSome (lone_row b c) (λ i. i < length mid.lists) = subst (λ (n : ℕ). IfSome (lone_row b c) (λ i. i < n)) (sym lens) after in
      record {
        singles_len = omega (arith, ap length singles, length-set h.singles r (is_one (row b r)), ok.singles_len, size);
        singles = λ i. ap (λ (bools : List Bool). is_set bools i) singles ∙ ⊎_elim
            (λ (e : i ≡ r). ap (is_set (set h.singles r (is_one (row b r)))) e ∙ get_or-set_same h.singles r (is_one (row b r)) false
            (omega (arith, ok.singles_len)) ∙ ap (λ (x : ℕ). is_one (row b x)) (sym e))
            (λ (ne : i ≢ r). get_or-set_other h.singles r i (is_one (row b r)) false ne ∙ ok.singles i ∙ ap is_one (sym (rows i ne)))
            (cases_eq i r);
        flagged = flagged;
        items = ap (λ (ch : Chains). ch.items) lone ∙ (length-placed mid c (lone_row b c)).1 ∙ (length-taken h.lone c (lone_row a c)).1 ∙ ok.items ∙ sym size;
        lists = ap (λ (ch : Chains). length ch.lists) lone ∙ (length-placed mid c (lone_row b c)).0 ∙ lens ∙ sym size;
        held = λ d i is. subst (λ (ch : Chains). Contains (list_at ch i) d) (sym lone) (⊎_elim
            (λ (e : d ≡ c).
            let here : lone_row b c ≡ Some i = ap (lone_row b) (sym e) ∙ is in
            let below : i < a.size = subst (λ (o : Option ℕ). IfSome o (λ x. x < a.size)) here after in
            subst (λ (x : ℕ). Contains (list_at end i) x) (sym e) (placed_new mid c (lone_row b c) i here (omega (arith, lens))))
            (λ (ne : d ≢ c). placed_held mid c (lone_row b c) i d fits (taken_held h.lone c (lone_row a c) i d ne (ok.held d i (sym (cols d ne) ∙ is))))
            (cases_eq d c));
        only = λ d i held. ⊎_elim
            (λ (new : (d ≡ c) × (lone_row b c ≡ Some i)). ap (lone_row b) new.0 ∙ new.1)
            (λ (old : Contains (list_at mid i) d).
            let was = taken_in h.lone c (lone_row a c) i d (lone_loose a c h ok) old in
            cols d was.0 ∙ ok.only d i was.1)
            (placed_in mid c (lone_row b c) i d fits (subst (λ (ch : Chains). Contains (list_at ch i) d) lone held));
      }

  -- by the calls that follow the change
  pub IsCheap-followed : (h1 h2 h3 : Cheap) (before after : Option ℕ) (single : Bool) → b.size ≡ a.size → r < a.size → c < a.size
      → ((i : ℕ) → i ≢ r → row b i ≡ row a i) → ((d : ℕ) → d ≢ c → lone_row b d ≡ lone_row a d) → IfSome after (λ i. i < b.size) → before ≡ lone_row a c
      → after ≡ lone_row b c → single ≡ is_one (row b r) → h1.lone ≡ taken h.lone c before → h1.singles ≡ h.singles → h2.lone ≡ placed h1.lone c after
      → h2.singles ≡ h1.singles → IsFlagged h2 → h3.singles ≡ set h2.singles r single → h3.lone ≡ h2.lone → h3.holders ≡ h2.holders → IsCheap b h3
  IsCheap-followed h1 h2 h3 before after single size r_lt c_lt rows lones below was now one lone1 singles1 lone2 singles2 flagged singles3 lone3 holders3 =
      let lone : h3.lone ≡ placed (taken h.lone c (lone_row a c)) c (lone_row b c) = lone3 ∙ lone2
      ∙ ap (λ (ch : Chains). placed ch c after) (lone1 ∙ ap (taken h.lone c) was) ∙ ap (placed (taken h.lone c (lone_row a c)) c) now in
      let fits : IfSome (lone_row b c) (λ i. i < a.size) = subst (λ (o : Option ℕ). IfSome o (λ i. i < a.size)) now (subst (λ (n : ℕ). IfSome after (λ i. i < n)) size below) in
      let flags : IsFlagged h3 = record {
        len = omega (arith, flagged.len, ap (λ (ch : Chains). length ch.lists) lone3, ap (λ (bools : List Bool). length bools) holders3);
        flags = λ i. ap (λ (bools : List Bool). is_set bools i) holders3 ∙ flagged.flags i ∙ ap (λ (ch : Chains). has_some (list_at ch i)) (sym lone3);
        chained = subst IsChained (sym lone3) flagged.chained;
      } in
      IsCheap-changed h3 size r_lt c_lt rows lones fits (singles3 ∙ ap (λ (bools : List Bool). set bools r single) (singles2 ∙ singles1) ∙ ap (set h.singles r) one) lone flags

line_untouched : (lines : List (List ℕ)) (l i : ℕ) → (Contains (line lines i) l → ⊥) → line (map (without l) lines) i ≡ line lines i
line_untouched lines l i lacks = get_or-map (without l) lines i [] ∙ without-absent l (line lines i) lacks

-- an entry goes
module _ (a b : Matrix) (l : ℕ) (e : Entry) (m : IsMatrix a) (here : entry_at a l ≡ Some e) (is : b ≡ without_entry a l) where
  pub row_left : (i : ℕ) → i ≢ e.0 → row b i ≡ row a i
  row_left i ne = ap (λ (x : Matrix). row x i) is ∙ line_untouched a.rows l i (λ held. ne (sym (m.rows.only i l held).1 ∙ ap row_in here))

  pub lone_left : (d : ℕ) → d ≢ e.1 → lone_row b d ≡ lone_row a d
  lone_left d ne =
      let lacks : Contains (col a d) l → ⊥ = λ held. ne (sym (m.cols.only d l held).1 ∙ ap col_in here) in
      lone_other a b l (λ k other. ap (λ (x : Matrix). entry_at x k) is ∙ get_or-set_other a.entries l k None None other) d (ap (λ (x : Matrix). col x d) is ∙ line_untouched a.cols l d lacks) lacks

-- an entry comes
module _ (a b : Matrix) (l : ℕ) (e : Entry) (m : IsMatrix a) (f : IsFilled a l e b) where
  pub row_other : (i : ℕ) → i ≢ e.0 → row b i ≡ row a i
  row_other i ne = ap (λ (rs : List (List ℕ)). line rs i) f.rows ∙ get_or-set_other a.rows e.0 i _ [] ne

  pub lone_stays : (d : ℕ) → d ≢ e.1 → lone_row b d ≡ lone_row a d
  lone_stays d ne = lone_other a b l f.others d (col_other a b l e m f d ne) (λ held. none_some _ f.free (m.cols.only d l held).0)

-- a value changes
pub IsCheap-valued : (a b : Matrix) (l : ℕ) (v : ℚ) (h : Cheap) → IsCheap a h → IsLink a l → b ≡ with_value a l v → IsCheap b h
IsCheap-valued a b l v h ok some is =
    let row_same : (k : ℕ) → row_in (entry_at b k) ≡ row_in (entry_at a k) = λ k. ap (λ (x : Matrix). row_in (entry_at x k)) is ∙ ⊎_elim
    (λ (e : k ≡ l). ap (λ (x : ℕ). row_in (entry_at (with_value a l v) x)) e ∙ ap row_in
    (get_or-set_same a.entries l (Some (row_of a l, col_of a l, v)) None (link_within a.entries l some)) ∙ ap (row_of a) (sym e))
    (λ (ne : k ≢ l). ap row_in (get_or-set_other a.entries l k (Some (row_of a l, col_of a l, v)) None ne))
    (cases_eq k l) in
    IsCheap-same a b h ok (ap (λ (x : Matrix). x.size) is) (ap (λ (x : Matrix). x.rows) is)
    (λ c. ap (λ (x : Matrix). lone_in b.entries (col x c)) is ∙ lone_in-same a.entries b.entries (col a c) (λ k held. row_same k))

-- nothing stands anywhere
pub IsFlagged-new : (n : ℕ) (h : Cheap) → h.lone ≡ record { items = n; lists = replicate n [] } → n ≤ length h.holders → NoneSet h.holders → IsFlagged h
IsFlagged-new n h is len none = record {
  len = omega (arith, ap (λ (ch : Chains). length ch.lists) is, length-replicate {A = List ℕ} n []);
  flags = λ r. none r ∙ ap has_some (sym (ap (λ (ch : Chains). list_at ch r) is ∙ empty_lists n r));
  chained = IsChained-none n n h.lone is;
}

pub IsCheap-new : (n : ℕ) (a : Matrix) (h : Cheap) → a.size ≡ n → a.rows ≡ replicate n [] → a.cols ≡ replicate n [] → n ≤ length h.singles → NoneSet h.singles
    → h.lone ≡ record { items = n; lists = replicate n [] } → IsFlagged h → IsCheap a h
IsCheap-new n a h size rows cols len none is flagged = record {
  singles_len = omega (arith, size, len);
  singles = λ r. none r ∙ ap is_one (sym (ap (λ (ls : List (List ℕ)). line ls r) rows ∙ empty_lists n r));
  flagged = flagged;
  items = ap (λ (ch : Chains). ch.items) is ∙ sym size;
  lists = ap (λ (ch : Chains). length ch.lists) is ∙ length-replicate {A = List ℕ} n [] ∙ sym size;
  held = λ c r some. let no : lone_row a c ≡ None = ap (λ (ls : List (List ℕ)). lone_in a.entries (line ls c)) cols ∙ ap (lone_in a.entries) (empty_lists n c) in absurd (cc);
  only = λ c r held. absurd (nothing_contains c (subst (λ (xs : List ℕ). Contains xs c) (ap (λ (ch : Chains). list_at ch r) is ∙ empty_lists n r) held));
}

-- a column is taken out of the list of row r
pub IsFlagged-taken : (h h' : Cheap) (c r : ℕ) (left : Bool) → IsFlagged h → Contains (list_at h.lone r) c → h'.lone ≡ without_item h.lone c → IsChained h'.lone
    → h'.holders ≡ set h.holders r left → left ≡ has_some (list_at h'.lone r) → IsFlagged h'
IsFlagged-taken h h' c r left ok held is chained holders here =
    let within : r < length h.holders = omega (arith, ok.len, line_within h.lone r c held) in
    record {
      len = omega (arith, ok.len, ap (λ (ch : Chains). length ch.lists) is, length-map h.lone.lists (without c), ap (λ (bools : List Bool). length bools) holders, length-set h.holders r left);
      flags = λ i. ap (λ (bools : List Bool). is_set bools i) holders ∙ ⊎_elim
          (λ (e : i ≡ r). ap (is_set (set h.holders r left)) e ∙ get_or-set_same h.holders r left false within ∙ here ∙ ap (λ (x : ℕ). has_some (list_at h'.lone x)) (sym e))
          (λ (ne : i ≢ r). get_or-set_other h.holders r i left false ne ∙ ok.flags i
          ∙ ap has_some (sym (ap (λ (ch : Chains). list_at ch i) is ∙ list_at-without_other h.lone c r i ok.chained held ne)))
          (cases_eq i r);
      chained = chained;
    }

pub has_some-first : (xs : List ℕ) → is_some (slice_get xs 0) ≡ has_some xs
has_some-first [] = refl
has_some-first (x ∷ xs) = refl

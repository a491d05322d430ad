-- How the buckets follow the counts of the lines.
use Rattle.std.proofs.Common.{◌≡◌, ◌≢◌, ℕ, ◌+◌, ◌-◌, ◌<◌, ◌≤◌, List, [], ◌∷◌, ◌++◌, length, get_or, set, Bool, true, false, eqb, refl, sym, ap, subst, ◌∙◌, ⊎_elim, ◌⊎◌, inl, inr, arith, replicate, length-set, length-append, get_or-set_same, get_or-set_other}
use Rattle.std.specs.List.{Contains, IsDistinct}
use Rattle.std.proofs.Math.ListN.{get_or-map}
use Rattle.std.proofs.lemmas.List.{length-map, get_or_past, get_or-replicate, length-replicate, get_or_read}
use Rattle.std.proofs.lemmas.List.Elements.{All-nil, Contains-append_left, Contains-append_right, Contains-append_cases}
use Rattle.std.proofs.lemmas.Bool.{cases_eq, cases_lt, both_ways}
use Rattle.std.proofs.lemmas.Map.Keys.{IsDistinct-head, IsDistinct-tail}
use Rattle.chain_links.specs.Lists.{has, without}
use Rattle.chain_links.proofs.Paths.{without-same, without-other}
use Rattle.chain_links.proofs.Rings.{has-from_Contains, Contains-from_has, has-without_same, has-without_other}
use Rattle.chain_links.proofs.Rest.{contains_one, one_contains, nothing_contains, cons_cases, head_contains, tail_contains, head_other}
use Rattle.count_chain.specs.Chains.{Chains, list_at, IsPlaced, with_item, without_item, IsChained}
use Rattle.cross_links.specs.declared.side.Side.{Side}
use Rattle.cross_links.specs.Matrix.{is_active}
use Rattle.cross_links.specs.Sides.{IsKept, IsBucketed}

-- an item more
pub item_in : (ch : Chains) (i k j x : ℕ) → k < length ch.lists → Contains (list_at (with_item ch i k) j) x → ((x ≡ i) × (j ≡ k)) ⊎ Contains (list_at ch j) x
item_in ch i k j x lt h =
    ⊎_elim
    (λ (e : j ≡ k).
    let here : list_at (with_item ch i k) j ≡ list_at ch j ++ i ∷ [] = rw e (get_or-set_same ch.lists k (list_at ch k ++ i ∷ []) [] lt) in
    ⊎_elim
    (λ (old : Contains (list_at ch j) x). inr old)
    (λ (one : Contains (i ∷ []) x). inl (contains_one i x one, e))
    (Contains-append_cases (list_at ch j) (i ∷ []) x (subst (λ xs. Contains xs x) here h)))
    (λ (ne : j ≢ k). inr (subst (λ xs. Contains xs x) (get_or-set_other ch.lists k j (list_at ch k ++ i ∷ []) [] ne) h))
    (cases_eq j k)

pub item_held : (ch : Chains) (i k : ℕ) → k < length ch.lists → Contains (list_at (with_item ch i k) k) i
item_held ch i k lt =
    subst (λ xs. Contains xs i) (sym (get_or-set_same ch.lists k (list_at ch k ++ i ∷ []) [] lt)) (Contains-append_right (list_at ch k) (i ∷ []) i (one_contains i))

pub others_held : (ch : Chains) (i k j x : ℕ) → k < length ch.lists → Contains (list_at ch j) x → Contains (list_at (with_item ch i k) j) x
others_held ch i k j x lt h =
    ⊎_elim
    (λ (e : j ≡ k).
    let here : list_at (with_item ch i k) j ≡ list_at ch j ++ i ∷ [] = rw e (get_or-set_same ch.lists k (list_at ch k ++ i ∷ []) [] lt) in
    subst (λ xs. Contains xs x) (sym here) (Contains-append_left (list_at ch j) (i ∷ []) x h))
    (λ (ne : j ≢ k). subst (λ xs. Contains xs x) (sym (get_or-set_other ch.lists k j (list_at ch k ++ i ∷ []) [] ne)) h)
    (cases_eq j k)

-- an item less
pub list_at-without_item : (ch : Chains) (i j : ℕ) → list_at (without_item ch i) j ≡ without i (list_at ch j)
list_at-without_item ch i j = get_or-map (without i) ch.lists j []

pub left_in : (ch : Chains) (i j x : ℕ) → Contains (list_at (without_item ch i) j) x → (x ≢ i) × Contains (list_at ch j) x
left_in ch i j x h =
    let held : has x (without i (list_at ch j)) ≡ true = has-from_Contains x _ (subst (λ xs. Contains xs x) (list_at-without_item ch i j) h) in
    let ne : x ≢ i = λ e. both_ways _ (has-without_same i (list_at ch j)) (subst (λ y. has y (without i (list_at ch j)) ≡ true) e held) in
    (ne, Contains-from_has x (list_at ch j) (sym (has-without_other i x (list_at ch j) ne) ∙ held))

pub left_held : (ch : Chains) (i j x : ℕ) → x ≢ i → Contains (list_at ch j) x → Contains (list_at (without_item ch i) j) x
left_held ch i j x ne h =
    subst (λ xs. Contains xs x) (sym (list_at-without_item ch i j)) (Contains-from_has x _ (has-without_other i x (list_at ch j) ne ∙ has-from_Contains x _ h))

-- the lengths of the lists
pub length-with_item_same : (ch : Chains) (i k : ℕ) → k < length ch.lists → length (list_at (with_item ch i k) k) ≡ length (list_at ch k) + 1
length-with_item_same ch i k lt =
    ap length (get_or-set_same ch.lists k (list_at ch k ++ i ∷ []) [] lt) ∙ length-append (list_at ch k) (i ∷ [])

pub list_at-with_item_other : (ch : Chains) (i k j : ℕ) → j ≢ k → list_at (with_item ch i k) j ≡ list_at ch j
list_at-with_item_other ch i k j ne = get_or-set_other ch.lists k j (list_at ch k ++ i ∷ []) [] ne

pub without-absent : (i : ℕ) (xs : List ℕ) → (Contains xs i → ⊥) → without i xs ≡ xs
without-absent i [] lacks = refl
without-absent i (y ∷ ys) lacks =
    without-other i y ys (λ e. lacks (subst (λ (z : ℕ). Contains (y ∷ ys) z) e (head_contains y ys))) ∙ ap (λ zs. y ∷ zs) (without-absent i ys (λ h. lacks (tail_contains y ys i h)))

pub not_in_tail : (y : ℕ) (ys : List ℕ) → IsDistinct eqb (y ∷ ys) → Contains ys y → ⊥
not_in_tail y ys once held = head_other y y ys (IsDistinct-head eqb y ys once) held refl

-- the first item taken out
pub without-head : (y : ℕ) (ys : List ℕ) → IsDistinct eqb (y ∷ ys) → without y (y ∷ ys) ≡ ys
without-head y ys once = without-same y y ys refl ∙ without-absent y ys (not_in_tail y ys once)

pub length-without : (i : ℕ) (xs : List ℕ) → IsDistinct eqb xs → Contains xs i → length (without i xs) + 1 ≡ length xs
length-without i [] once held = absurd (nothing_contains i held)
length-without i (y ∷ ys) once held =
    ⊎_elim
    (λ (e : i ≡ y). let left : without i (y ∷ ys) ≡ ys = subst (λ (z : ℕ). without z (y ∷ ys) ≡ ys) (sym e) (without-head y ys once) in omega (arith, ap length left))
    (λ (later : Contains ys i).
    let ne : y ≢ i = λ e. not_in_tail y ys once (subst (λ (z : ℕ). Contains ys z) (sym e) later) in
    let rest : length (without i ys) + 1 ≡ length ys = length-without i ys (IsDistinct-tail eqb y ys once) later in
    omega (arith, ap length (without-other i y ys ne), rest))
    (cons_cases y ys i held)

pub list_at-without_other : (ch : Chains) (i k j : ℕ) → IsChained ch → Contains (list_at ch k) i → j ≢ k → list_at (without_item ch i) j ≡ list_at ch j
list_at-without_other ch i k j chained held ne =
    list_at-without_item ch i j ∙ without-absent i (list_at ch j) (λ h. ne (chained.apart j k i h held))

pub length-without_item_same : (ch : Chains) (i k : ℕ) → IsChained ch → Contains (list_at ch k) i → length (list_at (without_item ch i) k) + 1 ≡ length (list_at ch k)
length-without_item_same ch i k chained held =
    ap (λ ys. length ys + 1) (list_at-without_item ch i k) ∙ length-without i (list_at ch k) (chained.once k) held

-- a line of another count in another bucket
pub IsBucketed-moved : (ch ch' : Chains) (active : List Bool) (bs bs' : Chains) (i k : ℕ) → IsBucketed ch active bs → is_active active i ≡ true
    → length ch'.lists ≡ length ch.lists → length (list_at ch' i) ≡ k → ((x : ℕ) → x ≢ i → length (list_at ch' x) ≡ length (list_at ch x)) → k < length bs.lists
    → bs' ≡ with_item (without_item bs i) i k → IsChained bs' → IsBucketed ch' active bs'
IsBucketed-moved ch ch' active bs bs' i k h act len here others le is chained =
    let below : k < length (without_item bs i).lists = omega (arith, length-map bs.lists (without i)) in
    let to = λ (c : Chains) (j x : ℕ). Contains (list_at c j) x in
    record {
      items = ap (λ (c : Chains). c.items) is ∙ h.items ∙ sym len;
      lists = ap (λ (c : Chains). length c.lists) is ∙ length-set (without_item bs i).lists k _ ∙ length-map bs.lists (without i) ∙ h.lists ∙ ap (λ (n : ℕ). n + 1) (sym len);
      chained = chained;
      placed = λ x on. ⊎_elim
          (λ (e : x ≡ i). subst (λ (y : ℕ). to bs' (length (list_at ch' y)) y) (sym e)
          (subst (λ (m : ℕ). to bs' m i) (sym here) (subst (λ (c : Chains). to c k i) (sym is) (item_held (without_item bs i) i k below))))
          (λ (ne : x ≢ i). subst (λ (m : ℕ). to bs' m x) (sym (others x ne)) (subst (λ (c : Chains). to c (length (list_at ch x)) x) (sym is)
          (others_held (without_item bs i) i k _ x below (left_held bs i _ x ne (h.placed x on)))))
          (cases_eq x i);
      counted = λ x j held. ⊎_elim
          (λ (new : (x ≡ i) × (j ≡ k)). (ap (is_active active) new.0 ∙ act, ap (λ (y : ℕ). length (list_at ch' y)) new.0 ∙ here ∙ sym new.1))
          (λ (old : Contains (list_at (without_item bs i) j) x).
          let was = left_in bs i j x old in
          let then = h.counted x j was.1 in
          (then.0, others x was.0 ∙ then.1))
          (item_in (without_item bs i) i k j x below (subst (λ (c : Chains). to c j x) is held));
    }

pub IsKept-moved : (s s' : Side) (i k : ℕ) → IsKept s → i < length s.lines.lists → is_active s.active.items i ≡ true → IsChained s'.lines
    → length s'.lines.lists ≡ length s.lines.lists → length (list_at s'.lines i) ≡ k
    → ((x : ℕ) → x ≢ i → length (list_at s'.lines x) ≡ length (list_at s.lines x)) → k < length s.buckets.lists → s'.counts.items ≡ set s.counts.items i k
    → s'.active.items ≡ s.active.items → s'.buckets ≡ with_item (without_item s.buckets i) i k → IsChained s'.buckets → IsKept s'
IsKept-moved s s' i k h lt act chained len here others le counts active is bucket_chained =
    record {
      chained = chained;
      counts_len = ap length counts ∙ length-set s.counts.items i k ∙ h.counts_len ∙ sym len;
      counts = λ x. ⊎_elim
          (λ (e : x ≡ i). rw e (ap (λ (cs : List ℕ). get_or cs i 0) counts ∙ get_or-set_same s.counts.items i k 0 (omega (arith, h.counts_len)) ∙ sym here))
          (λ (ne : x ≢ i). ap (λ (cs : List ℕ). get_or cs x 0) counts ∙ get_or-set_other s.counts.items i x k 0 ne ∙ h.counts x ∙ sym (others x ne))
          (cases_eq x i);
      active_len = ap length active ∙ h.active_len ∙ sym len;
      bucketed = subst (λ (bools : List Bool). IsBucketed s'.lines bools s'.buckets) (sym active)
          (IsBucketed-moved s.lines s'.lines s.active.items s.buckets s'.buckets i k h.bucketed act len here others le is bucket_chained);
    }

-- the count of a line that was read, changed and read again
module _ (s s' : Side) (i l was k : ℕ) (h : IsKept s) (lt : i < length s.lines.lists) (act : is_active s.active.items i ≡ true) (read : was ≡ get_or s.counts.items i was) where
  was_count : was ≡ length (list_at s.lines i)
  was_count = get_or_read s.counts.items i was (omega (arith, h.counts_len)) read 0 ∙ h.counts i

  pub IsKept-linked : length (list_at s.lines i) < length s.lines.lists → s'.lines ≡ with_item s.lines l i → IsChained s'.lines
      → k ≡ get_or (set s.counts.items i (was + 1)) i k → s'.counts.items ≡ set s.counts.items i (was + 1) → s'.active.items ≡ s.active.items
      → s'.buckets ≡ with_item (without_item s.buckets i) i k → IsChained s'.buckets → IsKept s'
  IsKept-linked fits is chained again counts active buckets bucket_chained =
      let k_is : k ≡ was + 1 = again ∙ get_or-set_same s.counts.items i (was + 1) k (omega (arith, h.counts_len)) in
      let here : length (list_at s'.lines i) ≡ k = ap (λ (c : Chains). length (list_at c i)) is ∙ length-with_item_same s.lines l i lt ∙ omega (arith, was_count, k_is) in
      IsKept-moved s s' i k h lt act chained (ap (λ (c : Chains). length c.lists) is ∙ length-set s.lines.lists i _) here
      (λ x ne. ap (λ (c : Chains). length (list_at c x)) is ∙ ap length (list_at-with_item_other s.lines l i x ne))
      (omega (arith, was_count, k_is, h.bucketed.lists)) (counts ∙ ap (set s.counts.items i) (sym k_is)) active buckets bucket_chained

  pub IsKept-unlinked : Contains (list_at s.lines i) l → length (list_at s.lines i) < length s.buckets.lists → s'.lines ≡ without_item s.lines l
      → IsChained s'.lines → k ≡ get_or (set s.counts.items i (was - 1)) i k → s'.counts.items ≡ set s.counts.items i (was - 1)
      → s'.active.items ≡ s.active.items → s'.buckets ≡ with_item (without_item s.buckets i) i k → IsChained s'.buckets → IsKept s'
  IsKept-unlinked held fits is chained again counts active buckets bucket_chained =
      let k_is : k ≡ was - 1 = again ∙ get_or-set_same s.counts.items i (was - 1) k (omega (arith, h.counts_len)) in
      let less = length-without_item_same s.lines l i h.chained held in
      let here : length (list_at s'.lines i) ≡ k = ap (λ (c : Chains). length (list_at c i)) is ∙ omega (arith, less, was_count, k_is) in
      IsKept-moved s s' i k h lt act chained (ap (λ (c : Chains). length c.lists) is ∙ length-map s.lines.lists (without l)) here
      (λ x ne. ap (λ (c : Chains). length (list_at c x)) is ∙ ap length (list_at-without_other s.lines l i x h.chained held ne))
      (omega (arith, less, was_count, k_is)) (counts ∙ ap (set s.counts.items i) (sym k_is)) active buckets bucket_chained

-- a line that holds an item is a line
pub line_within : (ch : Chains) (i l : ℕ) → Contains (list_at ch i) l → i < length ch.lists
line_within ch i l held =
    ⊎_elim (λ (lt : i < length ch.lists). lt) (λ (le : length ch.lists ≤ i). absurd
    (nothing_contains l (subst (λ xs. Contains xs l) (get_or_past ch.lists i [] le) held))) (cases_lt i (length ch.lists))

-- an empty line out of its bucket
pub IsKept-retired : (s s' : Side) (i : ℕ) → IsKept s → i < length s.lines.lists → s'.lines ≡ s.lines → s'.counts.items ≡ s.counts.items
    → s'.active.items ≡ set s.active.items i false → s'.buckets ≡ without_item s.buckets i → IsChained s'.buckets → IsKept s'
IsKept-retired s s' i h lt lines counts active is chained =
    let within : i < length s.active.items = omega (arith, h.active_len) in
    let off : is_active s'.active.items i ≡ false = ap (λ (bools : List Bool). is_active bools i) active ∙ get_or-set_same s.active.items i false false within in
    let other = λ (x : ℕ) (ne : x ≢ i). ap (λ (bools : List Bool). is_active bools x) active ∙ get_or-set_other s.active.items i x false false ne in
    let same = λ (x : ℕ). ap (λ (c : Chains). length (list_at c x)) lines in
    let lens = ap (λ (c : Chains). length c.lists) lines in
    record {
      chained = subst IsChained (sym lines) h.chained;
      counts_len = ap length counts ∙ h.counts_len ∙ sym lens;
      counts = λ x. ap (λ (cs : List ℕ). get_or cs x 0) counts ∙ h.counts x ∙ sym (same x);
      active_len = ap length active ∙ length-set s.active.items i false ∙ h.active_len ∙ sym lens;
      bucketed = record {
        items = ap (λ (c : Chains). c.items) is ∙ h.bucketed.items ∙ sym lens;
        lists = ap (λ (c : Chains). length c.lists) is ∙ length-map s.buckets.lists (without i) ∙ h.bucketed.lists ∙ ap (λ (n : ℕ). n + 1) (sym lens);
        chained = chained;
        placed = λ x on. ⊎_elim
            (λ (e : x ≡ i). absurd (both_ways _ off (sym (ap (is_active s'.active.items) e) ∙ on)))
            (λ (ne : x ≢ i). subst (λ (c : Chains). Contains (list_at c (length (list_at s'.lines x))) x) (sym is)
            (left_held s.buckets i _ x ne (subst (λ (m : ℕ). Contains (list_at s.buckets m) x) (sym (same x))
            (h.bucketed.placed x (sym (other x ne) ∙ on)))))
            (cases_eq x i);
        counted = λ x j held.
            let was = left_in s.buckets i j x (subst (λ (c : Chains). Contains (list_at c j) x) is held) in
            let then = h.bucketed.counted x j was.1 in
            (other x was.0 ∙ then.0, same x ∙ then.1);
      };
    }

-- a line that was not removed stands in a bucket
pub placed_from : (s : Side) (i : ℕ) → IsKept s → length (list_at s.lines i) < length s.buckets.lists → is_active s.active.items i ≡ true → IsPlaced s.buckets i
placed_from s i h lt on = (length (list_at s.lines i), lt, h.bucketed.placed i on)

-- the same lists for more links
pub IsKept-grown : (s s' : Side) → IsKept s → s'.lines.lists ≡ s.lines.lists → IsChained s'.lines → s'.counts.items ≡ s.counts.items
    → s'.active.items ≡ s.active.items → s'.buckets ≡ s.buckets → IsKept s'
IsKept-grown s s' h lists chained counts active buckets =
    let same = λ (x : ℕ). ap (λ (ls : List (List ℕ)). length (get_or ls x [])) lists in
    let lens = ap (λ (ls : List (List ℕ)). length ls) lists in
    let whole : IsBucketed s.lines s'.active.items s'.buckets = subst (λ (bools : List Bool). IsBucketed s.lines bools s'.buckets) (sym active)
    (subst (λ (c : Chains). IsBucketed s.lines s.active.items c) (sym buckets) h.bucketed) in
    record {
      chained = chained;
      counts_len = ap length counts ∙ h.counts_len ∙ sym lens;
      counts = λ x. ap (λ (cs : List ℕ). get_or cs x 0) counts ∙ h.counts x ∙ sym (same x);
      active_len = ap length active ∙ h.active_len ∙ sym lens;
      bucketed = record {
        items = whole.items ∙ sym lens;
        lists = whole.lists ∙ ap (λ (n : ℕ). n + 1) (sym lens);
        chained = whole.chained;
        placed = λ x on. subst (λ (m : ℕ). Contains (list_at s'.buckets m) x) (sym (same x)) (whole.placed x on);
        counted = λ x k held. ((whole.counted x k held).0, same x ∙ (whole.counted x k held).1);
      };
    }

-- the first i items stand in the list of 0, and no other item in a list
pub record HasFirst (n i : ℕ) (ch : Chains) : Type 0 where
  pub items : ch.items ≡ n
  pub lists : length ch.lists ≡ n + 1
  pub chained : IsChained ch
  pub held : (x : ℕ) → x < i → Contains (list_at ch 0) x
  pub only : (x k : ℕ) → Contains (list_at ch k) x → (x < i) × (k ≡ 0)

IsDistinct-nil : IsDistinct eqb []
unfolding IsDistinct
IsDistinct-nil = tt

pub empty_lists : (count k : ℕ) → get_or (replicate {A = List ℕ} count []) k [] ≡ []
empty_lists count k =
    ⊎_elim (λ (lt : k < count). get_or-replicate count k [] [] lt) (λ (le : count ≤ k).
    get_or_past (replicate {A = List ℕ} count []) k [] (omega (arith, length-replicate {A = List ℕ} count []))) (cases_lt k count)

pub HasFirst-none : (n count : ℕ) (ch : Chains) → count ≡ n + 1 → ch ≡ record { items = n; lists = replicate count [] } → HasFirst n 0 ch
HasFirst-none n count ch len is =
    let no : (k : ℕ) → list_at ch k ≡ [] = λ k. ap (λ (c : Chains). list_at c k) is ∙ empty_lists count k in
    let nothing : (x k : ℕ) → Contains (list_at ch k) x → ⊥ = λ x k h. nothing_contains x (subst (λ xs. Contains xs x) (no k) h) in
    record {
      items = ap (λ (c : Chains). c.items) is;
      lists = ap (λ (c : Chains). length c.lists) is ∙ length-replicate {A = List ℕ} count [] ∙ len;
      chained = record {
        below = λ c. rw (no c) (All-nil (λ i. i < ch.items));
        once = λ c. rw (no c) IsDistinct-nil;
        apart = λ c d i in_c in_d. absurd (nothing i c in_c);
      };
      held = λ x lt. absurd (omega arith);
      only = λ x k h. absurd (nothing x k h);
    }

pub HasFirst-more : (n i : ℕ) (ch ch' : Chains) → HasFirst n i ch → ch' ≡ with_item ch i 0 → IsChained ch' → HasFirst n (i + 1) ch'
HasFirst-more n i ch ch' h is chained =
    let some : 0 < length ch.lists = omega (arith, h.lists) in
    record {
      items = ap (λ (c : Chains). c.items) is ∙ h.items;
      lists = ap (λ (c : Chains). length c.lists) is ∙ length-set ch.lists 0 _ ∙ h.lists;
      chained = chained;
      held = λ x lt. subst (λ (c : Chains). Contains (list_at c 0) x) (sym is) (⊎_elim
          (λ (e : x ≡ i). subst (λ (y : ℕ). Contains (list_at (with_item ch i 0) 0) y) (sym e) (item_held ch i 0 some))
          (λ (ne : x ≢ i). others_held ch i 0 0 x some (h.held x (omega arith))) (cases_eq x i));
      only = λ x k held. ⊎_elim
          (λ (new : (x ≡ i) × (k ≡ 0)). (omega (arith, new.0), new.1))
          (λ (old : Contains (list_at ch k) x). (omega (arith, (h.only x k old).0), (h.only x k old).1))
          (item_in ch i 0 k x some (subst (λ (c : Chains). Contains (list_at c k) x) is held));
    }

pub not_placed : (n i : ℕ) (ch : Chains) → HasFirst n i ch → IsPlaced ch i → ⊥
not_placed n i ch h held = omega (arith, (h.only i held.0 held.2).0)

-- chains with nothing placed
pub IsChained-none : (items count : ℕ) (ch : Chains) → ch ≡ record { items = items; lists = replicate count [] } → IsChained ch
IsChained-none items count ch is =
    let no : (k : ℕ) → list_at ch k ≡ [] = λ k. ap (λ (c : Chains). list_at c k) is ∙ empty_lists count k in
    record {
      below = λ c. rw (no c) (All-nil (λ i. i < ch.items));
      once = λ c. rw (no c) IsDistinct-nil;
      apart = λ c d i in_c in_d. absurd (nothing_contains i (subst (λ xs. Contains xs i) (no c) in_c));
    }

pub IsKept-new : (n links : ℕ) (s : Side) → s.lines ≡ record { items = links; lists = replicate n [] } → s.counts.items ≡ replicate n 0
    → s.active.items ≡ replicate n true → HasFirst n n s.buckets → IsKept s
IsKept-new n links s is counts active h =
    let no : (x : ℕ) → list_at s.lines x ≡ [] = λ x. ap (λ (c : Chains). list_at c x) is ∙ empty_lists n x in
    let lens : length s.lines.lists ≡ n = ap (λ (c : Chains). length c.lists) is ∙ length-replicate {A = List ℕ} n [] in
    let within : (x : ℕ) → is_active s.active.items x ≡ true → x < n =
    λ x on. ⊎_elim (λ (lt : x < n). lt) (λ (le : n ≤ x). absurd (both_ways _ (ap (λ (bools : List Bool). is_active bools x) active
    ∙ get_or_past (replicate {A = Bool} n true) x false (omega (arith, length-replicate {A = Bool} n true))) on)) (cases_lt x n) in
    let zeros : (x : ℕ) → get_or (replicate n 0) x 0 ≡ 0 =
    λ x. ⊎_elim (λ (lt : x < n). get_or-replicate n x 0 0 lt) (λ (le : n ≤ x). get_or_past (replicate {A = ℕ} n 0) x 0 (omega (arith, length-replicate {A = ℕ} n 0))) (cases_lt x n) in
    record {
      chained = IsChained-none links n s.lines is;
      counts_len = ap length counts ∙ length-replicate {A = ℕ} n 0 ∙ sym lens;
      counts = λ x. ap (λ (cs : List ℕ). get_or cs x 0) counts ∙ zeros x ∙ sym (ap length (no x));
      active_len = ap length active ∙ length-replicate {A = Bool} n true ∙ sym lens;
      bucketed = record {
        items = h.items ∙ sym lens;
        lists = h.lists ∙ ap (λ (m : ℕ). m + 1) (sym lens);
        chained = h.chained;
        placed = λ x on. subst (λ (q : List ℕ). Contains (list_at s.buckets (length q)) x) (sym (no x)) (h.held x (within x on));
        counted = λ x k held. (ap (λ (bools : List Bool). is_active bools x) active ∙ get_or-replicate n x true false (h.only x k held).0, ap length (no x) ∙ sym (h.only x k held).1);
      };
    }

pub bool_cases : (b : Bool) → (b ≡ true) ⊎ (b ≡ false)
bool_cases true = inl refl
bool_cases false = inr refl

-- How the lists are copied, item by item and list by list.
use Rattle.std.proofs.Common.{◌≡◌, ◌≢◌, ℕ, ◌+◌, ◌<◌, ◌≤◌, List, [], ◌∷◌, ◌++◌, length, set, get_or, eqb, refl, sym, ap, subst, ◌∙◌, ⊎_elim, arith, replicate, Option, Some, None, slice_get, length-set, get_or-set_same, get_or-set_other}
use Rattle.std.specs.List.{Contains, IsDistinct}
use Rattle.std.specs.Option.{IfSome}
use Rattle.std.proofs.lemmas.Bool.{cases_eq, cases_lt}
use Rattle.std.proofs.lemmas.List.{set-set, set-get_or, same_lists, get_or_default, get_or_past, get_or-replicate, length-replicate, append_assoc, append-nil}
use Rattle.std.proofs.lemmas.List.Elements.{All-weaker, Contains-append_right}
use Rattle.std.proofs.lemmas.Map.Keys.{IsDistinct-head, IsDistinct-tail}
use Rattle.chain_links.specs.Lists.{after, rest}
use Rattle.chain_links.proofs.Rest.{rest-first, rest-next, IfSome-first, nothing_contains, cons_cases, head_contains, head_other}
use Rattle.count_chain.specs.Chains.{Chains, list_at, IsPlaced, with_item, with_list, IsChained}

same_chains : (a b : Chains) → a.items ≡ b.items → a.lists ≡ b.lists → a ≡ b
same_chains a b e f =
    let to : List (List ℕ) → ℕ → Chains = λ ls n. record { items = n; lists = ls } in
    ap (to a.lists) e ∙ ap (λ ls. to ls b.items) f

-- an item that comes once does not stand before itself
not_before : (ws : List ℕ) (x : ℕ) (ys : List ℕ) → IsDistinct eqb (ws ++ x ∷ ys) → Contains ws x → ⊥
not_before [] x ys once held = nothing_contains x held
not_before (a ∷ ws) x ys once held =
    ⊎_elim
    (λ (e : x ≡ a). head_other a x (ws ++ x ∷ ys) (IsDistinct-head eqb a (ws ++ x ∷ ys) once) (Contains-append_right ws (x ∷ ys) x (head_contains x ys)) (sym e))
    (λ (later : Contains ws x). not_before ws x ys (IsDistinct-tail eqb a (ws ++ x ∷ ys) once) later)
    (cons_cases a ws x held)

-- a part of the list was copied
pub record IsCopied (first ch : Chains) (c : ℕ) (xs : List ℕ) (next : Option ℕ) : Type 0 where
  pub items : ch.items ≡ first.items
  pub lists : ch.lists ≡ set first.lists c (list_at ch c)
  pub done : list_at ch c ++ rest next xs ≡ xs
  pub next_in : IfSome next (λ x. Contains xs x)

pub IsCopied-none : (first : Chains) (c : ℕ) (xs : List ℕ) (next : Option ℕ) → list_at first c ≡ [] → next ≡ slice_get xs 0 → IsCopied first first c xs next
IsCopied-none first c xs next empty is = record {
  items = refl;
  lists = sym (set-get_or first.lists c []);
  done = ap (λ ys. ys ++ rest next xs) empty ∙ ap (λ o. rest o xs) is ∙ rest-first xs;
  next_in = subst (λ o. IfSome o (λ x. Contains xs x)) (sym is) (IfSome-first xs);
}

module _ (first ch : Chains) (c : ℕ) (xs : List ℕ) (x : ℕ) (there : c < length first.lists) (once : IsDistinct eqb xs) (h : IsCopied first ch c xs (Some x)) where
  len : length ch.lists ≡ length first.lists
  len = ap length h.lists ∙ length-set first.lists c (list_at ch c)

  split : list_at ch c ++ x ∷ rest (after x xs) xs ≡ xs
  split = ap (λ ys. list_at ch c ++ ys) (sym (rest-next x xs once h.next_in)) ∙ h.done

  pub copied_loose : (IsPlaced first x → ⊥) → IsPlaced ch x → ⊥
  copied_loose loose (k, within, held) =
      ⊎_elim
      (λ (e : k ≡ c). not_before (list_at ch c) x (rest (after x xs) xs) (subst (λ ys. IsDistinct eqb ys) (sym split) once) (subst (λ (j : ℕ). Contains (list_at ch j) x) e held))
      (λ (ne : k ≢ c).
      let other : list_at ch k ≡ list_at first k = ap (λ (ls : List (List ℕ)). get_or ls k []) h.lists ∙ get_or-set_other first.lists c k (list_at ch c) [] ne in
      loose (k, omega (arith, len), subst (λ ys. Contains ys x) other held))
      (cases_eq k c)

  pub IsCopied-more : (ch' : Chains) (next : Option ℕ) → ch' ≡ with_item ch x c → next ≡ after x xs → IfSome next (λ z. Contains xs z) → IsCopied first ch' c xs next
  IsCopied-more ch' next is follows next_in =
      let here : list_at ch' c ≡ list_at ch c ++ x ∷ [] = ap (λ (a : Chains). list_at a c) is ∙ get_or-set_same ch.lists c (list_at ch c ++ x ∷ []) [] (omega (arith, len)) in
      record {
        items = ap (λ (a : Chains). a.items) is ∙ h.items;
        lists = ap (λ (a : Chains). a.lists) is ∙ ap (λ (ls : List (List ℕ)). set ls c (list_at ch c ++ x ∷ [])) h.lists ∙ set-set first.lists c _ _ ∙ ap (set first.lists c) (sym here);
        done = ap (λ ys. ys ++ rest next xs) here ∙ append_assoc (list_at ch c) (x ∷ []) (rest next xs) ∙ ap (λ o. list_at ch c ++ x ∷ rest o xs) follows ∙ split;
        next_in = next_in;
      }

-- the whole list was copied
pub copied_whole : (first ch : Chains) (c : ℕ) (xs : List ℕ) → IsCopied first ch c xs None → ch ≡ with_list first c xs
copied_whole first ch c xs h =
    let whole : list_at ch c ≡ xs = sym (append-nil (list_at ch c)) ∙ h.done in
    let items = h.items in
    let lists : ch.lists ≡ set first.lists c xs = h.lists ∙ ap (set first.lists c) whole in
    same_chains ch (with_list first c xs) items lists

-- the lists below c were copied, and the others are empty
pub record AreCopied (of ch : Chains) (items c : ℕ) : Type 0 where
  pub items_are : ch.items ≡ items
  pub len : length ch.lists ≡ length of.lists
  pub done : (k : ℕ) → k < c → list_at ch k ≡ list_at of k
  pub left : (k : ℕ) → c ≤ k → list_at ch k ≡ []

pub AreCopied-none : (of ch : Chains) (items counts : ℕ) → length of.lists ≡ counts → ch ≡ record { items = items; lists = replicate counts [] } → AreCopied of ch items 0
AreCopied-none of ch items counts len is = record {
  items_are = ap (λ (a : Chains). a.items) is;
  len = ap (λ (a : Chains). length a.lists) is ∙ length-replicate {A = List ℕ} counts [] ∙ sym len;
  done = λ k lt. absurd (omega arith);
  left = λ k _. ap (λ (a : Chains). list_at a k) is ∙ ⊎_elim (λ (lt : k < counts). get_or-replicate counts k [] [] lt)
      (λ (le : counts ≤ k). get_or_past (replicate {A = List ℕ} counts []) k [] (omega (arith, length-replicate {A = List ℕ} counts []))) (cases_lt k counts);
}

-- what a list holds is in no list that was copied before
pub copied_apart : (of ch : Chains) (items c i : ℕ) → AreCopied of ch items c → IsChained of → Contains (list_at of c) i → IsPlaced ch i → ⊥
copied_apart of ch items c i h chained held (k, within, there) =
    ⊎_elim
    (λ (lt : k < c). let e : k ≡ c = chained.apart k c i (subst (λ ys. Contains ys i) (h.done k lt) there) held in omega (arith, e))
    (λ (le : c ≤ k). nothing_contains i (subst (λ ys. Contains ys i) (h.left k le) there))
    (cases_lt k c)

pub AreCopied-more : (of ch ch' : Chains) (items c : ℕ) → c < length of.lists → AreCopied of ch items c → ch' ≡ with_list ch c (list_at of c) → AreCopied of ch' items (c + 1)
AreCopied-more of ch ch' items c lt h is =
    let other = λ (k : ℕ) (ne : k ≢ c). ap (λ (a : Chains). list_at a k) is ∙ get_or-set_other ch.lists c k (list_at of c) [] ne in
    record {
      items_are = ap (λ (a : Chains). a.items) is ∙ h.items_are;
      len = ap (λ (a : Chains). length a.lists) is ∙ length-set ch.lists c _ ∙ h.len;
      done = λ k below. ⊎_elim
          (λ (e : k ≡ c). rw e (ap (λ (a : Chains). list_at a c) is ∙ get_or-set_same ch.lists c (list_at of c) [] (omega (arith, h.len))))
          (λ (ne : k ≢ c). other k ne ∙ h.done k (omega arith))
          (cases_eq k c);
      left = λ k above. let ne : k ≢ c = λ e. omega arith in other k ne ∙ h.left k (omega arith);
    }

pub copied_all : (of ch : Chains) (items c : ℕ) → length of.lists ≡ c → AreCopied of ch items c → ch ≡ record { items = items; lists = of.lists }
copied_all of ch items c all h =
    let lists : ch.lists ≡ of.lists = same_lists ch.lists of.lists h.len (λ k d lt. get_or_default ch.lists k d [] lt ∙ h.done k (omega (arith, h.len))
    ∙ get_or_default of.lists k [] d (omega (arith, h.len))) in
    same_chains ch (record { items = items; lists = of.lists }) h.items_are lists

pub IsChained-grown : (of ch : Chains) (items : ℕ) → of.items ≤ items → IsChained of → ch ≡ record { items = items; lists = of.lists } → IsChained ch
IsChained-grown of ch items le h is =
    subst IsChained (sym is) (record {
      below = λ c. All-weaker (λ i. i < of.items) (λ i. i < items) (λ i lt. omega arith) (list_at of c) (h.below c);
      once = h.once;
      apart = h.apart;
    })

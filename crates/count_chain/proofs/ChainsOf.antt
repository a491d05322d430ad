-- How the lists of counts items_from from the rings of the links.
use Rattle.std.proofs.Common.{◌≡◌, ◌≢◌, ℕ, ◌+◌, ◌-◌, ◌^◌, ◌<◌, ◌≤◌, List, [], ◌∷◌, ◌++◌, length, map, set, true, cond, eqb, refl, sym, ap, subst, ◌∙◌, ⊎_elim, arith, length-set, get_or, get_or-set_same, get_or-set_other, replicate, ◌⊎◌, inl, inr, Some, None, slice_get}
use Rattle.std.specs.List.{Contains, IsDistinct}
use Rattle.std.proofs.lemmas.List.{get_or_past, get_or-map, length-map, length-replicate, get_or-replicate}
use Rattle.std.proofs.lemmas.List.Elements.{All-nil, All-contains}
use Rattle.std.proofs.lemmas.List.FromFn.{length-map-range_with_len, get_or-map-range_with_len, get_or-range_with_len, fill_by_all}
use Rattle.std.proofs.lemmas.Bool.{cases_eq, cases_lt, eq-eqb, ne_eqb, false≢true, both_ways, or_right, or_left, cond_both, cond-true, cond-false}
use Rattle.std.proofs.lemmas.List.Folds.{list_any-append}
use Rattle.chain_links.specs.Lists.{has, without, Lacks, after}
use Rattle.chain_links.specs.Links.{BothWays, next_of, prev_of, with_link, without_node, with_node_before, AreLinked, ring, IsClosed, loops}
use Rattle.chain_links.proofs.Paths.{All-items_from, first-path, after-path, has-last}
use Rattle.chain_links.proofs.Rings.{has-from_Contains, Contains-from_has, All-has, lacks_from, has-without_same, has-without_other, IsClosed-without_node, IsClosed-loosened, IsClosed-with_node_before, IsClosed-loops, held_below, held_linked, next_other, IsDistinct-ring, ring_apart}
use Rattle.count_chain.specs.Chains.{Chains, list_at, IsPlaced, with_item, without_item, IsChained, chains_of, IsLinked}

IsDistinct-nil : IsDistinct eqb []
unfolding IsDistinct
IsDistinct-nil = tt

module _ (l : BothWays) (items counts : ℕ) where
  length-lists : length (chains_of l items counts).lists ≡ counts
  length-lists = length-map-range_with_len (λ c. ring l items (items + c)) 0 counts

  list_at-ring : (c : ℕ) → c < counts → list_at (chains_of l items counts) c ≡ ring l items (items + c)
  list_at-ring c hc = get_or-map-range_with_len (λ c. ring l items (items + c)) 0 counts c c [] hc (omega arith)

  list_at-past : (c : ℕ) → counts ≤ c → list_at (chains_of l items counts) c ≡ []
  list_at-past c hc = get_or_past _ c [] (omega (arith, length-lists))

  -- an item in the list of a count
  held_from : (c i : ℕ) → Contains (list_at (chains_of l items counts) c) i → (c < counts) × (has i (ring l items (items + c)) ≡ true)
  held_from c i h =
      ⊎_elim
      (λ hc. (hc, has-from_Contains i _ (subst (λ xs. Contains xs i) (list_at-ring c hc) h)))
      (λ past. absurd (false≢true (has-from_Contains i [] (subst (λ xs. Contains xs i) (list_at-past c past) h))))
      (cases_lt c counts)

  placed_from : (i c : ℕ) → c < counts → has i (ring l items (items + c)) ≡ true → IsPlaced (chains_of l items counts) i
  placed_from i c hc h =
      (c, omega (arith, length-lists), subst (λ xs. Contains xs i) (sym (list_at-ring c hc)) (Contains-from_has i _ h))

  -- the lists of closed rings
  pub IsChained-chains : IsClosed l items (items + counts) → IsChained (chains_of l items counts)
  IsChained-chains ok = record {
    below = λ c. ⊎_elim (λ hc. rw (list_at-ring c hc) (All-items_from l.next items items (next_of l (items + c)))) (λ past. rw (list_at-past c past) (All-nil (λ i. i < items))) (cases_lt c counts);
    once = λ c. ⊎_elim (λ hc. rw (list_at-ring c hc) (IsDistinct-ring l items (items + counts) ok (items + c) (omega arith) (omega arith)))
        (λ past. rw (list_at-past c past) IsDistinct-nil) (cases_lt c counts);
    apart = λ c d i in_c in_d.
        let a = held_from c i in_c in
        let b = held_from d i in_d in
        let same : items + c ≡ items + d = ring_apart l items (items + counts) ok (items + c) (items + d) i (omega arith) (omega (arith, a.0)) (omega arith) (omega (arith, b.0)) a.1 b.1 in
        omega arith;
  }

-- lists that are known at each count
chains-same : (l : BothWays) (items counts : ℕ) (lists : List (List ℕ)) → length lists ≡ counts
    → ((c : ℕ) → c < counts → get_or lists c [] ≡ ring l items (items + c)) → chains_of l items counts ≡ record { items = items; lists = lists }
chains-same l items counts lists len at =
    ap (λ (ls : List (List ℕ)). record { items = items; lists = ls }) (sym (fill_by_all (λ c. ring l items (items + c)) lists counts [] len at))

-- new chains
pub IsLinked-loops : (items counts : ℕ) → items + counts < 2 ^ 64 → IsLinked (loops (items + counts)) items counts
    × (chains_of (loops (items + counts)) items counts ≡ record { items = items; lists = replicate counts [] })
IsLinked-loops items counts fits =
    let (closed, empty) = IsClosed-loops items (items + counts) in (
      record { fits = fits; closed = closed; loose = λ i hi other. absurd (other (omega (arith, get_or-range_with_len 0 (items + counts) i 0 (omega arith)))) },
      chains-same (loops (items + counts)) items counts (replicate counts []) (length-replicate counts [])
          (λ c hc. get_or-replicate counts c [] [] hc ∙ sym (empty (items + c) (omega arith) (omega arith))),
    )

module _ (l : BothWays) (items counts i : ℕ) (ok : IsLinked l items counts) where
  -- an item of no list is put at the end of the list of count k
  module _ (k : ℕ) (hi : i < items) (hk : k < length (chains_of l items counts).lists) (free : IsPlaced (chains_of l items counts) i → ⊥) where
    k_below : k < counts
    k_below = omega (arith, length-lists l items counts)

    lacks : (h : ℕ) → items ≤ h → h < items + counts → Lacks i (ring l items h)
    lacks h up hn =
        let at_h : items + (h - items) ≡ h = omega arith in
        subst (λ u. Lacks i (ring l items u)) at_h (lacks_from i _ (λ held. free (placed_from l items counts i (h - items) (omega arith) (has-from_Contains i _ held))))

    closed_with_node_before : IsClosed (with_node_before l i (items + k)) items (items + counts)
        × ((c : ℕ) → c < counts → ring (with_node_before l i (items + k)) items (items + c) ≡ cond (eqb (items + c) (items + k))
        (ring l items (items + c) ++ i ∷ []) (ring l items (items + c)))
    closed_with_node_before =
        let (closed, same) = IsClosed-with_node_before l items (items + counts) ok.closed i hi (omega (arith, k_below)) lacks (items + k) (omega arith) (omega (arith, k_below)) in
        (closed, λ c hc. same (items + c) (omega arith) (omega arith))

    -- what was in a ring is in it still
    has-with_node_before : (j c : ℕ) → c < counts → has j (ring l items (items + c)) ≡ true → has j (ring (with_node_before l i (items + k)) items (items + c)) ≡ true
    has-with_node_before j c hc h =
        rw (closed_with_node_before.1 c hc) (cond_both (eqb (items + c) (items + k)) _ _ (λ xs. has j xs ≡ true) (λ _. list_any-append (eqb j) _ (i ∷ []) ∙ or_left _ _ h) (λ _. h))

    has-with_node_before_last : has i (ring (with_node_before l i (items + k)) items (items + k)) ≡ true
    has-with_node_before_last =
        rw (closed_with_node_before.1 k k_below ∙ cond-true (eqb (items + k) (items + k)) _ _ (eq-eqb (items + k) (items + k) refl))
        (list_any-append (eqb i) _ (i ∷ []) ∙ or_right (has i (ring l items (items + k))) _ (or_left (eqb i i) _ (eq-eqb i i refl)))

    loose-with_node_before : (j : ℕ) → j < items → next_of (with_node_before l i (items + k)) j ≢ j → (c : ℕ) × (c < counts)
        × (has j (ring (with_node_before l i (items + k)) items (items + c)) ≡ true)
    loose-with_node_before j hj other =
        let last = prev_of l (items + k) in
        ⊎_elim
        (λ (same : j ≡ i). (k, k_below, rw same has-with_node_before_last))
        (λ (j_i : j ≢ i). ⊎_elim
        (λ (is_last : j ≡ last). (
          k,
          k_below,
          has-with_node_before j k k_below (⊎_elim (λ (head : last ≡ items + k). absurd (omega arith))
              (λ there. rw is_last there) (has-last l _ _ _ (ok.closed.closed (items + k) (omega arith) (omega (arith, k_below))))),
        ))
        (λ (j_last : j ≢ last).
        let same : next_of (with_node_before l i (items + k)) j ≡ next_of l j =
        get_or-set_other _ i j (items + k) 0 j_i ∙ get_or-set_other l.next last j i 0 j_last in
        let (c, hc, h) = ok.loose j hj (λ e. other (same ∙ e)) in
        (c, hc, has-with_node_before j c hc h))
        (cases_eq j last))
        (cases_eq j i)

    IsLinked-with_node_before : IsLinked (with_node_before l i (items + k)) items counts
    IsLinked-with_node_before = record { fits = ok.fits; closed = closed_with_node_before.0; loose = loose-with_node_before }

    chains-with_node_before : chains_of (with_node_before l i (items + k)) items counts ≡ with_item (chains_of l items counts) i k
    chains-with_node_before =
        let lists = (chains_of l items counts).lists in
        let more = list_at (chains_of l items counts) k ++ i ∷ [] in
        chains-same (with_node_before l i (items + k)) items counts (set lists k more) (length-set lists k more ∙ length-lists l items counts)
        (λ c hc. ⊎_elim
        (λ same. rw same (get_or-set_same lists k more [] hk ∙ ap (λ xs. xs ++ i ∷ []) (list_at-ring l items counts k k_below)
        ∙ sym (closed_with_node_before.1 k k_below ∙ cond-true (eqb (items + k) (items + k)) _ _ (eq-eqb (items + k) (items + k) refl))))
        (λ other. get_or-set_other lists k c more [] other ∙ list_at-ring l items counts c hc
        ∙ sym (closed_with_node_before.1 c hc ∙ cond-false (eqb (items + c) (items + k)) _ _ (ne_eqb (items + c) (items + k) (λ e. other (omega arith)))))
        (cases_eq c k))

  -- an item of some list is taken out
  module _ (held : IsPlaced (chains_of l items counts) i) where
    held_in : (c : ℕ) × (c < counts) × (has i (ring l items (items + c)) ≡ true)
    held_in = let h = held_from l items counts held.0 i held.2 in (held.0, h.0, h.1)

    end_below : items + held_in.0 < items + counts
    end_below = omega (arith, held_in.1)

    i_below : i < items
    i_below = held_below l items (items + counts) ok.closed i (items + held_in.0) (omega arith) end_below held_in.2

    linked : AreLinked l (prev_of l i) i × AreLinked l i (next_of l i)
    linked = held_linked l items (items + counts) ok.closed i (items + held_in.0) (omega arith) end_below held_in.2

    closed_loosened : IsClosed (with_link (without_node l i) i i) items (items + counts)
        × ((c : ℕ) → c < counts → ring (with_link (without_node l i) i i) items (items + c) ≡ without i (ring l items (items + c)))
    closed_loosened =
        let (taken, shorter) = IsClosed-without_node l items (items + counts) ok.closed i (items + held_in.0) (omega arith) end_below held_in.2 in
        let gone = λ (h : ℕ) (up : items ≤ h) (hn : h < items + counts). lacks_from i (ring (without_node l i) items h)
        (λ held. both_ways _ (has-without_same i (ring l items h)) (subst (λ xs. has i xs ≡ true) (shorter h up hn) (has-from_Contains i _ held))) in
        let (closed, same) = IsClosed-loosened (without_node l i) items (items + counts) taken i i_below (omega (arith, i_below)) gone in
        (closed, λ c hc. let up : items ≤ items + c = omega arith in let hn : items + c < items + counts = omega arith in same (items + c) up hn ∙ shorter (items + c) up hn)

    loose-without_item : (j : ℕ) → j < items → next_of (with_link (without_node l i) i i) j ≢ j → (c : ℕ) × (c < counts) × (has j (ring (with_link (without_node l i) i i) items (items + c)) ≡ true)
    loose-without_item j hj other =
        let a = prev_of l i in
        let b = next_of l i in
        let i_node : i < length (without_node l i).next = rw length-set (omega (arith, ok.closed.nodes.next_len, i_below)) in
        let j_i : j ≢ i = λ e. other (rw e (get_or-set_same (without_node l i).next i i 0 i_node)) in
        let passes : next_of (with_link (without_node l i) i i) j ≡ next_of (without_node l i) j = get_or-set_other (without_node l i).next i j i 0 j_i in
        let (c, hc, h) = ⊎_elim
        (λ (is_a : j ≡ a). ok.loose j hj (λ e. j_i (sym e ∙ rw (is_a, linked.0.0) refl)))
        (λ (not_a : j ≢ a).
        let same : next_of (without_node l i) j ≡ next_of l j = get_or-set_other l.next a j b 0 not_a in
        ok.loose j hj (λ e. other (passes ∙ same ∙ e)))
        (cases_eq j a) in
        (c, hc, rw (closed_loosened.1 c hc) (has-without_other i j _ j_i ∙ h))

    IsLinked-without_item : IsLinked (with_link (without_node l i) i i) items counts
    IsLinked-without_item = record { fits = ok.fits; closed = closed_loosened.0; loose = loose-without_item }

    chains-without_item : chains_of (with_link (without_node l i) i i) items counts ≡ without_item (chains_of l items counts) i
    chains-without_item =
        let lists = (chains_of l items counts).lists in
        chains-same (with_link (without_node l i) i i) items counts (map (without i) lists) (length-map lists (without i) ∙ length-lists l items counts)
        (λ c hc. get_or-map (without i) lists c [] [] (omega (arith, length-lists l items counts)) ∙ ap (without i) (list_at-ring l items counts c hc) ∙ sym (closed_loosened.1 c hc))

-- what the links stand for after a call
pub record Becomes (l : BothWays) (items counts : ℕ) (v : Chains) : Type 0 where
  pub linked : IsLinked l items counts
  pub is : chains_of l items counts ≡ v
  pub chained : IsChained (chains_of l items counts)

pub Becomes-with_item : (l l' : BothWays) (items counts i k : ℕ) (v : Chains) → IsLinked l items counts → chains_of l items counts ≡ v
    → i < v.items → k < length v.lists → (IsPlaced v i → ⊥) → l' ≡ with_node_before l i (items + k) → Becomes l' items counts (with_item v i k)
Becomes-with_item l l' items counts i k v ok is hi hk free set' =
    let here = λ (hi : i < items) (hk : k < length (chains_of l items counts).lists) (free : IsPlaced (chains_of l items counts) i → ⊥).
    let linked = IsLinked-with_node_before l items counts i ok k hi hk free in
    let r : Becomes (with_node_before l i (items + k)) items counts (with_item (chains_of l items counts) i k) =
    record { linked = linked; is = chains-with_node_before l items counts i ok k hi hk free; chained = IsChained-chains _ items counts linked.closed } in
    r in
    rw set' (subst (λ u. i < u.items → k < length u.lists → (IsPlaced u i → ⊥) → Becomes (with_node_before l i (items + k)) items counts (with_item u i k)) is here hi hk free)

pub Becomes-without_item : (l l' : BothWays) (items counts i : ℕ) (v : Chains) → IsLinked l items counts → chains_of l items counts ≡ v
    → IsPlaced v i → l' ≡ with_link (without_node l i) i i → Becomes l' items counts (without_item v i)
Becomes-without_item l l' items counts i v ok is held set' =
    let here = λ (held : IsPlaced (chains_of l items counts) i).
    let linked = IsLinked-without_item l items counts i ok held in
    let r : Becomes (with_link (without_node l i) i i) items counts (without_item (chains_of l items counts) i) =
    record { linked = linked; is = chains-without_item l items counts i ok held; chained = IsChained-chains _ items counts linked.closed } in
    r in
    rw set' (subst (λ u. IsPlaced u i → Becomes (with_link (without_node l i) i i) items counts (without_item u i)) is here held)

pub placed_below : (v : Chains) (i : ℕ) → IsChained v → IsPlaced v i → i < v.items
placed_below v i chained held = All-contains (λ x. x < v.items) _ i (chained.below held.0) held.2

-- what is taken out is in no list
pub IsPlaced-without_item : (v : Chains) (i : ℕ) → IsPlaced (without_item v i) i → ⊥
IsPlaced-without_item v i h =
    let at_c = get_or-map (without i) v.lists h.0 [] [] (omega (arith, h.1, length-map v.lists (without i))) in
    both_ways _ (has-without_same i (list_at v h.0)) (subst (λ xs. has i xs ≡ true) at_c (has-from_Contains i _ h.2))

-- the node behind the end of a count's ring
pub first_says : (l : BothWays) (items counts k : ℕ) (v : Chains) → IsLinked l items counts → chains_of l items counts ≡ v → k < length v.lists
    → ((next_of l (items + k) < items) × (Some (next_of l (items + k)) ≡ slice_get (list_at v k) 0)) ⊎ ((items ≤ next_of l (items + k)) × (None ≡ slice_get (list_at v k) 0))
first_says l items counts k v ok is hk =
    let hc : k < counts = omega (arith, length-lists l items counts, ap (λ u. length u.lists) is) in
    let same = ap (λ u. list_at u k) (sym is) ∙ list_at-ring l items counts k hc in
    rw same (⊎_elim
    (λ p. inr (omega (arith, p.0), sym p.1))
    (λ p. inl (All-has (λ x. x < items) _ _ (All-items_from l.next items items (next_of l (items + k))) p.0, sym p.1))
    (first-path l (ring l items (items + k)) (items + k) (items + k) (ok.closed.closed (items + k) (omega arith) (omega arith))))

-- the node behind an item
pub next_says : (l : BothWays) (items counts i c : ℕ) (v : Chains) → IsLinked l items counts → chains_of l items counts ≡ v → Contains (list_at v c) i
    → ((next_of l i < items) × (next_of l i ≢ i) × (Some (next_of l i) ≡ after i (list_at v c))) ⊎ ((items ≤ next_of l i) × (None ≡ after i (list_at v c)))
next_says l items counts i c v ok is held =
    let (hc, h) = held_from l items counts c i (subst (λ u. Contains (list_at u c) i) (sym is) held) in
    let same = ap (λ u. list_at u c) (sym is) ∙ list_at-ring l items counts c hc in
    rw same (⊎_elim
    (λ p. inr (omega (arith, p.0), sym p.1))
    (λ p. inl (
      All-has (λ x. x < items) _ _ (All-items_from l.next items items (next_of l (items + c))) p.0,
      next_other l items (items + counts) ok.closed i (items + c) (omega arith) (omega (arith, hc)) h,
      sym p.1,
    ))
    (after-path l (ring l items (items + c)) (items + c) (items + c) i (ok.closed.closed (items + c) (omega arith) (omega (arith, hc))) h))

-- an item that is not linked to itself is in a list, and no other is
pub other_says : (l : BothWays) (items counts i : ℕ) (v : Chains) → IsLinked l items counts → chains_of l items counts ≡ v
    → i < v.items → next_of l i ≢ i → IsPlaced v i
other_says l items counts i v ok is hi other =
    let (c, hc, h) = ok.loose i (omega (arith, ap (λ u. u.items) is)) other in
    subst (λ u. IsPlaced u i) is (placed_from l items counts i c hc h)

pub placed_says : (l : BothWays) (items counts i : ℕ) (v : Chains) → IsLinked l items counts → chains_of l items counts ≡ v → IsPlaced v i → next_of l i ≢ i
placed_says l items counts i v ok is (c, within, held) =
    let (hc, h) = held_from l items counts c i (subst (λ u. Contains (list_at u c) i) (sym is) held) in
    next_other l items (items + counts) ok.closed i (items + c) (omega arith) (omega (arith, hc)) h

-- how many items and counts there are
pub sizes : (l : BothWays) (items counts : ℕ) (v : Chains) → chains_of l items counts ≡ v → (v.items ≡ items) × (length v.lists ≡ counts)
sizes l items counts v is = (ap (λ u. u.items) (sym is), ap (λ u. length u.lists) (sym is) ∙ length-lists l items counts)

-- an item of a list is a node
pub item_node : (l : BothWays) (items counts i : ℕ) (v : Chains) → IsLinked l items counts → chains_of l items counts ≡ v → IsPlaced v i → (i < length l.next) × (i < length l.prev)
item_node l items counts i v ok is held =
    let chained : IsChained v = subst IsChained is (IsChained-chains l items counts ok.closed) in
    let below : i < items + counts = omega (arith, placed_below v i chained held, ap (λ u. u.items) is) in
    (omega (arith, ok.closed.nodes.next_len), omega (arith, ok.closed.nodes.prev_len))

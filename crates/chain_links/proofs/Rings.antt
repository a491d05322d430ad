-- What becomes of closed rings when an item is taken out, put in or linked to itself.
use Rattle.std.proofs.Common.{◌≡◌, ◌≢◌, ℕ, ◌+◌, ◌<◌, ◌≤◌, List, [], ◌∷◌, ◌++◌, length, true, false, not, cond, eqb, refl, sym, ap, subst, ◌∙◌, ⊎_elim, arith, length-set}
use Rattle.std.specs.List.{All, Contains, IsDistinct, range_with_len}
use Rattle.std.proofs.lemmas.List.FromFn.{map-range_with_len_more, length-range_with_len, get_or-range_with_len}
use Rattle.std.proofs.lemmas.List.Elements.{All-weaker, All-set, All-filter, All-push, All-contains, All-nil}
use Rattle.std.proofs.lemmas.List.{get_or_default, map-id}
use Rattle.std.proofs.lemmas.Map.Views.{list_any-from_Contains, Contains-from_any, any-filter_same}
use Rattle.std.proofs.lemmas.Map.Steps.{length-le_from_distinct_below}
use Rattle.std.proofs.lemmas.Cmp.{nat_eq_equiv}
use Rattle.std.proofs.lemmas.Bool.{eqb-true, eqb-false, eq-eqb, ne_eqb, false_from_ne_true, cond_both, not_from_true, not_from_false, both_ways}
use Rattle.chain_links.specs.Lists.{Lacks, without, has}
use Rattle.chain_links.specs.Links.{BothWays, next_of, prev_of, with_link, without_node, with_node_before, AreLinked, Leads, ring, HasNodes, IsClosed, loops}
use Rattle.chain_links.proofs.Paths.{Leads-loosened, Leads-without_node, Leads-apart, Leads-with_node_before, IsDistinct-path, items_from-path, All-items_from, last-linked, has-last, has-linked, own_prev, meet}

-- that an item is in a list, as a fact and as a test
pub has-from_Contains : (i : ℕ) (xs : List ℕ) → Contains xs i → has i xs ≡ true
has-from_Contains i xs h = list_any-from_Contains nat_eq_equiv i xs h

pub Contains-from_has : (i : ℕ) (xs : List ℕ) → has i xs ≡ true → Contains xs i
Contains-from_has i xs h = Contains-from_any eqb-true i xs h

pub All-has : (P : ℕ → Type 0) (i : ℕ) (xs : List ℕ) → All P xs → has i xs ≡ true → P i
All-has P i xs all h = All-contains P xs i all (Contains-from_has i xs h)

pub lacks_from : (i : ℕ) (xs : List ℕ) → (Contains xs i → ⊥) → Lacks i xs
lacks_from i xs h k d within e = h (k, within, get_or_default xs k i d within ∙ e)

pub has-lacking : (i : ℕ) (xs : List ℕ) → Lacks i xs → has i xs ≡ false
has-lacking i xs lacks = false_from_ne_true (has i xs) (λ h. All-has (λ x. x ≢ i) i xs lacks h refl)

-- items lie below any node from `items` on
pub lacks_above : (items h : ℕ) (xs : List ℕ) → items ≤ h → All (λ x. x < items) xs → Lacks h xs
lacks_above items h xs up below = All-weaker (λ x. x < items) (λ x. x ≢ h) (λ x lt e. omega arith) xs below

pub HasNodes-with_link : (l : BothWays) (n a b : ℕ) → HasNodes l n → a < n → b < n → HasNodes (with_link l a b) n
HasNodes-with_link l n a b h ha hb = record {
  next_len = length-set l.next a b ∙ h.next_len;
  prev_len = length-set l.prev b a ∙ h.prev_len;
  next_nodes = All-set (λ x. x < n) l.next a b hb h.next_nodes;
  prev_nodes = All-set (λ x. x < n) l.prev b a ha h.prev_nodes;
}

-- a path of items that ends where it begins has at most as many as there are items, and is the ring
module _ (l : BothWays) (items h : ℕ) (xs : List ℕ) (up : items ≤ h) (leads : Leads l h xs h) (below : All (λ x. x < items) xs) where
  length-path : length xs ≤ items
  length-path =
      length-le_from_distinct_below xs items (IsDistinct-path l xs h h leads (has-lacking h xs (lacks_above items h xs up below))) (λ q has_q. All-has (λ x. x < items) q xs below has_q)

  pub ring-path : ring l items h ≡ xs
  ring-path = items_from-path l items items xs h h leads below up length-path

-- links whose paths are known at each end
pub IsClosed-from : (l : BothWays) (items n : ℕ) (ws : ℕ → List ℕ) → HasNodes l n
    → ((h : ℕ) → items ≤ h → h < n → Leads l h (ws h) h × All (λ x. x < items) (ws h)) → IsClosed l items n
    × ((h : ℕ) → items ≤ h → h < n → ring l items h ≡ ws h)
IsClosed-from l items n ws nodes paths =
    let same = λ (h : ℕ) (up : items ≤ h) (hn : h < n). ring-path l items h (ws h) up (paths h up hn).0 (paths h up hn).1 in
    (record { nodes = nodes; closed = λ h up hn. subst (λ xs. Leads l h xs h) (sym (same h up hn)) (paths h up hn).0 }, same)

-- what is in a list without i
pub has-without_same : (i : ℕ) (xs : List ℕ) → has i (without i xs) ≡ false
has-without_same i xs =
    any-filter_same (eqb i) (λ x. not (eqb x i)) false (λ k e. not_from_true _ (eq-eqb k i (sym (eqb-true i k e)))) xs

pub has-without_other : (i j : ℕ) (xs : List ℕ) → j ≢ i → has j (without i xs) ≡ has j xs
has-without_other i j xs ne =
    any-filter_same (eqb j) (λ x. not (eqb x i)) true (λ k e. not_from_false _ (ne_eqb k i (λ same. ne (eqb-true j k e ∙ same)))) xs

module _ (l : BothWays) (items n : ℕ) (ok : IsClosed l items n) where
  ring_below : (h : ℕ) → All (λ x. x < items) (ring l items h)
  ring_below h = All-items_from l.next items items (next_of l h)

  pub next_below : (x : ℕ) → x < n → next_of l x < n
  next_below x hx = ok.nodes.next_nodes x 0 (omega (arith, ok.nodes.next_len))

  pub prev_below : (x : ℕ) → x < n → prev_of l x < n
  prev_below x hx = ok.nodes.prev_nodes x 0 (omega (arith, ok.nodes.prev_len))

  ring_lacks : (g h : ℕ) → items ≤ g → has g (ring l items h) ≡ false
  ring_lacks g h up = has-lacking _ _ (lacks_above items g _ up (ring_below h))

  pub IsDistinct-ring : (h : ℕ) → items ≤ h → h < n → IsDistinct eqb (ring l items h)
  IsDistinct-ring h up hn = IsDistinct-path l _ _ _ (ok.closed h up hn) (ring_lacks h h up)

  -- no item is in two rings
  pub ring_apart : (g h z : ℕ) → items ≤ g → g < n → items ≤ h → h < n → has z (ring l items g) ≡ true → has z (ring l items h) ≡ true → g ≡ h
  ring_apart g h z ug gn uh hn in_g in_h =
      ⊎_elim (λ same. same) (λ there. absurd (both_ways _ (ring_lacks g h ug) there)) (meet l _ _ g g h h z (ok.closed g ug gn) (ok.closed h uh hn) (ring_lacks h g uh) in_g in_h)

  -- an item of some ring is taken out of it, and of every ring
  module _ (i g : ℕ) (ug : items ≤ g) (gn : g < n) (held : has i (ring l items g) ≡ true) where
    pub held_below : i < items
    held_below = All-has (λ x. x < items) i _ (ring_below g) held

    pub held_linked : AreLinked l (prev_of l i) i × AreLinked l i (next_of l i)
    held_linked = has-linked l _ _ _ i (ok.closed g ug gn) held

    pub next_other : next_of l i ≢ i
    next_other own =
        let back : prev_of l i ≡ i = ap (prev_of l) (sym own) ∙ held_linked.1.1 in
        let start : i ≡ g = own_prev l _ _ _ i (ok.closed g ug gn) held back in
        omega (arith, held_below)

    pub IsClosed-without_node : IsClosed (without_node l i) items n × ((h : ℕ) → items ≤ h → h < n → ring (without_node l i) items h ≡ without i (ring l items h))
    IsClosed-without_node =
        let i_node : i < n = omega (arith, held_below) in
        let a_node = prev_below i i_node in
        let b_node = next_below i i_node in
        let h_other = λ (h : ℕ) (up : items ≤ h) (e : h ≡ i). let r : ⊥ = omega (arith, held_below) in r in
        IsClosed-from _ items n (λ h. without i (ring l items h)) (HasNodes-with_link l _ _ _ ok.nodes a_node b_node)
        (λ h up hn. (
          Leads-without_node l i (prev_of l i) (next_of l i) (omega (arith, ok.nodes.next_len))
              (omega (arith, ok.nodes.prev_len)) held_linked.0 held_linked.1 next_other _ h h (ok.closed h up hn) (h_other h up) (h_other h up),
          All-filter _ (λ x. x < items) _ (ring_below h),
        ))

  -- an item of no ring
  module _ (i : ℕ) (hi : i < items) (in_range : i < n) (lacks : (h : ℕ) → items ≤ h → h < n → Lacks i (ring l items h)) where
    end_other : (h : ℕ) → items ≤ h → h ≢ i
    end_other h up e = omega arith

    -- is linked to itself
    pub IsClosed-loosened : IsClosed (with_link l i i) items n × ((h : ℕ) → items ≤ h → h < n → ring (with_link l i i) items h ≡ ring l items h)
    IsClosed-loosened =
        IsClosed-from _ items n (λ h. ring l items h) (HasNodes-with_link l _ _ _ ok.nodes in_range in_range)
        (λ h up hn. (Leads-loosened l i h _ h (ok.closed h up hn) (end_other h up) (end_other h up) (lacks h up hn), ring_below h))

    -- comes to the end of the ring at k
    module _ (k : ℕ) (uk : items ≤ k) (kn : k < n) where
      last_other : prev_of l k ≢ i
      last_other e =
          ⊎_elim (λ (head : prev_of l k ≡ k). omega arith) (λ there. All-has (λ x. x ≢ i) _ _ (lacks k uk kn) there e) (has-last l _ _ _ (ok.closed k uk kn))

      pub IsClosed-with_node_before : IsClosed (with_node_before l i k) items n ×
          ((h : ℕ) → items ≤ h → h < n → ring (with_node_before l i k) items h ≡ cond (eqb h k) (ring l items h ++ i ∷ []) (ring l items h))
      IsClosed-with_node_before =
          let a_node = prev_below k kn in
          let nodes = HasNodes-with_link _ _ i k (HasNodes-with_link l _ _ i ok.nodes a_node in_range) in_range kn in
          let end_linked = last-linked l _ _ _ (ok.closed k uk kn) in
          let k_other = end_other k uk in
          let pushes = Leads-with_node_before l i k (prev_of l k) (omega (arith, ok.nodes.next_len)) (omega (arith, ok.nodes.next_len))
          (omega (arith, ok.nodes.prev_len)) (omega (arith, ok.nodes.prev_len)) end_linked (λ e. k_other (sym e)) last_other _ k (ok.closed k uk kn) k_other
          (lacks k uk kn) (lacks_above items k _ uk (ring_below k)) in
          IsClosed-from _ items n (λ h. cond (eqb h k) (ring l items h ++ i ∷ []) (ring l items h)) nodes
          (λ h up hn. cond_both (eqb h k) _ _ (λ ws. Leads (with_node_before l i k) h ws h × All (λ x. x < items) ws)
          (λ yes. (
            subst (λ u. Leads (with_node_before l i k) u (ring l items u ++ i ∷ []) u) (sym (eqb-true h k yes)) pushes,
            All-push (λ x. x < items) _ i (ring_below h) hi,
          ))
          (λ no. (
            Leads-apart l i k (prev_of l k) (omega (arith, ok.nodes.next_len)) (omega (arith, ok.nodes.next_len)) (omega (arith, ok.nodes.prev_len))
                (omega (arith, ok.nodes.prev_len)) end_linked (λ e. k_other (sym e)) last_other _ h h (ok.closed h up hn) (end_other h up) (end_other h up)
                (eqb-false h k no) (lacks h up hn) (lacks_above items k _ uk (ring_below h)),
            ring_below h,
          )))

-- one more number at the end
pub range_with_len_more : (n : ℕ) → range_with_len 0 (n + 1) ≡ range_with_len 0 n ++ n ∷ []
range_with_len_more n =
    let more = map-range_with_len_more (λ (x : ℕ). x) 0 n n (omega arith) in
    let whole = map-id (range_with_len 0 (n + 1)) in
    let front = map-id (range_with_len 0 n) in
    sym whole ∙ more ∙ ap (λ xs. xs ++ n ∷ []) front

-- nodes that are linked to themselves close empty rings
pub IsClosed-loops : (items n : ℕ) → IsClosed (loops n) items n × ((h : ℕ) → items ≤ h → h < n → ring (loops n) items h ≡ [])
IsClosed-loops items n =
    let nodes : HasNodes (loops n) n = record {
      next_len = length-range_with_len 0 n;
      prev_len = length-range_with_len 0 n;
      next_nodes = range_below n;
      prev_nodes = range_below n;
    } in
    IsClosed-from (loops n) items n (λ _. []) nodes
    (λ h up hn. let at_h = get_or-range_with_len 0 n h 0 hn in ((omega (arith, at_h), omega (arith, at_h)), All-nil (λ x. x < items)))
  where
    range_below : (n : ℕ) → All (λ x. x < n) (range_with_len 0 n)
    range_below n k d h =
        let len = length-range_with_len 0 n in
        let hk : k < n = omega arith in
        omega (arith, get_or-range_with_len 0 n k d hk)

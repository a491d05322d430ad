-- How the order follows from the ring of the links.
use Rattle.std.proofs.Common.{◌≡◌, ℕ, ◌+◌, ◌<◌, ◌≤◌, List, [], ◌∷◌, ◌++◌, length, reverse, true, false, not, eqb, refl, sym, ap, subst, ◌∙◌, ⊎_elim, arith, ltb, Option, Some, None, slice_get}
use Rattle.std.specs.List.{All, AllByRecursion, IsDistinct, filter, range_with_len}
use Rattle.std.specs.List.Sorted.{IsPermutation}
use Rattle.std.proofs.lemmas.List.Sorted.{All-permutation, IsPermutation-trans, IsPermutation-filter_both, IsPermutation-reverse, Contains-permutation, length_permutation, list_any-IsPermutation}
use Rattle.std.proofs.lemmas.List.FromFn.{length-range_with_len, get_or-range_with_len}
use Rattle.std.proofs.lemmas.Map.Keys.{IsDistinct-head, IsDistinct-tail}
use Rattle.std.proofs.lemmas.Bool.{cases_eq, eq-eqb, ne_eqb, eqb-true, false≢true, or_parts, or_from, or_cases, cond-true, cond-false, lt-ltb, le-ltb, both_ways}
use Rattle.chain_links.specs.Lists.{has, without, Lacks, after, before}
use Rattle.chain_links.specs.Links.{BothWays, next_of, prev_of, flipped, without_node, with_node_before, Leads, ring, IsClosed}
use Rattle.chain_links.proofs.Paths.{All-items_from, first-path, after-path, Leads-flipped}
use Rattle.chain_links.proofs.Rings.{has-from_Contains, All-has, lacks_from, has-without_same, range_with_len_more, IsClosed-without_node, IsClosed-with_node_before, IsDistinct-ring}
use Rattle.order_chain.specs.Order.{IsWhole, order_with_last, position_of, order_of, IsOrdered}

-- what a list of different numbers has of one of them
lacks_from_differ : (y : ℕ) (ys : List ℕ) → AllByRecursion (λ w. eqb y w ≡ false) ys → has y ys ≡ false
lacks_from_differ y [] h = refl
lacks_from_differ y (z ∷ zs) h = or_from (eqb y z) (has y zs) h.0 (lacks_from_differ y zs h.1)

filter-lacking : (p : ℕ) (xs : List ℕ) → has p xs ≡ false → filter (λ x. eqb x p) xs ≡ []
filter-lacking p [] h = refl
filter-lacking p (x ∷ xs) h =
    let parts = or_parts (eqb p x) (has p xs) h in
    cond-false (eqb x p) _ _ (ne_eqb x p (λ e. both_ways (eqb p x) parts.0 (eq-eqb p x (sym e)))) ∙ filter-lacking p xs parts.1

filter-once : (p : ℕ) (xs : List ℕ) → IsDistinct eqb xs → has p xs ≡ true → filter (λ x. eqb x p) xs ≡ p ∷ []
filter-once p [] once h = absurd (false≢true h)
filter-once p (x ∷ xs) once h =
    ⊎_elim
    (λ same. cond-true (eqb x p) _ _ (eq-eqb x p same) ∙ ap (λ ys. x ∷ ys) (filter-lacking p xs
    (subst (λ u. has u xs ≡ false) same (lacks_from_differ x xs (IsDistinct-head eqb x xs once)))) ∙ ap (λ u. u ∷ []) same)
    (λ other.
    let later : has p xs ≡ true = ⊎_elim (λ here. absurd (other (sym (eqb-true p x here)))) (λ there. there) (or_cases (eqb p x) (has p xs) h) in
    cond-false (eqb x p) _ _ (ne_eqb x p other) ∙ filter-once p xs (IsDistinct-tail eqb x xs once) later)
    (cases_eq x p)

-- a number of an order comes to its end
IsPermutation-with_last : (p : ℕ) (xs : List ℕ) → IsDistinct eqb xs → has p xs ≡ true → IsPermutation xs (order_with_last xs p)
IsPermutation-with_last p xs once h =
    subst (λ ys. IsPermutation xs (without p xs ++ ys)) (filter-once p xs once h)
    (IsPermutation-filter_both (λ x. not (eqb x p)) (λ x. eqb x p) (λ x. elim (eqb x p) as (λ b. b ≡ not (not b)) [ true ↦ refl | false ↦ refl ]) xs)

-- what a closed path says of its end and of an item
module _ (m : BothWays) (len : ℕ) (xs : List ℕ) (leads : Leads m len xs len) (below : All (λ x. x < len) xs) where
  no_item : (node : ℕ) (r : Option ℕ) → node ≡ len → r ≡ None → position_of node len ≡ r
  no_item node r at_end none = cond-false (ltb node len) _ _ (le-ltb node len (omega arith)) ∙ sym none

  some_item : (node : ℕ) (r : Option ℕ) → has node xs ≡ true → r ≡ Some node → position_of node len ≡ r
  some_item node r held some' =
      cond-true (ltb node len) _ _ (lt-ltb node len (All-has (λ x. x < len) node xs below held)) ∙ sym some'

  first_of : position_of (next_of m len) len ≡ slice_get xs 0
  first_of = ⊎_elim (λ p. no_item _ _ p.0 p.1) (λ p. some_item _ _ p.0 p.1) (first-path m xs len len leads)

  after_of : (i : ℕ) → has i xs ≡ true → position_of (next_of m i) len ≡ after i xs
  after_of i held = ⊎_elim (λ p. no_item _ _ p.0 p.1) (λ p. some_item _ _ p.0 p.1) (after-path m xs len len i leads held)

module _ (l : BothWays) (len : ℕ) (ok : IsOrdered l len) where
  pub length-order : length (order_of l len) ≡ len
  length-order = length_permutation _ _ ok.whole ∙ length-range_with_len 0 len

  pub IsWhole-order : IsWhole (order_of l len)
  IsWhole-order = rw length-order ok.whole

  has-order : (p : ℕ) → p < len → has p (order_of l len) ≡ true
  has-order p hp =
      let within : p < length (range_with_len 0 len) = rw length-range_with_len hp in
      has-from_Contains p _ (Contains-permutation (range_with_len 0 len) (order_of l len) p ok.whole (p, within, omega (arith, get_or-range_with_len 0 len p p hp)))

  leads : Leads l len (order_of l len) len
  leads = ok.closed.closed len (omega arith) (omega arith)

  below : All (λ x. x < len) (order_of l len)
  below = All-items_from l.next len len (next_of l len)

  leads_back : Leads (flipped l) len (reverse (order_of l len)) len
  leads_back = Leads-flipped l (order_of l len) len len leads

  below_back : All (λ x. x < len) (reverse (order_of l len))
  below_back = All-permutation (λ x. x < len) _ _ (IsPermutation-reverse (order_of l len)) below

  -- what the links say of an end and of a position
  pub first_says : position_of (next_of l len) len ≡ slice_get (order_of l len) 0
  first_says = first_of l len (order_of l len) leads below

  pub last_says : position_of (prev_of l len) len ≡ slice_get (reverse (order_of l len)) 0
  last_says = first_of (flipped l) len (reverse (order_of l len)) leads_back below_back

  pub after_says : (p : ℕ) → p < len → position_of (next_of l p) len ≡ after p (order_of l len)
  after_says p hp = after_of l len (order_of l len) leads below p (has-order p hp)

  pub before_says : (p : ℕ) → p < len → position_of (prev_of l p) len ≡ before p (order_of l len)
  before_says p hp =
      after_of (flipped l) len (reverse (order_of l len)) leads_back below_back p (sym (list_any-IsPermutation (eqb p) _ _ (IsPermutation-reverse (order_of l len))) ∙ has-order p hp)

  -- a position comes to the end
  pub IsOrdered-moved : (p : ℕ) → p < len → IsOrdered (with_node_before (without_node l p) p len) len × (order_of (with_node_before (without_node l p) p len) len ≡ order_with_last (order_of l len) p)
  IsOrdered-moved p hp =
      let up : len ≤ len = omega arith in
      let below : len < len + 1 = omega arith in
      let (taken, shorter) = IsClosed-without_node l len (len + 1) ok.closed p len up below (has-order p hp) in
      let gone = λ (h : ℕ) (up : len ≤ h) (hn : h < len + 1). lacks_from p (ring (without_node l p) len h)
      (λ held. both_ways _ (has-without_same p (ring l len h)) (subst (λ xs. has p xs ≡ true) (shorter h up hn) (has-from_Contains p _ held))) in
      let (closed, longer) = IsClosed-with_node_before (without_node l p) len (len + 1) taken p hp (omega arith) gone len up below in
      let same : order_of (with_node_before (without_node l p) p len) len ≡ order_with_last (order_of l len) p =
      longer len up below ∙ cond-true (eqb len len) _ _ (eq-eqb len len refl) ∙ ap (λ xs. xs ++ p ∷ []) (shorter len up below) in
      let moved = IsPermutation-with_last p (order_of l len) (IsDistinct-ring l len (len + 1) ok.closed len up below) (has-order p hp) in
      (record { closed = closed; whole = rw same (IsPermutation-trans _ _ _ ok.whole moved) }, same)

-- a position of the order is below its length
pub position_below : (l : BothWays) (len p : ℕ) (order : List ℕ) → IsOrdered l len → order_of l len ≡ order → p < length order → p < len
position_below l len p order ok is hp = omega (arith, length-order l len ok, ap length is)

-- the links when a position was taken out, and when it was put at the end
pub IsClosed-taken : (l l' : BothWays) (len p : ℕ) → IsOrdered l len → p < len → l' ≡ without_node l p → IsClosed l' len (len + 1)
IsClosed-taken l l' len p ok hp set' =
    rw set' (IsClosed-without_node l len (len + 1) ok.closed p len (omega arith) (omega arith) (has-order l len ok p hp)).0

pub record Becomes (l : BothWays) (len m : ℕ) (order : List ℕ) : Type 0 where
  pub ordered : IsOrdered l len
  pub is : order_of l len ≡ order
  pub whole : IsWhole (order_of l len)
  pub same_len : length (order_of l len) ≡ m

pub Becomes-moved : (l l' : BothWays) (len p : ℕ) (order : List ℕ) → IsOrdered l len → order_of l len ≡ order → p < length order
    → l' ≡ with_node_before (without_node l p) p len → Becomes l' len (length order) (order_with_last order p)
Becomes-moved l l' len p order ok is hp set' =
    let (ordered, same) = IsOrdered-moved l len ok p (position_below l len p order ok is hp) in
    let r : Becomes (with_node_before (without_node l p) p len) len (length order) (order_with_last order p) =
    record {
      ordered = ordered;
      is = same ∙ ap (λ xs. order_with_last xs p) is;
      whole = IsWhole-order _ len ordered;
      same_len = length-order _ len ordered
          ∙ sym (length-order l len ok) ∙ ap length is;
    } in
    rw set' r

-- positions come one by one into an empty order
pub IsClosed-appended : (l : BothWays) (len p : ℕ) → IsClosed l len (len + 1) → order_of l len ≡ range_with_len 0 p → p < len
    → IsClosed (with_node_before l p len) len (len + 1) × (order_of (with_node_before l p len) len ≡ range_with_len 0 (p + 1))
IsClosed-appended l len p ok is hp =
    let up : len ≤ len = omega arith in
    let below : len < len + 1 = omega arith in
    let later = λ (h : ℕ) (up : len ≤ h) (hn : h < len + 1). let at_len : len ≡ h = omega arith in subst (λ u. Lacks p (ring l len u)) at_len (rw is (range_lacks p)) in
    let (closed, longer) = IsClosed-with_node_before l len (len + 1) ok p hp (omega arith) later len up below in
    (closed, longer len up below ∙ cond-true (eqb len len) _ _ (eq-eqb len len refl) ∙ ap (λ xs. xs ++ p ∷ []) is ∙ sym (range_with_len_more p))
  where
    range_lacks : (n : ℕ) → Lacks n (range_with_len 0 n)
    range_lacks n k d hk e =
        let within : k < n = omega (arith, length-range_with_len 0 n) in
        omega (arith, get_or-range_with_len 0 n k d within)

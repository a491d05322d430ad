-- What becomes of a path when links are set.
use Rattle.std.proofs.Common.{◌≡◌, ◌≢◌, ℕ, zero, suc, ◌<◌, ◌≤◌, List, [], ◌∷◌, ◌++◌, length, reverse, true, false, eqb, ltb, refl, sym, ap, ◌∙◌, arith, subst, ⊎_elim, ◌⊎◌, inl, inr, length-set, Some, None, slice_get, get_or, get_or-set_same, get_or-set_other}
use Rattle.std.specs.List.{All, IsDistinct, AllByRecursion}
use Rattle.std.proofs.lemmas.List.Elements.{All-head, All-tail, All-nil, All-cons}
use Rattle.std.proofs.lemmas.Bool.{false≢true, eqb-true, eq-eqb, ne_eqb, cases_eq, false_from_ne_true, or_parts, or_cases, or_left, or_right, both_ways, cond-true, cond-false, cond_both, ltb-true, lt-ltb, le-ltb}
use Rattle.std.proofs.lemmas.Grind.{reverse_onto}
use Rattle.chain_links.specs.Lists.{Lacks, without, has, after}
use Rattle.chain_links.specs.Links.{BothWays, next_of, prev_of, with_link, flipped, AreLinked, Leads, items_from}

-- the two links that are set
pub AreLinked-with_link : (l : BothWays) (a b : ℕ) → a < length l.next → b < length l.prev → AreLinked (with_link l a b) a b
AreLinked-with_link l a b ha hb = (get_or-set_same l.next a b 0 ha, get_or-set_same l.prev b a 0 hb)

-- any other link stays
pub AreLinked-with_link_other : (l : BothWays) (a b x y : ℕ) → AreLinked l x y → x ≢ a → y ≢ b → AreLinked (with_link l a b) x y
AreLinked-with_link_other l a b x y h xa yb =
    (get_or-set_other l.next a x b 0 xa ∙ h.0, get_or-set_other l.prev b y a 0 yb ∙ h.1)

-- a path that lacks i, when both links that are set touch i alone
module _ (l : BothWays) (i : ℕ) where
  pub Leads-loosened : (x : ℕ) (xs : List ℕ) (e : ℕ) → Leads l x xs e → x ≢ i → e ≢ i → Lacks i xs → Leads (with_link l i i) x xs e
  Leads-loosened x [] e h xi ei lacks = AreLinked-with_link_other l i i x e h xi ei
  Leads-loosened x (y ∷ ys) e h xi ei lacks =
      let yi = All-head (λ z. z ≢ i) y ys lacks in
      (AreLinked-with_link_other l i i x y h.0 xi yi, Leads-loosened y ys e h.1 yi ei (All-tail (λ z. z ≢ i) y ys lacks))

pub without-same : (i y : ℕ) (ys : List ℕ) → y ≡ i → without i (y ∷ ys) ≡ without i ys
without-same i y ys e = rw (eq-eqb y i e)

pub without-other : (i y : ℕ) (ys : List ℕ) → y ≢ i → without i (y ∷ ys) ≡ y ∷ without i ys
without-other i y ys ne = rw (ne_eqb y i ne)

-- a path when i, which stands between a and b, is taken out
module _ (l : BothWays) (i a b : ℕ) (ha : a < length l.next) (hb : b < length l.prev) (before : AreLinked l a i) (behind : AreLinked l i b) (b≢i : b ≢ i) where
  AreLinked-without_node : (x y : ℕ) → AreLinked l x y → x ≢ i → y ≢ i → AreLinked (with_link l a b) x y
  AreLinked-without_node x y h xi yi = AreLinked-with_link_other l a b x y h (λ e. yi (cc)) (λ e. xi (cc))

  AreLinked-over : (x y : ℕ) → AreLinked l x i → AreLinked l i y → AreLinked (with_link l a b) x y
  AreLinked-over x y g h =
      subst (λ u. AreLinked (with_link l a b) u y) (sym before.1 ∙ g.1) (subst (λ u. AreLinked (with_link l a b) a u) (sym behind.0 ∙ h.0) (AreLinked-with_link l a b ha hb))

  mutual
    -- from a node before i or behind it
    pub Leads-without_node : (xs : List ℕ) (x e : ℕ) → Leads l x xs e → x ≢ i → e ≢ i → Leads (with_link l a b) x (without i xs) e
    Leads-without_node [] x e h xi ei = AreLinked-without_node x e h xi ei
    Leads-without_node (y ∷ ys) x e h xi ei =
        let to = λ (ws : List ℕ). Leads (with_link l a b) x ws e in
        ⊎_elim
        (λ same. subst to (sym (without-same i y ys same)) (Leads-skipped ys x e (subst (λ u. AreLinked l x u) same h.0) (subst (λ u. Leads l u ys e) same h.1) ei))
        (λ ne. subst to (sym (without-other i y ys ne)) (AreLinked-without_node x y h.0 xi ne, Leads-without_node ys y e h.1 ne ei))
        (cases_eq y i)

    -- from the node before i, over i
    Leads-skipped : (zs : List ℕ) (x e : ℕ) → AreLinked l x i → Leads l i zs e → e ≢ i → Leads (with_link l a b) x (without i zs) e
    Leads-skipped [] x e g h ei = AreLinked-over x e g h
    Leads-skipped (z ∷ zs) x e g h ei =
        let zi = λ (same : z ≡ i). b≢i (sym behind.0 ∙ h.0.0 ∙ same) in
        subst (λ ws. Leads (with_link l a b) x ws e) (sym (without-other i z zs zi)) (AreLinked-over x z g h.0, Leads-without_node zs z e h.1 zi ei)

-- the paths when i, which no path meets, is put between a and h
module _ (l : BothWays) (i h a : ℕ) (ha : a < length l.next) (i_next : i < length l.next) (i_prev : i < length l.prev) (hh : h < length l.prev)
    (last : AreLinked l a h) (i≢h : i ≢ h) (a≢i : a ≢ i) where
  AreLinked-apart : (x y : ℕ) → AreLinked l x y → x ≢ i → y ≢ i → y ≢ h → AreLinked (with_link (with_link l a i) i h) x y
  AreLinked-apart x y g xi yi yh =
      AreLinked-with_link_other (with_link l a i) i h x y (AreLinked-with_link_other l a i x y g (λ e. yh (cc)) yi) xi yh

  -- one that does not end at h stays
  pub Leads-apart : (xs : List ℕ) (x e : ℕ) → Leads l x xs e → x ≢ i → e ≢ i → e ≢ h → Lacks i xs → Lacks h xs → Leads (with_link (with_link l a i) i h) x xs e
  Leads-apart [] x e g xi ei eh no_i no_h = AreLinked-apart x e g xi ei eh
  Leads-apart (y ∷ ys) x e g xi ei eh no_i no_h =
      let yi = All-head (λ z. z ≢ i) y ys no_i in
      (AreLinked-apart x y g.0 xi yi (All-head (λ z. z ≢ h) y ys no_h), Leads-apart ys y e g.1 yi ei eh (All-tail (λ z. z ≢ i) y ys no_i) (All-tail (λ z. z ≢ h) y ys no_h))

  -- the one that ends at h meets i last
  pub Leads-with_node_before : (xs : List ℕ) (x : ℕ) → Leads l x xs h → x ≢ i → Lacks i xs → Lacks h xs → Leads (with_link (with_link l a i) i h) x (xs ++ i ∷ []) h
  Leads-with_node_before [] x g xi no_i no_h =
      let l' = with_link l a i in
      let from_a = AreLinked-with_link_other l' i h a i (AreLinked-with_link l a i ha i_prev) a≢i i≢h in
      let to_h = AreLinked-with_link l' i h (rw length-set i_next) (rw length-set hh) in
      (subst (λ u. AreLinked (with_link l' i h) u i) (sym last.1 ∙ g.1) from_a, to_h)
  Leads-with_node_before (y ∷ ys) x g xi no_i no_h =
      let yi = All-head (λ z. z ≢ i) y ys no_i in
      (AreLinked-apart x y g.0 xi yi (All-head (λ z. z ≢ h) y ys no_h), Leads-with_node_before ys y g.1 yi (All-tail (λ z. z ≢ i) y ys no_i) (All-tail (λ z. z ≢ h) y ys no_h))

differ_from_lacks : (y : ℕ) (ys : List ℕ) → has y ys ≡ false → AllByRecursion (λ w. eqb y w ≡ false) ys
differ_from_lacks y [] lacks = tt
differ_from_lacks y (z ∷ zs) lacks =
    let p = or_parts (eqb y z) (has y zs) lacks in
    (p.0, differ_from_lacks y zs p.1)

-- what a path says of the nodes that it meets
module _ (l : BothWays) where
  -- the previous node of an item of the path is the item before it, or the path's start
  pub has-prev : (xs : List ℕ) (x e z : ℕ) → Leads l x xs e → has z xs ≡ true → (prev_of l z ≡ x) ⊎ (has (prev_of l z) xs ≡ true)
  has-prev [] x e z h has_z = absurd (false≢true has_z)
  has-prev (y ∷ ys) x e z h has_z =
      ⊎_elim
      (λ here. inl (ap (prev_of l) (eqb-true z y here) ∙ h.0.1))
      (λ later. inr (⊎_elim (λ first. or_left (eqb (prev_of l z) y) _ (eq-eqb _ _ first)) (λ there. or_right (eqb (prev_of l z) y) _ there) (has-prev ys y e z h.1 later)))
      (or_cases (eqb z y) (has z ys) has_z)

  pub first-linked : (xs : List ℕ) (x e : ℕ) → Leads l x xs e → AreLinked l x (next_of l x)
  first-linked [] x e h = (refl, ap (prev_of l) h.0 ∙ h.1)
  first-linked (y ∷ ys) x e h = (refl, ap (prev_of l) h.0.0 ∙ h.0.1)

  pub last-linked : (xs : List ℕ) (x e : ℕ) → Leads l x xs e → AreLinked l (prev_of l e) e
  last-linked [] x e h = (ap (next_of l) h.1 ∙ h.0, refl)
  last-linked (y ∷ ys) x e h = last-linked ys y e h.1

  -- the node before the end is the last item, or the start
  pub has-last : (xs : List ℕ) (x e : ℕ) → Leads l x xs e → (prev_of l e ≡ x) ⊎ (has (prev_of l e) xs ≡ true)
  has-last [] x e h = inl h.1
  has-last (y ∷ ys) x e h =
      inr (⊎_elim (λ same. or_left (eqb (prev_of l e) y) _ (eq-eqb _ _ same)) (λ there. or_right (eqb (prev_of l e) y) _ there) (has-last ys y e h.1))

  -- an item is linked to both its neighbours
  pub has-linked : (xs : List ℕ) (x e z : ℕ) → Leads l x xs e → has z xs ≡ true → AreLinked l (prev_of l z) z × AreLinked l z (next_of l z)
  has-linked [] x e z h has_z = absurd (false≢true has_z)
  has-linked (y ∷ ys) x e z h has_z =
      ⊎_elim
      (λ here. subst (λ u. AreLinked l (prev_of l u) u × AreLinked l u (next_of l u)) (sym (eqb-true z y here)) ((ap (next_of l) h.0.1 ∙ h.0.0, refl), first-linked ys y e h.1))
      (λ later. has-linked ys y e z h.1 later)
      (or_cases (eqb z y) (has z ys) has_z)

  -- an item that is its own neighbour is the start
  pub own_prev : (xs : List ℕ) (x e z : ℕ) → Leads l x xs e → has z xs ≡ true → prev_of l z ≡ z → z ≡ x
  own_prev [] x e z h has_z own = absurd (false≢true has_z)
  own_prev (y ∷ ys) x e z h has_z own =
      let at_y = λ (same : z ≡ y). sym own ∙ ap (prev_of l) same ∙ h.0.1 in
      ⊎_elim (λ here. at_y (eqb-true z y here)) (λ later. at_y (own_prev ys y e z h.1 later own)) (or_cases (eqb z y) (has z ys) has_z)

  -- the first item of a path
  pub first-path : (xs : List ℕ) (x e : ℕ) → Leads l x xs e → ((next_of l x ≡ e) × (slice_get xs 0 ≡ None)) ⊎ ((has (next_of l x) xs ≡ true) × (slice_get xs 0 ≡ Some (next_of l x)))
  first-path [] x e h = inl (h.0, refl)
  first-path (y ∷ ys) x e h = inr (or_left (eqb (next_of l x) y) _ (eq-eqb _ _ h.0.0), ap Some (sym h.0.0))

  -- the item behind an item
  pub after-path : (xs : List ℕ) (x e i : ℕ) → Leads l x xs e → has i xs ≡ true → ((next_of l i ≡ e) × (after i xs ≡ None)) ⊎ ((has (next_of l i) xs ≡ true) × (after i xs ≡ Some (next_of l i)))
  after-path [] x e i h has_i = absurd (false≢true has_i)
  after-path (y ∷ ys) x e i h has_i =
      let later = λ (w : has (next_of l i) ys ≡ true). or_right (eqb (next_of l i) y) _ w in
      ⊎_elim
      (λ here.
      let head = cond-true (eqb y i) (slice_get ys 0) (after i ys) (eq-eqb y i here) in
      ⊎_elim (λ p. inl (p.0, head ∙ p.1)) (λ p. inr (later p.0, head ∙ p.1)) (first-path ys i e (subst (λ u. Leads l u ys e) here h.1)))
      (λ differ.
      let tail = cond-false (eqb y i) (slice_get ys 0) (after i ys) (ne_eqb y i differ) in
      let has_later : has i ys ≡ true = ⊎_elim (λ same. absurd (differ (sym (eqb-true i y same)))) (λ there. there) (or_cases (eqb i y) (has i ys) has_i) in
      ⊎_elim (λ p. inl (p.0, tail ∙ p.1)) (λ p. inr (later p.0, tail ∙ p.1)) (after-path ys y e i h.1 has_later))
      (cases_eq y i)

  -- two paths that share an item: the start of the one is that of the other, or an item of it
  pub meet : (xs ys : List ℕ) (x e x' e' z : ℕ) → Leads l x xs e → Leads l x' ys e' → has x' xs ≡ false → has z xs ≡ true → has z ys ≡ true → (x ≡ x') ⊎ (has x ys ≡ true)
  meet [] ys x e x' e' z h k lacks in_xs in_ys = absurd (false≢true in_xs)
  meet (y ∷ xs) ys x e x' e' z h k lacks in_xs in_ys =
      let parts = or_parts (eqb x' y) (has x' xs) lacks in
      let back = λ (y_in : has y ys ≡ true). subst (λ u. (u ≡ x') ⊎ (has u ys ≡ true)) h.0.1 (has-prev ys x' e' y k y_in) in
      ⊎_elim
      (λ here. back (subst (λ u. has u ys ≡ true) (eqb-true z y here) in_ys))
      (λ later. ⊎_elim (λ same. absurd (both_ways (eqb x' y) parts.0 (eq-eqb x' y (sym same)))) back (meet xs ys y e x' e' z h.1 k parts.1 later in_ys))
      (or_cases (eqb z y) (has z xs) in_xs)

  -- no item is met twice
  pub IsDistinct-path : (xs : List ℕ) (x e : ℕ) → Leads l x xs e → has x xs ≡ false → IsDistinct eqb xs
  unfolding IsDistinct
  IsDistinct-path [] x e h no_x = tt
  IsDistinct-path (y ∷ ys) x e h no_x =
      let parts = or_parts (eqb x y) (has x ys) no_x in
      let no_y : has y ys ≡ false =
      false_from_ne_true (has y ys) (λ has_y. ⊎_elim (λ same. both_ways (eqb x y) parts.0 (eq-eqb x y (sym h.0.1 ∙ same)))
      (λ there. both_ways (has x ys) parts.1 (subst (λ u. has u ys ≡ true) h.0.1 there)) (has-prev ys y e y h.1 has_y)) in
      (differ_from_lacks y ys no_y, IsDistinct-path ys y e h.1 no_y)

  -- following the links gives the path
  pub items_from-path : (items most : ℕ) (xs : List ℕ) (x e : ℕ) → Leads l x xs e → All (λ y. y < items) xs → items ≤ e → length xs ≤ most → items_from l.next items most (next_of l x) ≡ xs
  items_from-path items zero [] x e h below out short = refl
  items_from-path items (suc most) [] x e h below out short =
      cond-false (ltb (next_of l x) items) _ _ (le-ltb _ _ (omega (arith, h.0)))
  items_from-path items zero (y ∷ ys) x e h below out short = absurd (omega arith)
  items_from-path items (suc most) (y ∷ ys) x e h below out short =
      rw h.0.0 (cond-true (ltb y items) _ _ (lt-ltb _ _ (All-head (λ y. y < items) y ys below))
      ∙ ap (λ t. y ∷ t) (items_from-path items most ys y e h.1 (All-tail (λ y. y < items) y ys below) out (omega arith)))

-- a path with one more link at its end
Leads-push : (l : BothWays) (xs : List ℕ) (x y e : ℕ) → Leads l x xs y → AreLinked l y e → Leads l x (xs ++ y ∷ []) e
Leads-push l [] x y e h k = (h, k)
Leads-push l (z ∷ zs) x y e h k = (h.0, Leads-push l zs z y e h.1 k)

-- a path read the other way round
pub Leads-flipped : (l : BothWays) (xs : List ℕ) (x e : ℕ) → Leads l x xs e → Leads (flipped l) e (reverse xs) x
Leads-flipped l [] x e h = (h.1, h.0)
Leads-flipped l (y ∷ ys) x e h =
    subst (λ zs. Leads (flipped l) e zs x) (sym (reverse_onto ys y [])) (Leads-push (flipped l) (reverse ys) e y x (Leads-flipped l ys y e h.1) (h.0.1, h.0.0))

-- following meets items alone
pub All-items_from : (next : List ℕ) (items most x : ℕ) → All (λ y. y < items) (items_from next items most x)
All-items_from next items zero x = All-nil (λ y. y < items)
All-items_from next items (suc most) x =
    cond_both (ltb x items) _ _ (All (λ y. y < items)) (λ yes. All-cons (λ y. y < items) x _ (ltb-true x items yes) (All-items_from next items most (get_or next x 0))) (λ _. All-nil (λ y. y < items))

pub length-items_from : (next : List ℕ) (items most x : ℕ) → length (items_from next items most x) ≤ most
length-items_from next items zero x = omega arith
length-items_from next items (suc most) x =
    cond_both (ltb x items) _ _ (λ ys. length ys ≤ suc most) (λ _. omega (arith, length-items_from next items most (get_or next x 0))) (λ _. omega arith)

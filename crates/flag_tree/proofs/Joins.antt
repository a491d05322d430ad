-- What the joined nodes say of the flags.
use Rattle.std.proofs.Common.{◌≡◌, ◌≢◌, ℕ, zero, suc, ◌+◌, ◌*◌, ◌/◌, ◌^◌, ◌<◌, ◌≤◌, Bool, true, false, ◌||◌, ◌⊎◌, List, length, drop, sym, ap, ◌∙◌, ⊎_elim, add-one, arith}
use Rattle.std.proofs.lemmas.Bool.{cases_eq, cases_lt, or_parts}
use Rattle.std.proofs.lemmas.List.{get_or_past, get_or-drop}
use Rattle.std.proofs.Math.Nat.{pow-succ'}
use Rattle.flag_tree.specs.Flags.{is_set, NoneSet}
use Rattle.flag_tree.specs.Tree.{AreJoinedBut}

pub pow_positive : (n : ℕ) → 0 < 2 ^ n
pow_positive zero = omega arith
pow_positive (suc n) = omega (arith, pow-succ' 2 n, pow_positive n)

-- twice as many nodes in each next level
pub level_doubles : (level : ℕ) → 2 ^ (level + 1) ≡ 2 * 2 ^ level
level_doubles level = rw add-one (pow-succ' 2 level)

-- each level above the leaves has fewer nodes
pub level_below : (height level : ℕ) → level < height → 2 * 2 ^ level ≤ 2 ^ height
level_below zero level lt = absurd (omega arith)
level_below (suc height) zero lt = omega (arith, pow-succ' 2 height, pow_positive height)
level_below (suc height) (suc level) lt = omega (arith, pow-succ' 2 height, pow-succ' 2 level, level_below height level (omega arith))

module _ (nodes : List Bool) (leaves : ℕ) (h : AreJoinedBut 0 leaves nodes) where
  -- below a node that is not set none is
  pub unset_below : (j : ℕ) → 0 < j / 2 → j / 2 < leaves → is_set nodes (j / 2) ≡ false → is_set nodes j ≡ false
  unset_below j some lt off =
      let both = or_parts (is_set nodes (2 * (j / 2))) (is_set nodes (2 * (j / 2) + 1)) (sym (h (j / 2) some lt (λ e. omega arith)) ∙ off) in
      ⊎_elim
      (λ (e : j ≡ 2 * (j / 2)). ap (is_set nodes) e ∙ both.0)
      (λ (ne : j ≢ 2 * (j / 2)). let odd : j ≡ 2 * (j / 2) + 1 = omega arith in ap (is_set nodes) odd ∙ both.1)
      (cases_eq j (2 * (j / 2)))

  all_unset : (most j : ℕ) → length nodes ≡ 2 * leaves → is_set nodes 1 ≡ false → 0 < j → j ≤ most → is_set nodes j ≡ false
  all_unset zero j len off some le = absurd (omega arith)
  all_unset (suc most) j len off some le =
      ⊎_elim
      (λ (e : j ≡ 1). ap (is_set nodes) e ∙ off)
      (λ (ne : j ≢ 1). ⊎_elim
      (λ (within : j < length nodes). unset_below j (omega arith) (omega arith) (all_unset most (j / 2) len off (omega arith) (omega arith)))
      (λ (past : length nodes ≤ j). get_or_past nodes j false past)
      (cases_lt j (length nodes)))
      (cases_eq j 1)

  -- no flag is set where the root is not
  pub NoneSet-root : length nodes ≡ 2 * leaves → 0 < leaves → is_set nodes 1 ≡ false → NoneSet (drop leaves nodes)
  NoneSet-root len some off i = get_or-drop leaves nodes i false ∙ all_unset (leaves + i) (leaves + i) len off (omega arith) (omega arith)

  -- below a node that is set the left one is, or else the right one
  pub right_set : (k : ℕ) → 0 < k → k < leaves → is_set nodes k ≡ true → is_set nodes (2 * k) ≡ false → is_set nodes (2 * k + 1) ≡ true
  right_set k some lt on off =
      ap (λ b. b || is_set nodes (2 * k + 1)) (sym off) ∙ sym (h k some lt (λ e. omega arith)) ∙ on

  -- the nodes before the next one are not set, where those before node k are not
  pub first_below : (low k next j : ℕ) → 0 < low → k < leaves → ((i : ℕ) → low ≤ i → i < k → is_set nodes i ≡ false) → (next ≡ 2 * k)
      ⊎ ((next ≡ 2 * k + 1) × (is_set nodes (2 * k) ≡ false)) → 2 * low ≤ j → j < next → is_set nodes j ≡ false
  first_below low k next j some lt before which le less =
      ⊎_elim
      (λ (left : j / 2 < k). unset_below j (omega arith) (omega arith) (before (j / 2) (omega arith) left))
      (λ (here : k ≤ j / 2). ⊎_elim
      (λ (one : next ≡ 2 * k). absurd (omega arith))
      (λ (two : (next ≡ 2 * k + 1) × (is_set nodes (2 * k) ≡ false)). let e : j ≡ 2 * k = omega (arith, two.0) in ap (is_set nodes) e ∙ two.1)
      which)
      (cases_lt (j / 2) k)

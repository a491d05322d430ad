-- A ray from a feasible point makes the objective better without end.
use Rattle.std.proofs.Common.{◌≡◌, ℕ, ◌<◌, List, map, length, Option, Some, None, sym, ◌∙◌, ap, subst, arith}
use Rattle.std.proofs.lemmas.Int.{ints}
use Rattle.rational.specs.Rational.{ℚ, zero_ℚ, one_ℚ, ◌+ℚ◌, ◌-ℚ◌, ◌*ℚ◌, neg_ℚ, inverse, ◌≤ℚ◌, ◌<ℚ◌}
use Rattle.rational.proofs.RationalRing.{ring_ℚ}
use Rattle.rational.proofs.Ring.{◌≐◌, ◌⊙◌≗◌⟹◌, ◌⊕◌, ◌⊖◌, ◌⊗◌, ⊝◌, 𝟘, 𝟙}
use Rattle.rational.proofs.Linear.{linear, ◌≼◌, ◌≺◌, ◌≐◌, ◌⟹◌, never}
use Rattle.rational.specs.Sum.{sum_ℚ, at}
use Rattle.rational.proofs.FieldLaws.{*ℚ-inverse}
use Rattle.rational.proofs.ProductOrder.{*ℚ_nonnegative, inverse_positive}
use Rattle.rational.proofs.OrderLaws.{by_lt_ℚ}
use Rattle.rational.proofs.SumLaws.{sum-add, sum-cong, sum-scale}
use Rattle.lp_model.specs.Certificate.{Ray}
use Rattle.lp_model.specs.Deck.{Deck, Interval, IsFeasible, NotAbove, NotBelow, Within, activity, activity_interval, column, cost_at, entry, in_sense, objective, row}
use Rattle.rational.specs.Sparse.{upto}
use Rattle.rational.proofs.VectorLaws.{get-map-upto, length-map-upto}
use Rattle.lp_laws.proofs.Senses.{in_sense-+, in_sense-*}

-- ── a number that moves within an interval ──

module _ (a r s : ℚ) (forward : zero_ℚ ≤ℚ s) where
  -- a number that does not fall stays above a lower end
  kept_above : (lower : Option ℚ) → zero_ℚ ≤ℚ r → NotBelow lower a → NotBelow lower (a +ℚ s *ℚ r)
  kept_above None sign h = tt
  kept_above (Some l) sign h =
      linear 3 (λ a p l. l ≼ a ⟹ 𝟘 ≼ p ⟹ l ≼ a ⊕ p) (omega (arith, ints)) a (s *ℚ r) l h (*ℚ_nonnegative s r forward sign)

  -- a number that does not rise stays below an upper end
  kept_below : (upper : Option ℚ) → r ≤ℚ zero_ℚ → NotAbove upper a → NotAbove upper (a +ℚ s *ℚ r)
  kept_below None sign h = tt
  kept_below (Some u) sign h =
      linear 4 (λ a p n u. a ≼ u ⟹ 𝟘 ≼ n ⟹ n ≐ ⊝ p ⟹ a ⊕ p ≼ u) (omega (arith, ints)) a (s *ℚ r) (s *ℚ neg_ℚ r) u h
      (*ℚ_nonnegative s (neg_ℚ r) forward (linear 1 (λ r. r ≼ 𝟘 ⟹ 𝟘 ≼ ⊝ r) (omega (arith, ints)) r sign))
      (ring_ℚ 2 (λ s r. s ⊗ (⊝ r) ≐ ⊝ (s ⊗ r)) tt s r)

  -- where an interval has no end in the direction of a move, no length of it leaves the interval
  moved_within : (i : Interval) → (zero_ℚ <ℚ r → i.upper ≡ None) → (r <ℚ zero_ℚ → i.lower ≡ None) → Within i a → Within i (a +ℚ s *ℚ r)
  moved_within i rises falls within = (
    by_lt_ℚ r zero_ℚ (λ h. subst (λ e. NotBelow e (a +ℚ s *ℚ r)) (sym (falls h)) tt) (λ h. kept_above i.lower h within.0),
    by_lt_ℚ zero_ℚ r (λ h. subst (λ e. NotAbove e (a +ℚ s *ℚ r)) (sym (rises h)) tt) (λ h. kept_below i.upper h within.1),
  )

-- ── a length that makes a falling number small ──

-- from o, at a rate c below 0, a number is below v after some length
abbrev FallsBelow : ℚ → ℚ → ℚ → Type 0
FallsBelow o c v = (s : ℚ) × (zero_ℚ ≤ℚ s) × (o +ℚ s *ℚ c <ℚ v)

module _ (o c v : ℚ) (sign : c <ℚ zero_ℚ) where
  size_positive : zero_ℚ <ℚ neg_ℚ c
  size_positive = linear 1 (λ c. c ≺ 𝟘 ⟹ 𝟘 ≺ ⊝ c) (omega (arith, ints)) c sign

  inverse_is : neg_ℚ c *ℚ inverse (neg_ℚ c) ≡ one_ℚ
  inverse_is = *ℚ-inverse (neg_ℚ c) (linear 1 (λ n. 𝟘 ≺ n ⟹ n ≐ 𝟘 ⟹ never) (omega (arith, ints)) (neg_ℚ c) size_positive)

  -- the length at which the number would be v
  abbrev length_to : ℚ
  length_to = (o -ℚ v) *ℚ inverse (neg_ℚ c)

  length_nonnegative : v ≤ℚ o → zero_ℚ ≤ℚ length_to
  length_nonnegative h =
      *ℚ_nonnegative (o -ℚ v) (inverse (neg_ℚ c)) (linear 2 (λ o v. v ≼ o ⟹ 𝟘 ≼ o ⊖ v) (omega (arith, ints)) o v h)
      (linear 1 (λ i. 𝟘 ≺ i ⟹ 𝟘 ≼ i) (omega (arith, ints)) (inverse (neg_ℚ c)) (inverse_positive (neg_ℚ c) size_positive))

  value_then : o +ℚ (length_to +ℚ one_ℚ) *ℚ c ≡ v +ℚ c
  value_then =
      ring_ℚ 4 (λ o v c i. (v ⊖ o) ⊙ (⊝ c) ⊗ i ≗ 𝟙 ⟹ o ⊕ ((o ⊖ v) ⊗ i ⊕ 𝟙) ⊗ c ≐ v ⊕ c) tt o v c (inverse (neg_ℚ c)) inverse_is

  falls_at_once : o <ℚ v → FallsBelow o c v
  falls_at_once h = (
    zero_ℚ,
    linear 0 (𝟘 ≼ 𝟘) (omega (arith, ints)),
    linear 3 (λ w o v. w ≐ o ⟹ o ≺ v ⟹ w ≺ v) (omega (arith, ints)) (o +ℚ zero_ℚ *ℚ c) o v (ring_ℚ 2 (λ o c. o ⊕ 𝟘 ⊗ c ≐ o) tt o c) h,
  )

  falls_later : v ≤ℚ o → FallsBelow o c v
  falls_later h = (
    length_to +ℚ one_ℚ,
    linear 1 (λ q. 𝟘 ≼ q ⟹ 𝟘 ≼ q ⊕ 𝟙) (omega (arith, ints)) length_to (length_nonnegative h),
    linear 3 (λ w v c. w ≐ v ⊕ c ⟹ c ≺ 𝟘 ⟹ w ≺ v) (omega (arith, ints)) (o +ℚ (length_to +ℚ one_ℚ) *ℚ c) v c value_then sign,
  )

  falls_below : FallsBelow o c v
  falls_below = by_lt_ℚ o v falls_at_once falls_later

-- ── the points along a ray ──

module _ (d : Deck) (x r : List ℚ) (ray : Ray d x r) (s : ℚ) (forward : zero_ℚ ≤ℚ s) where
  -- the point at the length s
  abbrev along : List ℚ
  along = map (λ j. at x j +ℚ s *ℚ at r j) (upto (length d.columns))

  at_along : (j : ℕ) → j < length d.columns → at along j ≡ at x j +ℚ s *ℚ at r j
  at_along j b = get-map-upto (λ j. at x j +ℚ s *ℚ at r j) zero_ℚ (length d.columns) j b

  -- a row of factors takes it to what it takes the point to and s times what it takes the ray to
  sum_along : (f : ℕ → ℚ) → sum_ℚ (length d.columns) (λ j. f j *ℚ at along j)
      ≡ sum_ℚ (length d.columns) (λ j. f j *ℚ at x j) +ℚ s *ℚ sum_ℚ (length d.columns) (λ j. f j *ℚ at r j)
  sum_along f =
      sum-cong (length d.columns) (λ j. f j *ℚ at along j) (λ j. f j *ℚ at x j +ℚ s *ℚ (f j *ℚ at r j))
      (λ j b. ap (λ z. f j *ℚ z) (at_along j b) ∙ ring_ℚ 4 (λ f x s r. f ⊗ (x ⊕ s ⊗ r) ≐ f ⊗ x ⊕ s ⊗ (f ⊗ r)) tt (f j) (at x j) s (at r j))
      ∙ sum-add (length d.columns) (λ j. f j *ℚ at x j) (λ j. s *ℚ (f j *ℚ at r j))
      ∙ ap (λ z. sum_ℚ (length d.columns) (λ j. f j *ℚ at x j) +ℚ z) (sum-scale (length d.columns) s (λ j. f j *ℚ at r j))

  along_feasible : IsFeasible d along
  along_feasible = record {
    one_each = length-map-upto (λ j. at x j +ℚ s *ℚ at r j) (length d.columns);
    columns_within = λ j b. subst (Within (column d j).bounds) (sym (at_along j b))
        (moved_within (at x j) (at r j) s forward (column d j).bounds (ray.column_rises j b) (ray.column_falls j b) (ray.feasible.columns_within j b));
    rows_within = λ i b. subst (Within (activity_interval (row d i))) (sym (sum_along (λ j. entry d i j)))
        (moved_within (activity d x i) (activity d r i) s forward (activity_interval (row d i)) (ray.row_rises i b) (ray.row_falls i b) (ray.feasible.rows_within i b));
  }

  objective_along : objective d along ≡ objective d x +ℚ s *ℚ cost_at d r
  objective_along =
      ap (λ z. d.constant +ℚ z) (sum_along (λ j. (column d j).cost))
      ∙ ring_ℚ 3 (λ k c p. k ⊕ (c ⊕ p) ≐ (k ⊕ c) ⊕ p) tt d.constant (cost_at d x) (s *ℚ cost_at d r)

-- a deck that has a feasible point with a ray has, for each number, a feasible point whose objective is better than it
pub endless : (d : Deck) (x r : List ℚ) → Ray d x r → (v : ℚ) → (x' : List ℚ) × IsFeasible d x' × (in_sense d.sense (objective d x') <ℚ v)
endless d x r ray v =
    let (s, forward, below) = falls_below (in_sense d.sense (objective d x)) (in_sense d.sense (cost_at d r)) v ray.cost_falls in
    (along d x r ray s forward, along_feasible d x r ray s forward, subst (λ o. o <ℚ v) (sym (counted s forward)) below)
  where
    counted : (s : ℚ) (forward : zero_ℚ ≤ℚ s) → in_sense d.sense (objective d (along d x r ray s forward)) ≡ in_sense d.sense (objective d x) +ℚ s *ℚ in_sense d.sense (cost_at d r)
    counted s forward =
        ap (in_sense d.sense) (objective_along d x r ray s forward ∙ ap (λ p. objective d x +ℚ p) (ring_ℚ 2 (λ s c. s ⊗ c ≐ c ⊗ s) tt s (cost_at d r)))
        ∙ in_sense-+ d.sense (objective d x) (cost_at d r *ℚ s) ∙ ap (λ p. in_sense d.sense (objective d x) +ℚ p) (in_sense-* d.sense (cost_at d r) s)
        ∙ ring_ℚ 3 (λ o c s. o ⊕ c ⊗ s ≐ o ⊕ s ⊗ c) tt (in_sense d.sense (objective d x)) (in_sense d.sense (cost_at d r)) s

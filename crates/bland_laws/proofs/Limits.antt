-- What the limits of a step say: the end that a basic value meets, and the distance between the ends of the entering column.
use Rattle.std.proofs.Common.{◌≡◌, ◌≢◌, ℕ, ◌⊎◌, inl, inr, Option, Some, None, Bool, true, false, cond, refl, sym, ◌∙◌, ap, ap₂, subst, arith}
use Rattle.std.proofs.lemmas.Int.{ints}
use Rattle.std.specs.Option.{option_map}
use Rattle.std.specs.declared.cmp.Ordering.TheVariants.{Less, Equal, Greater}
use Rattle.lp_model.specs.declared.Entry.TheVariants.{Flip, Swap}
use Rattle.lp_model.specs.declared.Side.{Side}
use Rattle.lp_model.specs.declared.Side.TheVariants as side
use Rattle.rational.specs.Rational.{ℚ, zero_ℚ, one_ℚ, ◌+ℚ◌, ◌-ℚ◌, ◌*ℚ◌, ◌/ℚ◌, neg_ℚ, abs_ℚ, cmp_ℚ, lt_ℚ, ◌≤ℚ◌, ◌<ℚ◌}
use Rattle.rational.proofs.RationalRing.{ring_ℚ}
use Rattle.rational.proofs.Ring.{◌≐◌, ◌⊙◌≗◌⟹◌, ◌⊕◌, ◌⊖◌, ◌⊗◌, ⊝◌, 𝟘, 𝟙}
use Rattle.rational.proofs.Linear.{linear, ◌≼◌, ◌≺◌, ◌≐◌, ◌⟹◌, never}
use Rattle.rational.proofs.FieldLaws.{/ℚ-*ℚ}
use Rattle.rational.proofs.ProductOrder.{*ℚ_mono, *ℚ_positive}
use Rattle.rational.proofs.OrderLaws.{abs_ℚ-above, abs_ℚ-below, by_cmp, by_lt_ℚ, cmp_ℚ-tests, lt_ℚ-above, lt_ℚ-below}
use Rattle.lp_model.specs.Deck.{Interval, NotAbove, NotBelow, Within}
use Rattle.lp_run.specs.Step.{Limit, direction, distance_by, distance_to, own_limit}

-- ── how numbers compare ──

cmp_below : (a b : ℚ) → a <ℚ b → cmp_ℚ a b ≡ Less
cmp_below a b h = cmp_ℚ-tests a b ∙ ap (λ t. cond t Less (cond (lt_ℚ b a) Greater Equal)) (lt_ℚ-below a b h)

cmp_above : (a b : ℚ) → b <ℚ a → cmp_ℚ a b ≡ Greater
cmp_above a b h =
    cmp_ℚ-tests a b ∙ ap (λ t. cond t Less (cond (lt_ℚ b a) Greater Equal)) (lt_ℚ-above a b (linear 2 (λ x y. y ≺ x ⟹ y ≼ x) (omega (arith, ints)) a b h))
    ∙ ap (λ t. cond t Greater Equal) (lt_ℚ-below b a h)

-- below, equal or above
pub by_sign : {P : Type 0} (a : ℚ) → (a <ℚ zero_ℚ → P) → (a ≡ zero_ℚ → P) → (zero_ℚ <ℚ a → P) → P
by_sign a less equal more =
    by_lt_ℚ a zero_ℚ less (λ p. by_lt_ℚ zero_ℚ a more (λ q. equal (linear 1 (λ x. 𝟘 ≼ x ⟹ x ≼ 𝟘 ⟹ x ≐ 𝟘) (omega (arith, ints)) a p q)))

-- ── sizes and signs ──

pub product_of_falls : (a b : ℚ) → a ≤ℚ zero_ℚ → b ≤ℚ zero_ℚ → zero_ℚ ≤ℚ a *ℚ b
product_of_falls a b p q =
    linear 2 (λ z x. z ≐ 𝟘 ⟹ z ≼ x ⟹ 𝟘 ≼ x) (omega (arith, ints)) (neg_ℚ a *ℚ zero_ℚ) (a *ℚ b)
    (ring_ℚ 1 (λ a. (⊝ a) ⊗ 𝟘 ≐ 𝟘) tt a)
    (linear 3 (λ z y x. z ≼ y ⟹ y ≐ x ⟹ z ≼ x) (omega (arith, ints)) (neg_ℚ a *ℚ zero_ℚ) (neg_ℚ a *ℚ neg_ℚ b) (a *ℚ b)
    (*ℚ_mono (neg_ℚ a) zero_ℚ (neg_ℚ b) (linear 1 (λ x. x ≼ 𝟘 ⟹ 𝟘 ≼ ⊝ x) (omega (arith, ints)) a p) (linear 1 (λ x. x ≼ 𝟘 ⟹ 𝟘 ≼ ⊝ x) (omega (arith, ints)) b q))
    (ring_ℚ 2 (λ a b. (⊝ a) ⊗ (⊝ b) ≐ a ⊗ b) tt a b))

abbrev pub IsUnit : ℚ → Type 0
IsUnit t = (t ≡ one_ℚ) ⊎ (t ≡ neg_ℚ one_ℚ)

pub direction_up : (d : ℚ) → d <ℚ zero_ℚ → direction d ≡ one_ℚ
direction_up d h = ap (λ b. cond b one_ℚ (neg_ℚ one_ℚ)) (lt_ℚ-below d zero_ℚ h)

pub direction_down : (d : ℚ) → zero_ℚ ≤ℚ d → direction d ≡ neg_ℚ one_ℚ
direction_down d h = ap (λ b. cond b one_ℚ (neg_ℚ one_ℚ)) (lt_ℚ-above d zero_ℚ h)

pub direction_unit : (d : ℚ) → IsUnit (direction d)
direction_unit d = by_test (lt_ℚ d zero_ℚ)
  where
    by_test : (b : Bool) → IsUnit (cond b one_ℚ (neg_ℚ one_ℚ))
    by_test true = inl refl
    by_test false = inr refl

-- the entering column moves against its reduced cost
pub direction_falls : (d : ℚ) → d ≢ zero_ℚ → direction d *ℚ d <ℚ zero_ℚ
direction_falls d other =
    by_sign d
    (λ below. linear 2 (λ x d. x ≐ d ⟹ d ≺ 𝟘 ⟹ x ≺ 𝟘) (omega (arith, ints)) (direction d *ℚ d) d
    (ap (λ t. t *ℚ d) (direction_up d below) ∙ ring_ℚ 1 (λ d. 𝟙 ⊗ d ≐ d) tt d) below)
    (λ none. absurd (other none))
    (λ above. linear 2 (λ x d. x ≐ ⊝ d ⟹ 𝟘 ≺ d ⟹ x ≺ 𝟘) (omega (arith, ints)) (direction d *ℚ d) d
    (ap (λ t. t *ℚ d) (direction_down d (linear 1 (λ d. 𝟘 ≺ d ⟹ 𝟘 ≼ d) (omega (arith, ints)) d above)) ∙ ring_ℚ 1 (λ d. (⊝ 𝟙) ⊗ d ≐ ⊝ d) tt d) above)

-- ── the end that a value meets ──

abbrev pub end_at : Side → Interval → Option ℚ
end_at side.Lower i = i.lower
end_at side.Upper i = i.upper

-- a value that moves at the rate goes toward the side
abbrev pub Toward : Side → ℚ → Type 0
Toward side.Lower rate = rate <ℚ zero_ℚ
Toward side.Upper rate = zero_ℚ <ℚ rate

abbrev away : Side → ℚ → ℚ → ℚ
away side.Lower v end = v -ℚ end
away side.Upper v end = end -ℚ v

abbrev sized : Side → ℚ → ℚ
sized side.Lower rate = neg_ℚ rate
sized side.Upper rate = rate

module _ (t a : ℚ) where
  up : t ≡ one_ℚ → neg_ℚ t *ℚ a ≡ neg_ℚ a
  up e = ap (λ t. neg_ℚ t *ℚ a) e ∙ ring_ℚ 1 (λ a. (⊝ 𝟙) ⊗ a ≐ ⊝ a) tt a

  down : t ≡ neg_ℚ one_ℚ → neg_ℚ t *ℚ a ≡ a
  down e = ap (λ t. neg_ℚ t *ℚ a) e ∙ ring_ℚ 1 (λ a. (⊝ (⊝ 𝟙)) ⊗ a ≐ a) tt a

  -- an element's size is that of its rate
  size_is : IsUnit t → (r : Side) → Toward r (neg_ℚ t *ℚ a) → abs_ℚ a ≡ sized r (neg_ℚ t *ℚ a)
  size_is (inl e) side.Lower toward =
      abs_ℚ-above a (linear 2 (λ x a. x ≺ 𝟘 ⟹ x ≐ ⊝ a ⟹ 𝟘 ≺ a) (omega (arith, ints)) (neg_ℚ t *ℚ a) a toward (up e))
      ∙ ring_ℚ 1 (λ a. a ≐ ⊝ (⊝ a)) tt a ∙ ap neg_ℚ (sym (up e))
  size_is (inl e) side.Upper toward =
      abs_ℚ-below a (linear 2 (λ x a. 𝟘 ≺ x ⟹ x ≐ ⊝ a ⟹ a ≺ 𝟘) (omega (arith, ints)) (neg_ℚ t *ℚ a) a toward (up e)) ∙ sym (up e)
  size_is (inr e) side.Lower toward = abs_ℚ-below a (subst (λ z. z <ℚ zero_ℚ) (down e) toward) ∙ ap neg_ℚ (sym (down e))
  size_is (inr e) side.Upper toward = abs_ℚ-above a (subst (λ z. zero_ℚ <ℚ z) (down e) toward) ∙ sym (down e)

-- a value that moves at the rate for its distance over the rate's size is at the end
closes : (r : Side) (rate v end a : ℚ) → Toward r rate → a ≡ sized r rate → v +ℚ rate *ℚ (away r v end /ℚ a) ≡ end
closes side.Lower rate v end a toward size =
    ring_ℚ 5 (λ r v e a x. ⊝ 𝟙 ⊙ x ⊗ a ≗ v ⊖ e ⟹ x ⊙ a ≗ ⊝ r ⟹ v ⊕ r ⊗ x ≐ e) tt rate v end a ((v -ℚ end) /ℚ a)
    (/ℚ-*ℚ (v -ℚ end) a (λ none. linear 2 (λ r a. r ≺ 𝟘 ⟹ a ≐ ⊝ r ⟹ a ≐ 𝟘 ⟹ never) (omega (arith, ints)) rate a toward size none)) size
closes side.Upper rate v end a toward size =
    ring_ℚ 5 (λ r v e a x. 𝟙 ⊙ x ⊗ a ≗ e ⊖ v ⟹ ⊝ x ⊙ a ≗ r ⟹ v ⊕ r ⊗ x ≐ e) tt rate v end a ((end -ℚ v) /ℚ a)
    (/ℚ-*ℚ (end -ℚ v) a (λ none. linear 2 (λ r a. 𝟘 ≺ r ⟹ a ≐ r ⟹ a ≐ 𝟘 ⟹ never) (omega (arith, ints)) rate a toward size none)) size

-- the distance, where the value moves toward a finite end
distance_is : (r : Side) (rate v end : ℚ) (i : Interval) → Toward r rate → end_at r i ≡ Some end → distance_by (cmp_ℚ rate zero_ℚ) i v ≡ Some (away r v end, r)
distance_is side.Lower rate v end i toward has =
    ap (λ o. distance_by o i v) (cmp_below rate zero_ℚ toward) ∙ ap (λ e. distance_to e side.Lower (λ end. v -ℚ end)) has
distance_is side.Upper rate v end i toward has =
    ap (λ o. distance_by o i v) (cmp_above rate zero_ℚ toward) ∙ ap (λ e. distance_to e side.Upper (λ end. end -ℚ v)) has

abbrev Distance : ℚ → ℚ → Interval → ℚ × Side → Type 0
Distance rate v i d = (r : Side) × (end : ℚ) × Toward r rate × (end_at r i ≡ Some end) × ((away r v end, r) ≡ d)

same_pair : (a b : ℚ × Side) → Some a ≡ Some b → a ≡ b
same_pair a b e = cc

distance_from : (rate v : ℚ) (i : Interval) (d : ℚ × Side) → distance_by (cmp_ℚ rate zero_ℚ) i v ≡ Some d → Distance rate v i d
distance_from rate v i d =
    by_cmp (λ o. distance_by o i v ≡ Some d → Distance rate v i d) rate zero_ℚ (λ below. lower below i.lower refl) (λ same e. absurd (cc e))
    (λ above. upper above i.upper refl)
  where
    lower : rate <ℚ zero_ℚ → (o : Option ℚ) → i.lower ≡ o → distance_to o side.Lower (λ end. v -ℚ end) ≡ Some d → Distance rate v i d
    lower below None has e = absurd (cc e)
    lower below (Some l) has e = (side.Lower, l, below, has, same_pair _ d e)

    upper : zero_ℚ <ℚ rate → (o : Option ℚ) → i.upper ≡ o → distance_to o side.Upper (λ end. end -ℚ v) ≡ Some d → Distance rate v i d
    upper above None has e = absurd (cc e)
    upper above (Some u) has e = (side.Upper, u, above, has, same_pair _ d e)

-- ── the limit of a position ──

-- the limit that position p sets to column q, which enters in the direction t: column c is there, at the value v within i, and q's element is a
abbrev pub limit_of : (q p c : ℕ) → (t v a : ℚ) → Interval → Option Limit
limit_of q p c t v a i = option_map (λ d. record { ratio = d.0 /ℚ abs_ℚ a; column = c; entry = Swap q p d.1 }) (distance_by (cmp_ℚ (neg_ℚ t *ℚ a) zero_ℚ) i v)

-- at the limit the value has moved to the end on side r
pub record Meets (q p c : ℕ) (t v a : ℚ) (i : Interval) (limit : Limit) (r : Side) : Type 0 where
  pub end : ℚ
  pub has : end_at r i ≡ Some end
  pub toward : Toward r (neg_ℚ t *ℚ a)
  pub arrives : v +ℚ (neg_ℚ t *ℚ a) *ℚ limit.ratio ≡ end
  pub column : limit.column ≡ c
  pub entry : limit.entry ≡ Swap q p r

module _ (q p c : ℕ) (t v a : ℚ) (i : Interval) (unit : IsUnit t) where
  meets_there : (r : Side) (end : ℚ) → Toward r (neg_ℚ t *ℚ a) → end_at r i ≡ Some end
      → Meets q p c t v a i (record { ratio = away r v end /ℚ abs_ℚ a; column = c; entry = Swap q p r }) r
  meets_there r end toward has = record {
    end = end;
    has = has;
    toward = toward;
    arrives = closes r (neg_ℚ t *ℚ a) v end (abs_ℚ a) toward (size_is t a unit r toward);
    column = refl;
    entry = refl;
  }

  -- a value that moves toward a finite end has a limit, at which it is there
  pub limit_met : (r : Side) (end : ℚ) → Toward r (neg_ℚ t *ℚ a) → end_at r i ≡ Some end → (limit : Limit)
      × (limit_of q p c t v a i ≡ Some limit) × Meets q p c t v a i limit r
  limit_met r end toward has = (
    record { ratio = away r v end /ℚ abs_ℚ a; column = c; entry = Swap q p r },
    ap (λ o. option_map (λ d. record { ratio = d.0 /ℚ abs_ℚ a; column = c; entry = Swap q p d.1 }) o) (distance_is r (neg_ℚ t *ℚ a) v end i toward has),
    meets_there r end toward has,
  )

  some_limit : (a b : Limit) → Some a ≡ Some b → a ≡ b
  some_limit a b e = cc

  -- and that is all that a limit is
  pub limit_meets : (limit : Limit) → limit_of q p c t v a i ≡ Some limit → (r : Side) × Meets q p c t v a i limit r
  limit_meets limit = by_distance (distance_by (cmp_ℚ (neg_ℚ t *ℚ a) zero_ℚ) i v) refl
    where
      by_distance : (o : Option (ℚ × Side)) → distance_by (cmp_ℚ (neg_ℚ t *ℚ a) zero_ℚ) i v ≡ o
          → option_map (λ d. record { ratio = d.0 /ℚ abs_ℚ a; column = c; entry = Swap q p d.1 }) o ≡ Some limit → (r : Side) × Meets q p c t v a i limit r
      by_distance None is e = absurd (cc e)
      by_distance (Some d) is e =
          let (r, end, toward, has, pair) = distance_from (neg_ℚ t *ℚ a) v i d is in (
            r,
            subst (λ l. Meets q p c t v a i l r) (ap (λ d. record { ratio = d.0 /ℚ abs_ℚ a; column = c; entry = Swap q p d.1 }) pair
                ∙ some_limit _ limit e) (meets_there r end toward has),
          )

-- ── the limit of the entering column itself ──

pub record Spans (i : Interval) (q : ℕ) (limit : Limit) : Type 0 where
  pub low : ℚ
  pub high : ℚ
  pub lower : i.lower ≡ Some low
  pub upper : i.upper ≡ Some high
  pub ratio : limit.ratio ≡ high -ℚ low
  pub entry : limit.entry ≡ Flip q

pub own_spans : (i : Interval) (q : ℕ) (limit : Limit) → own_limit i q ≡ Some limit → Spans i q limit
own_spans i q limit e = by_ends i.lower i.upper refl refl e
  where
    same_limit : (a b : Limit) → Some a ≡ Some b → a ≡ b
    same_limit a b e = cc

    by_ends : (lower upper : Option ℚ) → i.lower ≡ lower → i.upper ≡ upper → own_limit (record { lower = lower; upper = upper }) q ≡ Some limit
        → Spans i q limit
    by_ends None upper at_l at_u e = absurd (cc e)
    by_ends (Some l) None at_l at_u e = absurd (cc e)
    by_ends (Some l) (Some u) at_l at_u e =
        let same = same_limit _ limit e in
        record {
          low = l;
          high = u;
          lower = at_l;
          upper = at_u;
          ratio = sym (ap (λ a. a.ratio) same);
          entry = sym (ap (λ a. a.entry) same);
        }

pub own_met : (i : Interval) (q : ℕ) (l u : ℚ) → i.lower ≡ Some l → i.upper ≡ Some u
    → own_limit i q ≡ Some (record { ratio = u -ℚ l; column = q; entry = Flip q })
own_met i q l u at_l at_u = ap₂ (λ lower upper. own_limit (record { lower = lower; upper = upper }) q) at_l at_u

-- ── what a step by a limit leaves within its bounds ──

within_end : (r : Side) (i : Interval) (v end : ℚ) → end_at r i ≡ Some end → Within i v → zero_ℚ ≤ℚ away r v end
within_end side.Lower i v end has within = linear 2 (λ v e. e ≼ v ⟹ 𝟘 ≼ v ⊖ e) (omega (arith, ints)) v end (subst (λ o. NotBelow o v) has within.0)
within_end side.Upper i v end has within = linear 2 (λ v e. v ≼ e ⟹ 𝟘 ≼ e ⊖ v) (omega (arith, ints)) v end (subst (λ o. NotAbove o v) has within.1)

-- a value within its bounds meets its end after no step backward
pub step_forward : (r : Side) (i : Interval) (v end rate step : ℚ) → Toward r rate → end_at r i ≡ Some end → Within i v → v +ℚ rate *ℚ step ≡ end
    → zero_ℚ ≤ℚ step
step_forward r i v end rate step toward has within arrives =
    by_lt_ℚ step zero_ℚ (λ back. absurd (contradicts r toward (within_end r i v end has within) back arrives)) (λ h. h)
  where
    contradicts : (r : Side) → Toward r rate → zero_ℚ ≤ℚ away r v end → step <ℚ zero_ℚ → v +ℚ rate *ℚ step ≡ end → ⊥
    contradicts side.Lower toward distance back arrives =
        linear 4 (λ v e p n. 𝟘 ≺ n ⟹ n ≐ p ⟹ 𝟘 ≼ v ⊖ e ⟹ v ⊕ p ≐ e ⟹ never) (omega (arith, ints)) v end (rate *ℚ step) (neg_ℚ rate *ℚ neg_ℚ step)
        (*ℚ_positive (neg_ℚ rate) (neg_ℚ step) (linear 1 (λ x. x ≺ 𝟘 ⟹ 𝟘 ≺ ⊝ x) (omega (arith, ints)) rate toward) (linear 1 (λ x. x ≺ 𝟘 ⟹ 𝟘 ≺ ⊝ x)
        (omega (arith, ints)) step back))
        (ring_ℚ 2 (λ r s. (⊝ r) ⊗ (⊝ s) ≐ r ⊗ s) tt rate step) distance arrives
    contradicts side.Upper toward distance back arrives =
        linear 4 (λ v e p n. 𝟘 ≺ n ⟹ n ≐ ⊝ p ⟹ 𝟘 ≼ e ⊖ v ⟹ v ⊕ p ≐ e ⟹ never) (omega (arith, ints)) v end (rate *ℚ step) (rate *ℚ neg_ℚ step)
        (*ℚ_positive rate (neg_ℚ step) toward (linear 1 (λ x. x ≺ 𝟘 ⟹ 𝟘 ≺ ⊝ x) (omega (arith, ints)) step back))
        (ring_ℚ 2 (λ r s. r ⊗ (⊝ s) ≐ ⊝ (r ⊗ s)) tt rate step) distance arrives

-- a step that is no longer than the way to each end that the value moves toward keeps it within its bounds
pub step_within : (i : Interval) (v rate step : ℚ) → Within i v → zero_ℚ ≤ℚ step
    → ((r : Side) (end : ℚ) → Toward r rate → end_at r i ≡ Some end → (longer : ℚ) × (step ≤ℚ longer) × (v +ℚ rate *ℚ longer ≡ end))
    → Within i (v +ℚ rate *ℚ step)
step_within i v rate step within forward limited = (low i.lower refl within.0, high i.upper refl within.1)
  where
    low : (o : Option ℚ) → i.lower ≡ o → NotBelow o v → NotBelow o (v +ℚ rate *ℚ step)
    low None has h = tt
    low (Some l) has h =
        by_lt_ℚ rate zero_ℚ
        (λ below. let (longer, least, arrives) = limited side.Lower l below has in
        linear 5 (λ v l p p' z. v ⊕ p' ≐ l ⟹ ⊝ p ≼ z ⟹ z ≐ ⊝ p' ⟹ l ≼ v ⊕ p) (omega (arith, ints)) v l (rate *ℚ step) (rate *ℚ longer)
        (neg_ℚ rate *ℚ longer) arrives
        (linear 3 (λ a b p. a ≼ b ⟹ a ≐ ⊝ p ⟹ ⊝ p ≼ b) (omega (arith, ints)) (neg_ℚ rate *ℚ step) (neg_ℚ rate *ℚ longer) (rate *ℚ step)
        (*ℚ_mono (neg_ℚ rate) step longer (linear 1 (λ x. x ≺ 𝟘 ⟹ 𝟘 ≼ ⊝ x) (omega (arith, ints)) rate below) least)
        (ring_ℚ 2 (λ r s. (⊝ r) ⊗ s ≐ ⊝ (r ⊗ s)) tt rate step))
        (ring_ℚ 2 (λ r s. (⊝ r) ⊗ s ≐ ⊝ (r ⊗ s)) tt rate longer))
        (λ above. linear 4 (λ v l p z. l ≼ v ⟹ z ≼ p ⟹ z ≐ 𝟘 ⟹ l ≼ v ⊕ p) (omega (arith, ints)) v l (rate *ℚ step) (rate *ℚ zero_ℚ) h
        (*ℚ_mono rate zero_ℚ step above forward) (ring_ℚ 1 (λ r. r ⊗ 𝟘 ≐ 𝟘) tt rate))

    high : (o : Option ℚ) → i.upper ≡ o → NotAbove o v → NotAbove o (v +ℚ rate *ℚ step)
    high None has h = tt
    high (Some u) has h =
        by_lt_ℚ zero_ℚ rate
        (λ above. let (longer, least, arrives) = limited side.Upper u above has in
        linear 4 (λ v u p p'. v ⊕ p' ≐ u ⟹ p ≼ p' ⟹ v ⊕ p ≼ u) (omega (arith, ints)) v u (rate *ℚ step) (rate *ℚ longer) arrives
        (*ℚ_mono rate step longer (linear 1 (λ x. 𝟘 ≺ x ⟹ 𝟘 ≼ x) (omega (arith, ints)) rate above) least))
        (λ below. linear 5 (λ v u p n z. v ≼ u ⟹ z ≼ n ⟹ z ≐ 𝟘 ⟹ n ≐ ⊝ p ⟹ v ⊕ p ≼ u) (omega (arith, ints)) v u (rate *ℚ step) (neg_ℚ rate *ℚ step)
        (neg_ℚ rate *ℚ zero_ℚ) h
        (*ℚ_mono (neg_ℚ rate) zero_ℚ step (linear 1 (λ x. x ≼ 𝟘 ⟹ 𝟘 ≼ ⊝ x) (omega (arith, ints)) rate below) forward) (ring_ℚ 1 (λ r. (⊝ r) ⊗ 𝟘 ≐ 𝟘) tt rate)
        (ring_ℚ 2 (λ r s. (⊝ r) ⊗ s ≐ ⊝ (r ⊗ s)) tt rate step))

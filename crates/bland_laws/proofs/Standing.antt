-- Where a column stands, and where one that enters goes.
use Rattle.std.proofs.Common.{◌≡◌, ◌≢◌, ◌⊎◌, inl, inr, Option, Some, None, IsSome, refl, sym, ◌∙◌, ap, subst, arith}
use Rattle.std.proofs.lemmas.Int.{ints}
use Rattle.std.specs.Option.{unwrap_or}
use Rattle.lp_model.specs.declared.Side.{Side}
use Rattle.lp_model.specs.declared.Side.TheVariants as side
use Rattle.lp_model.specs.declared.Status.{Status}
use Rattle.lp_model.specs.declared.Status.TheVariants as status
use Rattle.rational.specs.Rational.{ℚ, zero_ℚ, ◌+ℚ◌, ◌-ℚ◌, ◌*ℚ◌, ◌≤ℚ◌, ◌<ℚ◌}
use Rattle.rational.proofs.RationalRing.{ring_ℚ}
use Rattle.rational.proofs.Ring.{◌≐◌, ◌⊕◌, ◌⊖◌, ◌⊗◌, ⊝◌, 𝟘, 𝟙}
use Rattle.rational.proofs.Linear.{linear, ◌≼◌, ◌≺◌, ◌≐◌, ◌⟹◌, never}
use Rattle.lp_model.specs.Deck.{Interval, IsUncrossed, Within}
use Rattle.lp_run.specs.State.{other_end, standing_at, resting_value}
use Rattle.lp_run.specs.Step.{Improves, direction}
use Rattle.lp_run.specs.State.{NamesEnd}
use Rattle.bland_laws.proofs.Limits.{Toward, direction_down, direction_up, end_at}

pub weak : (a : ℚ) → zero_ℚ <ℚ a → zero_ℚ ≤ℚ a
weak a h = linear 1 (λ x. 𝟘 ≺ x ⟹ 𝟘 ≼ x) (omega (arith, ints)) a h

pub reflexive : (a : ℚ) → a ≤ℚ a
reflexive a = linear 1 (λ x. x ≼ x) (omega (arith, ints)) a

abbrev pub ends : Option ℚ → Option ℚ → Interval
ends lower upper = record { lower = lower; upper = upper }

-- whether a column is basic
pub is_basic_or : (st : Status) → (st ≡ status.Basic) ⊎ (st ≢ status.Basic)
is_basic_or status.Basic = inl refl
is_basic_or status.Lower = inr (λ e. cc e)
is_basic_or status.Upper = inr (λ e. cc e)
is_basic_or status.Zero = inr (λ e. cc e)

-- the value of an end that is there
pub some_end : (o : Option ℚ) → IsSome o → o ≡ Some (unwrap_or o zero_ℚ)
some_end None h = cc h
some_end (Some v) h = refl

is_some_end : (o : Option ℚ) (v : ℚ) → o ≡ Some v → IsSome o
is_some_end o v e = subst IsSome (sym e) refl

-- a column that is not basic rests within its bounds
pub rest_within : (st : Status) (i : Interval) → NamesEnd st i → IsUncrossed i → st ≢ status.Basic → Within i (resting_value st i)
rest_within st i = by_ends st i.lower i.upper
  where
    by_ends : (st : Status) (lower upper : Option ℚ) → NamesEnd st (ends lower upper) → IsUncrossed (ends lower upper) → st ≢ status.Basic
        → Within (ends lower upper) (resting_value st (ends lower upper))
    by_ends status.Basic lower upper stands uncrossed other = absurd (other refl)
    by_ends status.Lower None upper stands uncrossed other = cc stands
    by_ends status.Lower (Some l) None stands uncrossed other = (reflexive l, tt)
    by_ends status.Lower (Some l) (Some u) stands uncrossed other = (reflexive l, uncrossed l u refl refl)
    by_ends status.Upper lower None stands uncrossed other = cc stands
    by_ends status.Upper None (Some u) stands uncrossed other = (tt, reflexive u)
    by_ends status.Upper (Some l) (Some u) stands uncrossed other = (uncrossed l u refl refl, reflexive u)
    by_ends status.Zero None None stands uncrossed other = (tt, tt)
    by_ends status.Zero (Some l) upper stands uncrossed other = cc stands.0
    by_ends status.Zero None (Some u) stands uncrossed other = cc stands.1

-- one that moves is not basic
pub moves_not_basic : (st : Status) (d : ℚ) → Improves st d → st ≢ status.Basic
moves_not_basic status.Basic d moves e = moves
moves_not_basic status.Lower d moves e = cc e
moves_not_basic status.Upper d moves e = cc e
moves_not_basic status.Zero d moves e = cc e

pub moves_priced : (st : Status) (d : ℚ) → Improves st d → d ≢ zero_ℚ
moves_priced status.Basic d moves e = moves
moves_priced status.Lower d moves e = linear 1 (λ d. d ≺ 𝟘 ⟹ d ≐ 𝟘 ⟹ never) (omega (arith, ints)) d moves e
moves_priced status.Upper d moves e = linear 1 (λ d. 𝟘 ≺ d ⟹ d ≐ 𝟘 ⟹ never) (omega (arith, ints)) d moves e
moves_priced status.Zero d moves e = moves e

-- what an end gives to a column that enters toward it: both ends are finite, and their distance is the whole way
pub record Crosses (st : Status) (i : Interval) (d end : ℚ) : Type 0 where
  pub low : ℚ
  pub high : ℚ
  pub lower : i.lower ≡ Some low
  pub upper : i.upper ≡ Some high
  pub arrives : resting_value st i +ℚ direction d *ℚ (high -ℚ low) ≡ end

rises : (l u d : ℚ) → d <ℚ zero_ℚ → l +ℚ direction d *ℚ (u -ℚ l) ≡ u
rises l u d below = ap (λ t. l +ℚ t *ℚ (u -ℚ l)) (direction_up d below) ∙ ring_ℚ 2 (λ l u. l ⊕ 𝟙 ⊗ (u ⊖ l) ≐ u) tt l u

falls : (l u d : ℚ) → zero_ℚ <ℚ d → u +ℚ direction d *ℚ (u -ℚ l) ≡ l
falls l u d above = ap (λ t. u +ℚ t *ℚ (u -ℚ l)) (direction_down d (weak d above)) ∙ ring_ℚ 2 (λ l u. u ⊕ (⊝ 𝟙) ⊗ (u ⊖ l) ≐ l) tt l u

not_falling : (d : ℚ) → d <ℚ zero_ℚ → direction d <ℚ zero_ℚ → ⊥
not_falling d below toward = linear 1 (λ t. t ≺ 𝟘 ⟹ t ≐ 𝟙 ⟹ never) (omega (arith, ints)) (direction d) toward (direction_up d below)

not_rising : (d : ℚ) → zero_ℚ <ℚ d → zero_ℚ <ℚ direction d → ⊥
not_rising d above toward = linear 1 (λ t. 𝟘 ≺ t ⟹ t ≐ ⊝ 𝟙 ⟹ never) (omega (arith, ints)) (direction d) toward (direction_down d (weak d above))

pub entering_crosses : (st : Status) (i : Interval) (d : ℚ) → Improves st d → NamesEnd st i → (r : Side) (end : ℚ) → Toward r (direction d)
    → end_at r i ≡ Some end → Crosses st i d end
entering_crosses st i = by_ends st i.lower i.upper
  where
    same : (a b : ℚ) → Some a ≡ Some b → a ≡ b
    same a b e = cc

    by_ends : (st : Status) (lower upper : Option ℚ) (d : ℚ) → Improves st d → NamesEnd st (ends lower upper) → (r : Side) (end : ℚ) → Toward r (direction d)
        → end_at r (ends lower upper) ≡ Some end
        → Crosses st (ends lower upper) d end
    by_ends status.Basic lower upper d moves stands r end toward has = absurd moves
    by_ends status.Lower lower upper d moves stands side.Lower end toward has = absurd (not_falling d moves toward)
    by_ends status.Lower None upper d moves stands side.Upper end toward has = cc stands
    by_ends status.Lower (Some l) None d moves stands side.Upper end toward has = absurd (cc has)
    by_ends status.Lower (Some l) (Some u) d moves stands side.Upper end toward has =
        record { low = l; high = u; lower = refl; upper = refl; arrives = rises l u d moves ∙ same u end has }
    by_ends status.Upper lower upper d moves stands side.Upper end toward has = absurd (not_rising d moves toward)
    by_ends status.Upper lower None d moves stands side.Lower end toward has = cc stands
    by_ends status.Upper None (Some u) d moves stands side.Lower end toward has = absurd (cc has)
    by_ends status.Upper (Some l) (Some u) d moves stands side.Lower end toward has =
        record { low = l; high = u; lower = refl; upper = refl; arrives = falls l u d moves ∙ same l end has }
    by_ends status.Zero lower upper d moves stands side.Lower end toward has = absurd (apart lower end stands.0 has)
      where
        apart : (o : Option ℚ) (end : ℚ) → o ≡ None → o ≡ Some end → ⊥
        apart o end e f = cc
    by_ends status.Zero lower upper d moves stands side.Upper end toward has = absurd (apart upper end stands.1 has)
      where
        apart : (o : Option ℚ) (end : ℚ) → o ≡ None → o ≡ Some end → ⊥
        apart o end e f = cc

-- a column with both ends that moves the whole way stands at its other end
pub record Flips (st : Status) (i : Interval) (d low high : ℚ) : Type 0 where
  pub stands : NamesEnd (other_end st) i
  pub not_basic : other_end st ≢ status.Basic
  pub rests : resting_value (other_end st) i ≡ resting_value st i +ℚ direction d *ℚ (high -ℚ low)

pub flips : (st : Status) (i : Interval) (d low high : ℚ) → Improves st d → NamesEnd st i → i.lower ≡ Some low → i.upper ≡ Some high → Flips st i d low high
flips status.Basic i d low high moves stands lower upper = absurd moves
flips status.Lower i d low high moves stands lower upper = record {
  stands = is_some_end i.upper high upper;
  not_basic = λ e. cc e;
  rests = ap (λ o. unwrap_or o zero_ℚ) upper ∙ sym (ap (λ o. unwrap_or o zero_ℚ +ℚ direction d *ℚ (high -ℚ low)) lower ∙ rises low high d moves);
}
flips status.Upper i d low high moves stands lower upper = record {
  stands = is_some_end i.lower low lower;
  not_basic = λ e. cc e;
  rests = ap (λ o. unwrap_or o zero_ℚ) lower ∙ sym (ap (λ o. unwrap_or o zero_ℚ +ℚ direction d *ℚ (high -ℚ low)) upper ∙ falls low high d moves);
}
flips status.Zero i d low high moves stands lower upper = absurd (apart i.lower low stands.0 lower)
  where
    apart : (o : Option ℚ) (end : ℚ) → o ≡ None → o ≡ Some end → ⊥
    apart o end e f = cc

-- ── where a column that leaves stands ──

pub standing_value : (r : Side) (i : Interval) (end : ℚ) → end_at r i ≡ Some end → resting_value (standing_at r) i ≡ end
standing_value side.Lower i end has = ap (λ o. unwrap_or o zero_ℚ) has
standing_value side.Upper i end has = ap (λ o. unwrap_or o zero_ℚ) has

pub standing_stands : (r : Side) (i : Interval) (end : ℚ) → end_at r i ≡ Some end → NamesEnd (standing_at r) i
standing_stands side.Lower i end has = is_some_end i.lower end has
standing_stands side.Upper i end has = is_some_end i.upper end has

pub standing_not_basic : (r : Side) → standing_at r ≢ status.Basic
standing_not_basic side.Lower e = cc e
standing_not_basic side.Upper e = cc e

-- Columns whose ends cross, and the columns to which the ends are given one after the other.
use Rattle.std.specs.Prelude.{◌≡◌, ℕ, zero, suc, ◌+◌, ◌<◌, ◌*ℤ◌, ℤ, pos, List, [], ◌∷◌, length, get_or, set, take, find, true, false, T, int_le, int_lt, Some, None}
use Rattle.std.proofs.Common.{refl, sym, ap, ap₂, ◌∙◌, subst, arith, add-one, below_more}
use Rattle.std.proofs.lemmas.Int.{ints}
use Rattle.std.proofs.lemmas.List.{get_or_default}
use Rattle.rational.specs.Rational.{ℚ, le_ℚ, lt_ℚ, ◌≤ℚ◌}
use Rattle.lp_model.specs.Deck.{Column, Deck, Interval, IsUncrossed, no_column}
use Rattle.lp_model.specs.Edit.{with_bounds}
use Rattle.mps_model.specs.DeckOf.{are_crossed, is_crossed}
use Rattle.mps_reader.specs.declared.bounds.Ends.{Ends}
use Rattle.mps_reader.specs.Inner.Standing.{interval_of, with_ends}

-- ── ends that do not cross ──

not_below : (u v : ℤ) → int_lt v u ≡ false → int_le u v ≡ true
not_below u v h = grind (arith, ints)

at_least : (l u : ℚ) → lt_ℚ u l ≡ false → l ≤ℚ u
unfolding lt_ℚ le_ℚ
at_least l u h = record { le = subst T (sym (not_below (l.numerator *ℤ pos u.denominator) (u.numerator *ℤ pos l.denominator) h)) tt }

pub uncrossed : (bounds : Interval) → is_crossed bounds ≡ false → IsUncrossed bounds
uncrossed bounds h = λ l u e f. at_least l u (sym (ap₂ are_crossed e f) ∙ h)

-- ── the first column whose ends cross ──

-- the ends at each index below k do not cross
abbrev pub AreUncrossed : List Ends → ℕ → Type 0
AreUncrossed ends k = (i : ℕ) → i < k → (e : Ends) → is_crossed (interval_of (get_or ends i e)) ≡ false

abbrev later : (x : Ends) (ends : List Ends) (k : ℕ) → AreUncrossed (x ∷ ends) (suc k) → AreUncrossed ends k
later x ends k h = λ i less e. h (suc i) (omega (arith, less)) e

pub find-none : (cs : List Column) (ends : List Ends) → length ends ≡ length cs → AreUncrossed ends (length ends) → find (λ c. is_crossed c.bounds) (with_ends cs ends) ≡ None
find-none [] ends same h = refl
find-none (c ∷ cs) [] same h = absurd (cc same)
find-none (c ∷ cs) (x ∷ ends) same h =
    let first : is_crossed (interval_of x) ≡ false = h 0 (omega arith) x in
    let fewer : length ends ≡ length cs = cc same in
    rw first (find-none cs ends fewer (later x ends (length ends) h))

pub find-first : (cs : List Column) (ends : List Ends) (k : ℕ) (e : Ends) → length ends ≡ length cs → k < length ends → AreUncrossed ends k → is_crossed (interval_of (get_or ends k e)) ≡ true
    → find (λ c. is_crossed c.bounds) (with_ends cs ends) ≡ Some (record (get_or cs k no_column) { bounds = interval_of (get_or ends k e) })
find-first [] ends k e same less h crossed = absurd (omega (arith, same, less))
find-first (c ∷ cs) [] k e same less h crossed = absurd (cc same)
find-first (c ∷ cs) (x ∷ ends) zero e same less h crossed = rw crossed refl
find-first (c ∷ cs) (x ∷ ends) (suc k) e same less h crossed =
    let first : is_crossed (interval_of x) ≡ false = h 0 (omega arith) x in
    let fewer : length ends ≡ length cs = cc same in
    let below : k < length ends = omega (arith, less) in
    rw first (find-first cs ends k e fewer below (later x ends k h) crossed)

-- one more
pub one_more : (ends : List Ends) (k : ℕ) (e : Ends) → k < length ends → e ≡ get_or ends k e → is_crossed (interval_of e) ≡ false → AreUncrossed ends k → AreUncrossed ends (k + 1)
one_more ends k e less is straight h = below_more (λ i. (e' : Ends) → is_crossed (interval_of (get_or ends i e')) ≡ false) k h
    (λ e'. ap (λ x. is_crossed (interval_of x)) (get_or_default ends k e' e less ∙ sym is) ∙ straight)

-- ── ends that are given one after the other ──

pub with_ends-none : (cs : List Column) → with_ends cs [] ≡ cs
with_ends-none [] = refl
with_ends-none (c ∷ cs) = refl

next : (cs : List Column) (ends : List Ends) (k : ℕ) (e : Ends) → k < length ends
    → set (with_ends cs (take k ends)) k (record (get_or (with_ends cs (take k ends)) k no_column) { bounds = interval_of (get_or ends k e) }) ≡ with_ends cs (take (suc k) ends)
next [] ends k e h = refl
next (c ∷ cs) [] k e h = absurd (omega (arith, h))
next (c ∷ cs) (x ∷ ends) zero e h = ap (λ l. record c { bounds = interval_of x } ∷ l) (sym (with_ends-none cs))
next (c ∷ cs) (x ∷ ends) (suc k) e h =
    let less : k < length ends = omega (arith, h) in
    ap (λ l. record c { bounds = interval_of x } ∷ l) (next cs ends k e less)

-- a deck whose first columns have these ends
abbrev pub given_ends : Deck → List Ends → Deck
given_ends d ends = record d { columns = with_ends d.columns ends }

pub given-next : (d : Deck) (ends : List Ends) (k : ℕ) (e : Ends) → k < length ends
    → with_bounds (given_ends d (take k ends)) k (interval_of (get_or ends k e)) ≡ given_ends d (take (k + 1) ends)
given-next d ends k e h = ap (λ cs. record d { columns = cs }) (next d.columns ends k e h ∙ ap (λ n. with_ends d.columns (take n ends)) (sym (add-one k)))

-- What the tests of the items decide.
use Rattle.std.proofs.Common.{◌≡◌, T, Bool, true, false, Option, Some, None, Decides, refl, ap, subst}
use Rattle.std.specs.Option.{is_none}
use Rattle.std.specs.declared.cmp.Ordering.{Ordering}
use Rattle.std.specs.declared.cmp.Ordering.TheVariants.{Less, Equal, Greater}
use Rattle.std.proofs.lemmas.Bool.{and_from, and_parts}
use Rattle.lp_model.specs.Deck.{Interval, NotAbove, NotBelow, Within}
use Rattle.rational.specs.Rational.{ℚ, zero_ℚ, le_ℚ, lt_ℚ, ◌≤ℚ◌, ◌<ℚ◌}
use Rattle.rational.proofs.OrderLaws.{<ℚ_irrefl, <ℚ_trans, by_cmp, eq_ℚ-decides}
use Rattle.cert_check.specs.Items.{allows, is_at_end, is_not_above, is_not_below, is_within}

from_T : (b : Bool) → T b → b ≡ true
from_T true h = refl
from_T false h = absurd h

to_T : (b : Bool) → b ≡ true → T b
to_T true h = tt
to_T false h = absurd (cc h)

pub le-decides : (a b : ℚ) → Decides (le_ℚ a b) (a ≤ℚ b)
le-decides a b = (λ e. record { le = to_T (le_ℚ a b) e }, λ h. from_T (le_ℚ a b) h.le)

pub lt-decides : (a b : ℚ) → Decides (lt_ℚ a b) (a <ℚ b)
lt-decides a b = (λ e. record { lt = to_T (lt_ℚ a b) e }, λ h. from_T (lt_ℚ a b) h.lt)

not_below-decides : (l : Option ℚ) (x : ℚ) → Decides (is_not_below l x) (NotBelow l x)
not_below-decides None x = (λ _. tt, λ _. refl)
not_below-decides (Some v) x = le-decides v x

not_above-decides : (u : Option ℚ) (x : ℚ) → Decides (is_not_above u x) (NotAbove u x)
not_above-decides None x = (λ _. tt, λ _. refl)
not_above-decides (Some v) x = le-decides x v

pub within-decides : (i : Interval) (x : ℚ) → Decides (is_within i x) (Within i x)
within-decides i x =
    let lower = not_below-decides i.lower x in
    let upper = not_above-decides i.upper x in (
      λ e. let parts = and_parts (is_not_below i.lower x) (is_not_above i.upper x) e in (lower.0 parts.0, upper.0 parts.1),
      λ h. and_from (is_not_below i.lower x) (is_not_above i.upper x) (lower.1 h.0) (upper.1 h.1),
    )

pub at_end-decides : (o : Option ℚ) (x : ℚ) → Decides (is_at_end o x) (o ≡ Some x)
at_end-decides None x = (λ e. absurd (cc e), λ e. absurd (cc e))
at_end-decides (Some v) x = (λ e. ap Some ((eq_ℚ-decides v x).0 e), λ e. (eq_ℚ-decides v x).1 (cc e))

pub none-decides : {A : Type 0} (o : Option A) → Decides (is_none o) (o ≡ None)
none-decides None = (λ _. refl, λ _. refl)
none-decides (Some v) = (λ e. absurd (cc e), λ e. absurd (cc e))

-- above 0 only where the one holds, and below 0 only where the other does
pub record Allowed (c : ℚ) (P Q : Type 0) : Type 0 where
  pub above : zero_ℚ <ℚ c → P
  pub below : c <ℚ zero_ℚ → Q

both_sides : (c : ℚ) → zero_ℚ <ℚ c → c <ℚ zero_ℚ → ⊥
both_sides c above below = <ℚ_irrefl c (<ℚ_trans c zero_ℚ c below above)

pub allows-decides : (c : ℚ) (a b : Bool) (P Q : Type 0) → Decides a P → Decides b Q → Decides (allows c a b) (Allowed c P Q)
allows-decides c a b P Q first second =
    by_cmp (λ o. Decides (elim o as (λ (_ : Ordering). Bool) [ Less ↦ b | Equal ↦ true | Greater ↦ a ]) (Allowed c P Q)) c zero_ℚ
    (λ below. (λ e. record { above = λ above. absurd (both_sides c above below); below = λ _. second.0 e }, λ h. second.1 (h.below below)))
    (λ same. (
      λ _. record {
        above = λ above. absurd (<ℚ_irrefl zero_ℚ (subst (λ v. zero_ℚ <ℚ v) same above));
        below = λ below.
            absurd (<ℚ_irrefl zero_ℚ (subst (λ v. v <ℚ zero_ℚ) same below));
      },
      λ _. refl,
    ))
    (λ above. (λ e. record { above = λ _. first.0 e; below = λ below. absurd (both_sides c above below) }, λ h. first.1 (h.above above)))

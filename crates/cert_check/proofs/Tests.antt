-- Tests at arguments that are the same.
use Rattle.std.proofs.Common.{◌≡◌, Bool, true, false, not, Option, Some, None, is_some, refl, ◌∙◌, ap, ap₂}
use Rattle.std.specs.Option.{is_none}
use Rattle.lp_model.specs.declared.Sense.{Sense}
use Rattle.lp_model.specs.Deck.{in_sense}
use Rattle.rational.specs.Rational.{ℚ}
use Rattle.rational.proofs.OrderLaws.{is_lt-cmp_ℚ}
use Rattle.cert_check.specs.Items.{allows}

pub allows-like : {c d : ℚ} {a a' b b' : Bool} → c ≡ d → a ≡ a' → b ≡ b' → allows c a b ≡ allows d a' b'
allows-like {d = d} {a = a} {b = b} e above below = ap (λ v. allows v a b) e ∙ ap₂ (allows d) above below

pub sense-like : {s t : Sense} (v : ℚ) → s ≡ t → in_sense s v ≡ in_sense t v
sense-like v e = ap (λ s. in_sense s v) e

-- what a test for an absent end says
pub none-test : (r : Bool) (o : Option ℚ) → is_some o ≡ not r → r ≡ is_none o
none-test true None e = refl
none-test true (Some v) e = absurd (cc e)
none-test false None e = absurd (cc e)
none-test false (Some v) e = refl

-- less, as the order is told by a comparison
pub ruleset less = is_lt-cmp_ℚ

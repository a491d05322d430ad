use Rattle.std.proofs.Common.{◌≡◌, true, false, refl}
use Rattle.rational.specs.Rational.{eq_ℚ, zero_ℚ}
use Rattle.deck_tools.proofs.Numbers.{zero_tested}
use Rattle.deck_tools.proofs.Pages.{Makes-none}
use Rattle.deck_tools.proofs.write.put_lower.Goals as goal

pub returns-in-Some : goal.returns-in-Some
returns-in-Some c =
    let zero : eq_ℚ c.in-Some.least zero_ℚ ≡ true = zero_tested c.is_zero.result true c.in-Some.least c.in-Some.least c.is_zero.ensures refl c.if-is_zero.true in
    rw (c.in-Some.is, zero) (Makes-none c.args.page.now.text.items)

pub returns-in-Some-2 : goal.returns-in-Some-2
returns-in-Some-2 c =
    let other : eq_ℚ c.in-Some.least zero_ℚ ≡ false = zero_tested c.is_zero.result false c.in-Some.least c.in-Some.least c.is_zero.ensures refl c.if-is_zero.false in
    rw (c.in-Some.is, other) c.put_bound-in-Some-2.ensures

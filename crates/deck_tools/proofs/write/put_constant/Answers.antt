use Rattle.std.proofs.Common.{◌≡◌, true, false}
use Rattle.rational.specs.Rational.{eq_ℚ, zero_ℚ}
use Rattle.deck_tools.proofs.Pages.{Makes-none}
use Rattle.deck_tools.proofs.Numbers.{zero_tested}
use Rattle.deck_tools.proofs.write.put_constant.Goals as goal

pub returns-then-is_zero : goal.returns-then-is_zero
returns-then-is_zero c =
    let zero : eq_ℚ c.args.deck.now.constant zero_ℚ ≡ true = zero_tested c.is_zero.result true c.constant-constant.result c.args.deck.now.constant c.is_zero.ensures c.constant-constant.ensures c.if-is_zero.true in
    rw zero (Makes-none c.args.page.now.text.items)

pub returns : goal.returns
returns c =
    let other : eq_ℚ c.args.deck.now.constant zero_ℚ ≡ false = zero_tested c.is_zero.result false c.constant-constant.result c.args.deck.now.constant c.is_zero.ensures c.constant-constant.ensures c.if-is_zero.false in
    rw other (rw (c.bytes.ensures, c.objective.ensures, c.negated.ensures, c.constant-constant.ensures) at c.put_in_set.ensures)

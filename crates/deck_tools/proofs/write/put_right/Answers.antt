use Rattle.std.proofs.Common.{◌≡◌, true, false}
use Rattle.rational.specs.Rational.{eq_ℚ, zero_ℚ}
use Rattle.lp_model.specs.Deck.{row}
use Rattle.deck_tools.proofs.Pages.{Makes-none}
use Rattle.deck_tools.proofs.Numbers.{zero_tested}
use Rattle.deck_tools.proofs.write.put_right.Goals as goal

pub returns-then-is_zero : goal.returns-then-is_zero
returns-then-is_zero c =
    let r = row c.args.deck.now c.args.row in
    let zero : eq_ℚ r.right zero_ℚ ≡ true = zero_tested c.is_zero.result true c.right-right.result r.right c.is_zero.ensures c.right-right.ensures c.if-is_zero.true in
    rw zero (Makes-none c.args.page.now.text.items)

pub returns : goal.returns
returns c =
    let r = row c.args.deck.now c.args.row in
    let other : eq_ℚ r.right zero_ℚ ≡ false = zero_tested c.is_zero.result false c.right-right.result r.right c.is_zero.ensures c.right-right.ensures c.if-is_zero.false in
    rw other (rw (c.bytes.ensures, c.row_name.ensures, c.right-right.ensures) at c.put_in_set.ensures)

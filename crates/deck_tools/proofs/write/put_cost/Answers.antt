-- The card stands where the cost is not 0, or where there is no entry.
use Rattle.std.proofs.Common.{◌≡◌, ℕ, ◌<◌, ◌≤◌, true, false, nat_lt, length, arith}
use Rattle.std.proofs.lemmas.Bool.Decides.{nat_tests}
use Rattle.rational.specs.Rational.{eq_ℚ, zero_ℚ}
use Rattle.lp_model.specs.Deck.{column}
use Rattle.deck_tools.proofs.Numbers.{zero_tested}
use Rattle.deck_tools.proofs.Pages.{Makes-none}
use Rattle.deck_tools.proofs.write.put_cost.Goals as goal
use Rattle.deck_tools.proofs.write.put_cost.Goals.{else-is_zero-via-then-is_zero+else-count-gt0, else-is_zero-via-else-is_zero}

above : (n : ℕ) → 0 < n → nat_lt 0 n ≡ true
above n h = grind (arith, nat_tests)

none : (n : ℕ) → n ≤ 0 → nat_lt 0 n ≡ false
none n h = grind (arith, nat_tests)

pub returns-then-count-gt0 : goal.returns-then-count-gt0
returns-then-count-gt0 c =
    let col = column c.args.deck.now c.args.column in
    let zero : eq_ℚ col.cost zero_ℚ ≡ true = zero_tested c.is_zero.result true c.cost-cost.result col.cost c.is_zero.ensures c.cost-cost.ensures c.if-is_zero.true in
    let some : nat_lt 0 (length col.entries) ≡ true = above (length col.entries) (rw c.column.ensures at (rw c.count-count.ensures.value at c.if-count-gt0.true)) in
    rw (zero, some) (Makes-none c.args.page.now.text.items)

pub returns : goal.returns
returns c =
    let col = column c.args.deck.now c.args.column in
    let pair = rw (c.bytes.ensures, c.column_name.ensures, c.bytes-2.ensures, c.objective.ensures, c.cost-cost.ensures) at c.put_pair.ensures in
    elim c.else-is_zero.branch [
      | else-is_zero-via-then-is_zero+else-count-gt0 w ↦
          let zero : eq_ℚ col.cost zero_ℚ ≡ true = zero_tested c.is_zero.result true c.cost-cost.result col.cost c.is_zero.ensures c.cost-cost.ensures w.if-is_zero.true in
          let bare : nat_lt 0 (length col.entries) ≡ false = none (length col.entries) (rw c.column.ensures at (rw c.count-count.ensures.value at w.if-count-gt0.false)) in
          rw (zero, bare) pair
      | else-is_zero-via-else-is_zero w ↦
          let other : eq_ℚ col.cost zero_ℚ ≡ false = zero_tested c.is_zero.result false c.cost-cost.result col.cost c.is_zero.ensures c.cost-cost.ensures w.if-is_zero.false in
          rw other pair
    ]

use Rattle.std.proofs.Common.{ap, cond, sym, ◌∙◌}
use Rattle.rational.proofs.OrderLaws.{eq_ℚ-tested}
use Rattle.deck_model.proofs.deck.count.Goals as goal

pub returns-then-is_zero : goal.returns-then-is_zero
returns-then-is_zero c = ap (λ b. cond b 0 1) (sym (eq_ℚ-tested c.is_zero.result c.args.value c.is_zero.ensures ∙ c.if-is_zero.true))

pub returns-else-is_zero : goal.returns-else-is_zero
returns-else-is_zero c = ap (λ b. cond b 0 1) (sym (eq_ℚ-tested c.is_zero.result c.args.value c.is_zero.ensures ∙ c.if-is_zero.false))

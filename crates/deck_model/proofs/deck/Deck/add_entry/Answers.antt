use Rattle.std.proofs.Common.{sym, ◌∙◌}
use Rattle.deck_model.proofs.Inserted.{with_entry-zero}
use Rattle.rational.proofs.OrderLaws.{eq_ℚ-tested}
use Rattle.deck_model.proofs.deck.Deck.add_entry.Goals as goal

pub returns-else-not-is_zero-clause-ok : goal.returns-else-not-is_zero-clause-ok
returns-else-not-is_zero-clause-ok c =
    sym (with_entry-zero c.args.self.now c.args.column c.args.row c.args.value (eq_ℚ-tested c.is_zero.result c.args.value c.is_zero.ensures ∙ c.if-not-is_zero.false))

use Rattle.std.proofs.Common.{ap, ◌∙◌, is_some}
use Rattle.lp_model.specs.Deck.{column}
use Rattle.rational.specs.Rational.{ℚ}
use Rattle.sparse_cols.specs.Sparse.{Sparse, value_at}
use Rattle.deck_model.proofs.Sparse.{is_some-value_at}
use Rattle.deck_model.proofs.deck.Deck.has_entry.Goals as goal

pub returns : goal.returns
returns c =
    c.is_some.ensures ∙ ap is_some (c.get.ensures ∙ ap (λ (s : Sparse ℚ). value_at s.pairs c.args.row) c.column.ensures)
    ∙ is_some-value_at (column c.args.self.now c.args.column).entries c.args.row

use Rattle.std.proofs.Common.{◌-◌, ap, ◌∙◌, arith}
use Rattle.lp_model.specs.Deck.{column}
use Rattle.mps_reader.proofs.Columns.{is_last}
use Rattle.mps_reader.proofs.draft.Draft.is_last_column.Goals as goal

pub returns : goal.returns
returns c =
    is_last c.args.self.now.deck c.args.name.now c.bytes.result.now
    (c.bytes.ensures ∙ c.column_name.ensures ∙ ap (λ n. (column c.args.self.now.deck (n - 1)).name) c.columns-columns.ensures.count)
    c.eq.result (cc) c.columns-columns.ensures.named (omega (arith, c.columns-columns.ensures.count))

-- A card of a column is judged at its column, and then by its pairs.
use Rattle.std.proofs.Common.{sym, subst}
use Rattle.mps_reader.specs.Inner.Standing.{Judged}
use Rattle.mps_reader.proofs.CardSteps.{column-next, column-refused}
use Rattle.mps_reader.proofs.PairSteps.{refused}
use Rattle.mps_reader.proofs.draft.Draft.take_column.Goals as goal

pub returns-in_err-at_column : goal.returns-in_err-at_column
returns-in_err-at_column c = λ s h.
    refused _ _ _ _ c.from_residual.ensures.1
    (column-refused s c.args.fields.now c.get.result.now c.get.ensures _ (c.in_err-at_column.ensures.judged s h))

pub take_pairs-requires-clause-stands : goal.take_pairs-requires-clause-stands
take_pairs-requires-clause-stands c =
    let column = c.in_ok-at_column.ensures.judged c.requires.stands.0 c.requires.stands.1 in
    (column.0, column.2)

pub returns : goal.returns
returns c = λ s h.
    let column = c.in_ok-at_column.ensures.judged s h in
    subst (λ r. Judged r c.take_pairs.new.self c.take_pairs.result)
    (sym (column-next s c.args.fields.now c.get.result.now c.get.ensures column.0 column.1))
    (c.take_pairs.ensures column.0 column.2)

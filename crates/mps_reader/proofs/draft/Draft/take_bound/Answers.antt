use Rattle.std.proofs.Common.{◌∙◌, sym}
use Rattle.std.proofs.lemmas.Result.{err_from_is_err_and}
use Rattle.mps_reader.specs.Inner.Refusals.{line_fault}
use Rattle.mps_model.specs.BoundCards.{with_bound}
use Rattle.mps_reader.proofs.BoundSet.{column_within}
use Rattle.mps_reader.proofs.BoundTaken.{refused_here, stands_with_bound, taken_here, unknown_here}
use Rattle.mps_reader.proofs.Columns.{find_column-same}
use Rattle.mps_reader.proofs.draft.Draft.take_bound.Goals as goal

pub returns-in_default : goal.returns-in_default
returns-in_default c = λ s h.
    unknown_here s c.args.fields.now c.get.result.now c.in_ok-name.name c.in_ok-kind.kind c.get.ensures c.in_ok-kind.ensures
    (c.in_ok-name.ensures ∙ c.get-2.ensures) (c.in_default.ensures ∙ sym (find_column-same c.args.self.now s h c.in_ok-name.name))

pub returns-in_err-value : goal.returns-in_err-value
returns-in_err-value c =
    let r = err_from_is_err_and c.from_residual-in_err-value.result c.from_residual-in_err-value.ensures.1 in λ s h.
    rw (r.1, r.2)
    (refused_here s c.args.fields.now c.get.result.now c.in_ok-name.name c.in_ok-kind.kind c.get.ensures c.in_ok-kind.ensures
    (c.in_ok-name.ensures ∙ c.get-2.ensures) c.in-Some.column (c.in-Some.ensures ∙ sym (find_column-same c.args.self.now s h c.in_ok-name.name))
    c.get-3.result.now c.get-3.ensures (line_fault c.in_err-value.field-0.0) c.in_err-value.ensures)

pub returns : goal.returns
returns c = λ s h. (
  with_bound s c.in_ok-kind.kind c.in-Some.column c.in_ok-value.value,
  taken_here s c.args.fields.now c.get.result.now c.in_ok-name.name c.in_ok-kind.kind c.get.ensures c.in_ok-kind.ensures
      (c.in_ok-name.ensures ∙ c.get-2.ensures) c.in-Some.column (c.in-Some.ensures ∙ sym (find_column-same c.args.self.now s h c.in_ok-name.name))
      c.get-3.result.now c.get-3.ensures c.in_ok-value.value c.in_ok-value.ensures,
  stands_with_bound c.args.self.now s h c.in_ok-kind.kind c.in_ok-value.value c.in-Some.column c.index.result.now c.after.result
      (column_within c.args.self.now.deck c.in_ok-name.name c.in-Some.column (sym c.in-Some.ensures)) c.index.ensures c.after.ensures.bounds c.after.ensures.lowered,
)

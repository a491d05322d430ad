use Rattle.std.proofs.Common.{◌≡◌, ◌<◌, List, length, sym, ap, ◌∙◌, subst}
use Rattle.rational.specs.Rational.{ℚ}
use Rattle.sparse_cols.specs.Sparse.{Sparse}
use Rattle.factor_model.specs.Upper.{Triangle, IsUpper, row_of}
use Rattle.factor_model.specs.Edits.{cleared_columns}
use Rattle.factor_model.proofs.EditLaws.{cleared-upper}
use Rattle.upper_form.proofs.Upper.clear_row.Goals as goal

pub invariant_of-self : goal.invariant_of-self
invariant_of-self c =
    let n = length c.self.inside.rows.items in
    let u : Triangle = record { columns = c.self.inside.columns.items; rows = c.self.inside.rows.items; order = c.self.inside.order } in
    let p = c.args.p in
    let row : c.row_of-row.result ≡ row_of u p = c.row_of-row.ensures.value ∙ ap (λ (t : Triangle). row_of t p) (sym c.self.view_is) in
    let within : p < n = subst (λ (t : Triangle). p < length t.rows) (sym c.self.view_is) c.requires in
    subst (λ (columns : List (Sparse ℚ)). IsUpper n (record { columns = columns; rows = u.rows; order = u.order }))
    (sym (c.clear_others.ensures ∙ ap (cleared_columns u.columns p) row)) (cleared-upper n u c.self.invariant p within)

use Rattle.std.proofs.Common.{◌≡◌, ◌≢◌, ◌<◌, List, ℕ, length, set, refl, sym, ap, subst, arith}
use Rattle.rational.specs.Rational.{zero_ℚ}
use Rattle.sparse_cols.specs.Sparse.{IsRising}
use Rattle.factor_model.specs.Vectors.{entry}
use Rattle.factor_model.specs.Upper.{Triangle, IsUpper, row_of}
use Rattle.factor_model.specs.Edits.{StandsAlone}
use Rattle.factor_model.proofs.UpperShape.{order_length}
use Rattle.factor_model.proofs.EditLaws.{replaced-upper}
use Rattle.upper_form.proofs.Upper.replace_col.Goals as goal

pub move_to_end-requires : goal.move_to_end-requires
move_to_end-requires c =
    omega (arith, order_length (length c.self.inside.rows.items) _ c.self.invariant, c.requires.position, ap (λ (t : Triangle). length t.rows) c.self.view_is)

pub invariant_of-self : goal.invariant_of-self
invariant_of-self c =
    let n = length c.self.inside.rows.items in
    let u : Triangle = record { columns = c.self.inside.columns.items; rows = c.self.inside.rows.items; order = c.self.inside.order } in
    let p = c.args.p in
    let column = c.args.column in
    let back = sym c.self.view_is in
    let at_inside : (n ≡ n) × StandsAlone u p × IsRising n 0 column.pairs × (entry column.pairs (row_of u p) ≢ zero_ℚ) × (p < n) =
    subst (λ (t : Triangle). (length t.rows ≡ length t.rows) × StandsAlone t p × IsRising (length t.rows) 0 column.pairs × (entry column.pairs (row_of t p) ≢ zero_ℚ) × (p < length t.rows)) back
    (refl, c.requires.alone, c.requires.rows, c.requires.nonzero, c.requires.position) in
    subst (λ (order : List ℕ). IsUpper n (record { columns = set u.columns p column; rows = u.rows; order = order })) (sym c.move_to_end.ensures.moved)
    (replaced-upper n u c.self.invariant p at_inside.4 column at_inside.1 at_inside.2 at_inside.3)

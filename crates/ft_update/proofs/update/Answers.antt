-- The parts are worked and made, and then put in place.
use Rattle.std.proofs.Common.{◌≡◌, ◌<◌, ◌+◌, ◌++◌, ℕ, List, [], ◌∷◌, length, set, Some, sym, subst, ap, ap₂, ◌∙◌, arith}
use Rattle.std.proofs.lemmas.List.{get_or-set_same}
use Rattle.rational.specs.Rational.{ℚ, zero_ℚ, ◌*ℚ◌}
use Rattle.rational.specs.Sum.{at}
use Rattle.sparse_cols.specs.Sparse.{Sparse}
use Rattle.factor_model.specs.declared.Op.{Op}
use Rattle.factor_model.specs.Eta.{stored}
use Rattle.factor_model.specs.Vectors.{entry}
use Rattle.factor_model.specs.Upper.{Triangle, row_of, diagonal}
use Rattle.factor_model.specs.Represents.{Represents}
use Rattle.factor_model.specs.Edits.{StandsAlone}
use Rattle.factor_model.specs.Update.{AreApart, RowEta, row_operation, updated_upper, updated_parts, with_column}
use Rattle.factor_model.proofs.EditLaws.{cleared-alone}
use Rattle.factor_model.proofs.SparseLaws.{sparse-entry}
use Rattle.ft_update.proofs.Updated.{refused_for, kept_by, parts_stop, parts_settle, operation_put, column_put, updated-diagonal, updated-pivot, updated-represents, updated-stored, updated-apart}
use Rattle.ft_update.proofs.update.Goals as goal

pub returns-in_err-pivot-clause-fault : goal.returns-in_err-pivot-clause-fault
returns-in_err-pivot-clause-fault g c =
    let w = g.A.Arith.width c.args.arith.now in
    refused_for w (updated_parts c.args.etas.now c.args.upper.now c.args.p c.args.spike.now) c.from_residual-in_err-pivot.result
    (parts_stop w c.args.etas.now c.args.upper.now c.args.p c.args.spike.now c.in_err-pivot.ensures.settled) c.from_residual-in_err-pivot.ensures.1

pub by_row-requires : goal.by_row-requires
by_row-requires g c =
    let u = c.args.upper.now in
    let w = g.A.Arith.width c.args.arith.now in
    let e : RowEta = record { taken = c.reduce.new.taken.items; pivot = c.in_ok-pivot.pivot } in
    subst (λ (n : ℕ). AreApart n c.deref.result.now) (sym c.len-3.ensures.value)
    (subst (AreApart (length u.rows)) (sym c.deref.ensures.value) (updated-apart w c.args.etas.now u c.args.p c.args.spike.now e c.in_ok-pivot.ensures.settled
    c.len.ensures.upper c.requires.position c.requires.length))

pub replace_col-requires-clause-alone : goal.replace_col-requires-clause-alone
replace_col-requires-clause-alone g c =
    let u = c.args.upper.now in
    subst (λ (t : Triangle). StandsAlone t c.args.p) (sym c.clear_row.ensures) (cleared-alone (length u.rows) u c.len.ensures.upper c.args.p)

pub replace_col-requires-clause-nonzero : goal.replace_col-requires-clause-nonzero
replace_col-requires-clause-nonzero g c =
    let u = c.args.upper.now in
    let w = g.A.Arith.width c.args.arith.now in
    let d = c.in_ok-pivot.pivot in
    let row = c.row_of-row.result in
    let spike = c.args.spike.now in
    let e : RowEta = record { taken = c.reduce.new.taken.items; pivot = d } in
    let same_row : row_of c.clear_row.new.self c.args.p ≡ row = ap (λ (t : Triangle). row_of t c.args.p) c.clear_row.ensures ∙ sym c.row_of-row.ensures.value in
    let item : entry c.in_ok-column.column.pairs row ≡ d =
    ap (λ (column : Sparse ℚ). entry column.pairs row) c.in_ok-column.ensures ∙ sparse-entry (set spike row d) row
    ∙ get_or-set_same spike row d zero_ℚ (omega (arith, c.row_of-row.ensures.within, c.requires.length)) in
    λ none. updated-pivot w c.args.etas.now u c.args.p spike e c.in_ok-pivot.ensures.settled c.len.ensures.upper c.requires.position c.requires.length c.requires.pivot
    (sym item ∙ sym (ap (entry c.in_ok-column.column.pairs) same_row) ∙ none)

pub returns-clause-settled : goal.returns-clause-settled
returns-clause-settled g c =
    let u = c.args.upper.now in
    let w = g.A.Arith.width c.args.arith.now in
    let p = c.args.p in
    let spike = c.args.spike.now in
    let e : RowEta = record { taken = c.reduce.new.taken.items; pivot = c.in_ok-pivot.pivot } in
    let etas : c.push.new.self ≡ c.args.etas.now ++ row_operation u p e ∷ [] =
    operation_put c.args.etas.now c.push.new.self u p e _ _ _ _ c.in_ok-operation.ensures c.len-3.ensures.value c.deref.ensures.value c.row_of-row.ensures.value
    (kept_by c.push.result c.if-is_err.ensures.value c.push.ensures.ok) in
    let form : c.replace_col.new.self ≡ updated_upper u p spike e =
    column_put u _ c.replace_col.new.self p spike e _ _ c.in_ok-column.ensures c.row_of-row.ensures.value c.clear_row.ensures c.replace_col.ensures in
    parts_settle w c.args.etas.now u p spike e c.in_ok-pivot.ensures.settled ∙ ap₂ (λ (xs : List Op) (t : Triangle). Some (xs, t)) (sym etas) (sym form)

pub returns-clause-represents : goal.returns-clause-represents
returns-clause-represents g c b a factors is_spike =
    let u = c.args.upper.now in
    let w = g.A.Arith.width c.args.arith.now in
    let p = c.args.p in
    let spike = c.args.spike.now in
    let e : RowEta = record { taken = c.reduce.new.taken.items; pivot = c.in_ok-pivot.pivot } in
    let etas : c.push.new.self ≡ c.args.etas.now ++ row_operation u p e ∷ [] =
    operation_put c.args.etas.now c.push.new.self u p e _ _ _ _ c.in_ok-operation.ensures c.len-3.ensures.value c.deref.ensures.value c.row_of-row.ensures.value
    (kept_by c.push.result c.if-is_err.ensures.value c.push.ensures.ok) in
    let form : c.replace_col.new.self ≡ updated_upper u p spike e =
    column_put u _ c.replace_col.new.self p spike e _ _ c.in_ok-column.ensures c.row_of-row.ensures.value c.clear_row.ensures c.replace_col.ensures in
    subst (λ (xs : List Op). Represents (length u.rows) xs c.replace_col.new.self (with_column b p a)) (sym etas)
    (subst (λ (t : Triangle). Represents (length u.rows) (c.args.etas.now ++ row_operation u p e ∷ []) t (with_column b p a)) (sym form)
    (updated-represents w c.args.etas.now u p spike e c.in_ok-pivot.ensures.settled c.len.ensures.upper c.requires.position c.requires.length c.requires.pivot b a factors is_spike))

pub returns-clause-diagonal : goal.returns-clause-diagonal
returns-clause-diagonal g c x solves =
    let u = c.args.upper.now in
    let w = g.A.Arith.width c.args.arith.now in
    let p = c.args.p in
    let spike = c.args.spike.now in
    let e : RowEta = record { taken = c.reduce.new.taken.items; pivot = c.in_ok-pivot.pivot } in
    let form : c.replace_col.new.self ≡ updated_upper u p spike e =
    column_put u _ c.replace_col.new.self p spike e _ _ c.in_ok-column.ensures c.row_of-row.ensures.value c.clear_row.ensures c.replace_col.ensures in
    subst (λ (t : Triangle). diagonal t p ≡ diagonal u p *ℚ at x p) (sym form)
    (updated-diagonal w c.args.etas.now u p spike e c.in_ok-pivot.ensures.settled c.len.ensures.upper c.requires.position c.requires.length x solves)

pub returns-clause-entries : goal.returns-clause-entries
returns-clause-entries g c =
    let u = c.args.upper.now in
    let w = g.A.Arith.width c.args.arith.now in
    let p = c.args.p in
    let spike = c.args.spike.now in
    let e : RowEta = record { taken = c.reduce.new.taken.items; pivot = c.in_ok-pivot.pivot } in
    let etas : c.push.new.self ≡ c.args.etas.now ++ row_operation u p e ∷ [] =
    operation_put c.args.etas.now c.push.new.self u p e _ _ _ _ c.in_ok-operation.ensures c.len-3.ensures.value c.deref.ensures.value c.row_of-row.ensures.value
    (kept_by c.push.result c.if-is_err.ensures.value c.push.ensures.ok) in
    subst (λ (xs : List Op). stored xs < stored c.args.etas.now + length u.rows) (sym etas)
    (updated-stored w c.args.etas.now u p spike e c.in_ok-pivot.ensures.settled c.len.ensures.upper c.requires.position c.requires.length)

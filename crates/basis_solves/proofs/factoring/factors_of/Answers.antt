use Rattle.std.proofs.Common.{◌≡◌, sym, ◌∙◌, ap, subst}
use Rattle.std.specs.List.{All}
use Rattle.sparse_cols.specs.Sparse.{Sparse}
use Rattle.rational.specs.Rational.{ℚ}
use Rattle.rational.specs.Worked.{settle}
use Rattle.factor_model.specs.Factoring.{IsDependence, factored, made_factors}
use Rattle.factor_model.specs.Factors.{AreFactors}
use Rattle.markowitz_lu.specs.Columns.{matrix_of}
use Rattle.markowitz_lu.specs.Fault.{IsCause, IsDependent}
use Rattle.basis_solves.proofs.Bases.{all_within, columns_count, columns_long, columns_no_zero, made_from, not_dependent, not_made}
use Rattle.basis_solves.proofs.factoring.factors_of.Goals as goal

pub basis_columns-requires : goal.basis_columns-requires
basis_columns-requires g c = all_within c.args.inst.now c.requires.0 c.args.basis.now c.requires.1

pub make-requires-clause-columns : goal.make-requires-clause-columns
make-requires-clause-columns g c _ _ =
    let are = c.deref.ensures.value ∙ c.in_ok-columns.ensures in
    columns_count c.args.inst.now c.args.basis.now c.deref.result.now are ∙ c.requires.1.positions ∙ sym c.rows.ensures.count

pub make-requires-clause-rows : goal.make-requires-clause-rows
make-requires-clause-rows g c _ _ =
    let are = c.deref.ensures.value ∙ c.in_ok-columns.ensures in
    subst (λ n. All (λ (column : Sparse ℚ). column.length ≡ n) c.deref.result.now) (sym c.rows.ensures.count) (columns_long c.args.inst.now c.args.basis.now c.deref.result.now are)

pub make-requires-clause-stored : goal.make-requires-clause-stored
make-requires-clause-stored g c _ _ =
    let are = c.deref.ensures.value ∙ c.in_ok-columns.ensures in
    columns_no_zero c.args.inst.now c.args.basis.now c.deref.result.now are c.rows.ensures.well_formed (all_within c.args.inst.now c.requires.0 c.args.basis.now c.requires.1)

pub returns-in-Ok-clause-made : goal.returns-in-Ok-clause-made
returns-in-Ok-clause-made g c s h =
    let inst = c.args.inst.now in
    let w = g.A.Arith.width c.args.arith.now in
    let columns = c.deref.result.now in
    let f = c.in-Ok.factors in
    made_from inst c.args.basis.now columns (c.deref.ensures.value ∙ c.in_ok-columns.ensures) s h w c.args.number f
    (ap (λ n. settle w (made_factors n (matrix_of columns) c.args.number)) (sym c.rows.ensures.count) ∙ c.in-Ok.ensures.settled)
    (subst (λ n. AreFactors n f (matrix_of columns)) c.rows.ensures.count c.in-Ok.ensures.represents)

pub returns-in-Err-Unfit-clause-refusal : goal.returns-in-Err-Unfit-clause-refusal
returns-in-Err-Unfit-clause-refusal g c s h =
    let inst = c.args.inst.now in
    let w = g.A.Arith.width c.args.arith.now in
    let columns = c.deref.result.now in
    not_made inst c.args.basis.now columns (c.deref.ensures.value ∙ c.in_ok-columns.ensures) s h w c.args.number
    (ap (λ n. settle w (factored n (matrix_of columns))) (sym c.rows.ensures.count)
    ∙ subst (IsCause w (factored c.rows.result (matrix_of columns))) c.in-Err-Unfit.field-0-is c.in-Err-Unfit.ensures.fault)

pub unreachable-requires : goal.unreachable-requires
unreachable-requires g c =
    let inst = c.args.inst.now in
    let columns = c.deref.result.now in
    let y = c.in-Err-Singular.field-0-0 in
    not_dependent inst c.args.basis.now columns (c.deref.ensures.value ∙ c.in_ok-columns.ensures) c.requires.0 c.requires.1 y.items
    (subst (λ n. IsDependence n (matrix_of columns) y.items) c.rows.ensures.count
    (subst (IsDependent c.rows.result (matrix_of columns)) c.in-Err-Singular.field-0-is c.in-Err-Singular.ensures.dependent))

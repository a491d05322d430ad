use Rattle.std.proofs.Common.{◌≡◌, ◌∙◌, None, Some, sym, ap, subst}
use Rattle.rational.specs.Rational.{ℚ}
use Rattle.rational.specs.Worked.{settle}
use Rattle.sparse_cols.specs.Sparse.{IsRising, Sparse}
use Rattle.lp_run.specs.Instance.{row_count}
use Rattle.lp_run.specs.Solution.{basis_entry}
use Rattle.factor_model.specs.Eta.{apply}
use Rattle.factor_model.specs.Factors.{AreFactors, ftran}
use Rattle.factor_run.specs.Built.{entering_column}
use Rattle.ftran_btran.specs.Kept.{size}
use Rattle.plain_table.proofs.Coming.{handed_on}
use Rattle.basis_solves.specs.Refusals.{Explains}
use Rattle.basis_solves.proofs.Solving.{column_there, vector_there}
use Rattle.basis_solves.proofs.solves.solve_column.Goals as goal

pub ftran-requires-clause-rows : goal.ftran-requires-clause-rows
ftran-requires-clause-rows g c _ _ =
    subst (λ n. IsRising n 0 c.as_ref.result.now.pairs) (sym c.requires.size)
    (subst (λ (column : Sparse ℚ). IsRising (row_count c.args.inst.now) 0 column.pairs) (sym c.as_ref.ensures) c.in_ok-column.ensures.rising)

pub returns-in_err-ftran-clause-refusal : goal.returns-in_err-ftran-clause-refusal
returns-in_err-ftran-clause-refusal g c =
    let a = c.args in
    let w = g.A.Arith.width a.arith.now in
    let there = vector_there a.inst.now a.q (size a.factors.now) c.as_ref.result.now c.requires.size (c.as_ref.ensures ∙ c.in_ok-column.ensures.column) in
    handed_on _ (Explains (settle w (ftran a.factors.now (entering_column a.inst.now a.q)) ≡ None)) c.from_residual-in_err-ftran.ensures.1
    (subst (λ v. settle w (ftran a.factors.now v) ≡ None) there c.in_err-ftran.ensures.settled)

pub returns-clause-column : goal.returns-clause-column
returns-clause-column g c s factors =
    let a = c.args in
    column_there a.inst.now a.q (size a.factors.now) c.as_ref.result.now c.requires.size (c.as_ref.ensures ∙ c.in_ok-column.ensures.column) s c.ftran.new.out (c.ftran.auto.out ∙ c.requires.alpha)
    (c.in_ok-ftran.ensures.solves (basis_entry a.inst.now s) (subst (λ n. AreFactors n a.factors.now (basis_entry a.inst.now s)) (sym c.requires.size) factors))

pub returns-clause-spike : goal.returns-clause-spike
returns-clause-spike g c =
    let a = c.args in
    let there = vector_there a.inst.now a.q (size a.factors.now) c.as_ref.result.now c.requires.size (c.as_ref.ensures ∙ c.in_ok-column.ensures.column) in
    c.in_ok-ftran.ensures.spike ∙ ap (λ v. (apply v a.factors.now.etas).answer) there

pub returns-clause-settled : goal.returns-clause-settled
returns-clause-settled g c =
    let a = c.args in
    let w = g.A.Arith.width a.arith.now in
    let there = vector_there a.inst.now a.q (size a.factors.now) c.as_ref.result.now c.requires.size (c.as_ref.ensures ∙ c.in_ok-column.ensures.column) in
    subst (λ v. settle w (ftran a.factors.now v) ≡ Some (c.ftran.new.spike, c.ftran.new.out)) there c.in_ok-ftran.ensures.settled

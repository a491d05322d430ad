use Rattle.std.proofs.Common.{◌≡◌, None, sym, ◌∙◌, ap, subst}
use Rattle.rational.specs.Rational.{one_ℚ, zero_ℚ}
use Rattle.rational.specs.Sparse.{at_index}
use Rattle.rational.specs.Sum.{at}
use Rattle.rational.specs.Worked.{settle}
use Rattle.rational.proofs.VectorLaws.{get-map-upto}
use Rattle.factor_model.specs.Factors.{AreFactors, IsRowSolution, btran}
use Rattle.factor_model.specs.Vectors.{unit_vector}
use Rattle.lp_run.specs.Instance.{row_count}
use Rattle.lp_run.specs.Solution.{basis_entry}
use Rattle.plain_table.proofs.Coming.{handed_on}
use Rattle.basis_solves.specs.Refusals.{Explains}
use Rattle.ranging.specs.Causes.{GivesUp, row}
use Rattle.ranging.proofs.row.solve_row.Goals as goal

pub returns-in_err-btran-clause-refusal : goal.returns-in_err-btran-clause-refusal
returns-in_err-btran-clause-refusal g c =
    let inst = c.args.inst.now in
    let w = g.A.Arith.width c.args.arith.now in
    let is = c.put_unit.ensures ∙ ap (λ n. unit_vector n c.args.p) c.requires.unit in
    handed_on c.from_residual.result (Explains (GivesUp w inst c.args.state.now)) c.from_residual.ensures.1
    (row c.args.factors.now c.args.p c.requires.made.made c.requires.position (subst (λ v. settle w (btran c.args.factors.now v) ≡ None) is c.in_err-btran.ensures.settled))

pub returns-clause-row : goal.returns-clause-row
returns-clause-row g c =
    let inst = c.args.inst.now in
    let m = row_count inst in
    let b = basis_entry inst c.args.state.now in
    let size = c.requires.made.factors.upper.row_count in
    let is = c.put_unit.ensures ∙ ap (λ n. unit_vector n c.args.p) c.requires.unit in
    let solved = c.in_ok-btran.ensures.solves b (subst (λ n. AreFactors n c.args.factors.now b) (sym size) c.requires.made.factors) in
    record {
      one_each = c.btran.auto.out ∙ c.requires.row;
      solves = λ k e. subst (λ n. IsRowSolution n b (at c.put_unit.new.out) c.btran.new.out) size solved k e ∙ ap (λ v. at v k) is ∙ get-map-upto (λ i. at_index i c.args.p one_ℚ) zero_ℚ m k e;
    }

use Rattle.std.proofs.Common.{◌≡◌, length, None, sym, subst, arith}
use Rattle.std.proofs.lemmas.Grind.{common_steps}
use Rattle.rational.specs.Worked.{settle}
use Rattle.plain_table.proofs.Coming.{handed_on}
use Rattle.basis_solves.specs.Refusals.{Explains}
use Rattle.factor_model.specs.Factors.{AreFactors, IsSolution, ftran}
use Rattle.factor_model.specs.Vectors.{entry, vector}
use Rattle.ftran_btran.specs.Kept.{size}
use Rattle.lp_run.specs.Instance.{row_count}
use Rattle.lp_run.specs.Solution.{Values, basis_entry}
use Rattle.ranging.specs.Causes.{GivesUp, values}
use Rattle.ranging.proofs.Rests.{left_rising, left_values, left_vector}
use Rattle.ranging.proofs.Rising.{whole_front}
use Rattle.ranging.proofs.basic_values.values_of.Goals as goal

pub ftran-requires-clause-rows : goal.ftran-requires-clause-rows
ftran-requires-clause-rows g c κs within =
    left_rising c.args.inst.now c.args.state.now c.in_ok-column.column c.in_ok-column.ensures.column _ c.requires.made.factors.upper.row_count

pub returns-in_err-ftran-clause-refusal : goal.returns-in_err-ftran-clause-refusal
returns-in_err-ftran-clause-refusal g c =
    let inst = c.args.inst.now in
    let s = c.args.state.now in
    let f = c.args.factors.now in
    let w = g.A.Arith.width c.args.arith.now in
    let vector_is = left_vector inst s c.in_ok-column.column c.in_ok-column.ensures.column _ c.requires.made.factors.upper.row_count in
    handed_on c.from_residual-in_err-ftran.result (Explains (GivesUp w inst s)) c.from_residual-in_err-ftran.ensures.1
    (values f c.requires.made.made (subst (λ a. settle w (ftran f a) ≡ None) vector_is
    (subst (λ v. settle v (ftran f (vector (size f) (entry c.in_ok-column.column.pairs))) ≡ None) c.column_left.ensures.width c.in_err-ftran.ensures.settled)))

pub returns-clause-values : goal.returns-clause-values
returns-clause-values g c =
    let inst = c.args.inst.now in
    let s = c.args.state.now in
    let f = c.args.factors.now in
    let m = row_count inst in
    let b = basis_entry inst s in
    let rows = c.requires.made.factors.upper.row_count in
    let column = c.in_ok-column.column in
    let out = c.ftran.new.out in
    let each : length out ≡ m = grind (arith, common_steps, c.ftran.auto.out, c.as_mut_slice-2.ensures, c.in_ok-values.ensures.len, c.rows-2.ensures.count) in
    let solved = c.in_ok-ftran.ensures.solves b (subst (λ n. AreFactors n f b) (sym rows) c.requires.made.factors) in
    let are = left_values inst s column c.in_ok-column.ensures.column c.requires.reached.0 out each (subst (λ n. IsSolution n b (entry column.pairs) out) rows solved) in
    let written = whole_front out c.in_ok-values.values.items c.in_ok-values.values.len (grind (arith, common_steps, c.as_mut_slice-2.ensures))
    (grind (arith, common_steps, c.ftran.auto.out, c.as_mut_slice-2.ensures)) in
    subst (Values inst s) (sym written) are

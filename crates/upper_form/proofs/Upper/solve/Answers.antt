use Rattle.std.proofs.Common.{length, subst}
use Rattle.factor_model.specs.Upper.{Triangle, IsUpper}
use Rattle.factor_model.proofs.UpperLaws.{solve_solves}
use Rattle.sparse_steps.proofs.Steps.{refused}
use Rattle.upper_form.proofs.Steps.{solved, not_solved}
use Rattle.upper_form.proofs.Upper.solve.Goals as goal

pub returns-clause-settled : goal.returns-clause-settled
returns-clause-settled g c = solved _ c.args.self.now c.args.v.now c.solve_in_rows.new.v c.copy_by_position.new.out c.in_ok-solve_in_rows.ensures.settled c.copy_by_position.ensures

pub returns-in_err-solve_in_rows-clause-settled : goal.returns-in_err-solve_in_rows-clause-settled
returns-in_err-solve_in_rows-clause-settled g c =
    refused _ _ _ (λ _. _) (not_solved _ c.args.self.now c.args.v.now c.in_err-solve_in_rows.ensures.settled) c.from_residual.ensures.1

pub returns-clause-solves : goal.returns-clause-solves
returns-clause-solves g c =
    let upper = subst (λ (t : Triangle). IsUpper (length t.rows) t) c.self.view_is c.self.invariant in
    solve_solves (g.A.Arith.width c.args.arith.now) c.args.self.now upper c.args.v.now c.copy_by_position.new.out c.requires.vector
    (solved _ c.args.self.now c.args.v.now c.solve_in_rows.new.v c.copy_by_position.new.out c.in_ok-solve_in_rows.ensures.settled c.copy_by_position.ensures)

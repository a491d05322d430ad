use Rattle.std.proofs.Common.{length, subst, ◌∙◌}
use Rattle.factor_model.specs.Upper.{Triangle, IsUpper}
use Rattle.sparse_steps.proofs.Steps.{refused}
use Rattle.upper_form.proofs.Steps.{solved, not_solved}
use Rattle.upper_form.proofs.Exchanging.{same_by_position}
use Rattle.upper_form.proofs.Upper.solve_keeping.Goals as goal

pub returns-clause-settled : goal.returns-clause-settled
returns-clause-settled g c = solved _ c.args.self.now c.args.v.now c.solve_in_rows.new.v c.exchange.new.positions c.in_ok-solve_in_rows.ensures.settled c.exchange.ensures.positions

pub returns-in_err-solve_in_rows-clause-settled : goal.returns-in_err-solve_in_rows-clause-settled
returns-in_err-solve_in_rows-clause-settled g c =
    refused _ _ _ (λ _. _) (not_solved _ c.args.self.now c.args.v.now c.in_err-solve_in_rows.ensures.settled) c.from_residual.ensures.1

pub returns-clause-kept : goal.returns-clause-kept
returns-clause-kept g c =
    let upper = subst (λ (t : Triangle). IsUpper (length t.rows) t) c.self.view_is c.self.invariant in
    same_by_position c.args.self.now upper c.exchange.new.rows c.args.v.now (c.exchange.auto.rows ∙ c.solve_in_rows.auto.v ∙ c.requires.vector) c.requires.vector
    (c.exchange.ensures.rows ∙ c.copy_by_position.ensures)

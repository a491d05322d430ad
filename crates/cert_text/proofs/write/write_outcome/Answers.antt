use Rattle.std.proofs.Common.{drop}
use Rattle.std.specs.Prelude.{codes}
use Rattle.lp_model.specs.Outcome.{optimal, infeasible, unbounded}
use Rattle.lp_text.specs.Report.{column_names, outcome_lines, row_names, value_lines}
use Rattle.cert_text.proofs.Written.{Writes-also, Writes-refused, Writes-then}
use Rattle.cert_text.proofs.write.write_outcome.Goals as goal

pub returns-in_err-write_line-in-Optimal : goal.returns-in_err-write_line-in-Optimal
returns-in_err-write_line-in-Optimal g c =
    let o = c.in-Optimal in
    rw o.is (Writes-refused (drop 1 (outcome_lines c.args.deck.now (optimal o.x o.y o.objective))) c.in_err-write_line-in-Optimal.ensures c.from_residual.ensures.1)

pub returns-in_err-write_line-in-Optimal-2 : goal.returns-in_err-write_line-in-Optimal-2
returns-in_err-write_line-in-Optimal-2 g c =
    let o = c.in-Optimal in
    rw o.is (Writes-refused (drop 2 (outcome_lines c.args.deck.now (optimal o.x o.y o.objective)))
    (Writes-then c.in_ok-write_line-in-Optimal.ensures c.in_err-write_line-in-Optimal-2.ensures) c.from_residual-in_err-write_line-in-Optimal-2.ensures.1)

pub returns-in_err-write_values-in-Optimal : goal.returns-in_err-write_values-in-Optimal
returns-in_err-write_values-in-Optimal g c =
    let o = c.in-Optimal in
    rw o.is (Writes-refused (value_lines (codes "PRICE") o.y (row_names c.args.deck.now))
    (Writes-then (Writes-also c.in_ok-write_line-in-Optimal.ensures c.in_ok-write_line-in-Optimal-2.ensures) c.in_err-write_values-in-Optimal.ensures)
    c.from_residual-in_err-write_values-in-Optimal.ensures.1)

pub returns-in_ok-write_values-in-Optimal : goal.returns-in_ok-write_values-in-Optimal
returns-in_ok-write_values-in-Optimal g c =
    rw c.in-Optimal.is (Writes-then
    (Writes-also (Writes-also c.in_ok-write_line-in-Optimal.ensures c.in_ok-write_line-in-Optimal-2.ensures) c.in_ok-write_values-in-Optimal.ensures)
    c.write_values-in-Optimal.ensures)

pub returns-in_err-write_line-in-Infeasible : goal.returns-in_err-write_line-in-Infeasible
returns-in_err-write_line-in-Infeasible g c =
    let o = c.in-Infeasible in
    rw o.is (Writes-refused (drop 1 (outcome_lines c.args.deck.now (infeasible o.y))) c.in_err-write_line-in-Infeasible.ensures
    c.from_residual-in_err-write_line-in-Infeasible.ensures.1)

pub returns-in_ok-write_line-in-Infeasible : goal.returns-in_ok-write_line-in-Infeasible
returns-in_ok-write_line-in-Infeasible g c =
    rw c.in-Infeasible.is (Writes-then c.in_ok-write_line-in-Infeasible.ensures c.write_values-in-Infeasible.ensures)

pub returns-in_err-write_line-in-Unbounded : goal.returns-in_err-write_line-in-Unbounded
returns-in_err-write_line-in-Unbounded g c =
    let o = c.in-Unbounded in
    rw o.is (Writes-refused (drop 1 (outcome_lines c.args.deck.now (unbounded o.x o.ray))) c.in_err-write_line-in-Unbounded.ensures
    c.from_residual-in_err-write_line-in-Unbounded.ensures.1)

pub returns-in_err-write_values-in-Unbounded : goal.returns-in_err-write_values-in-Unbounded
returns-in_err-write_values-in-Unbounded g c =
    let o = c.in-Unbounded in
    rw o.is (Writes-refused (value_lines (codes "RAY") o.ray (column_names c.args.deck.now))
    (Writes-then c.in_ok-write_line-in-Unbounded.ensures c.in_err-write_values-in-Unbounded.ensures) c.from_residual-in_err-write_values-in-Unbounded.ensures.1)

pub returns-in_ok-write_values-in-Unbounded : goal.returns-in_ok-write_values-in-Unbounded
returns-in_ok-write_values-in-Unbounded g c =
    rw c.in-Unbounded.is (Writes-then
    (Writes-also c.in_ok-write_line-in-Unbounded.ensures c.in_ok-write_values-in-Unbounded.ensures) c.write_values-in-Unbounded-2.ensures)

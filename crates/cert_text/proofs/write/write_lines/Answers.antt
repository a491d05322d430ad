use Rattle.std.proofs.Common.{[], ◌∷◌, ◌++◌}
use Rattle.std.specs.Prelude.{codes}
use Rattle.deck_model.specs.Outcome.{outcome_of}
use Rattle.lp_text.specs.Report.{basis_lines, log_lines, outcome_lines}
use Rattle.cert_text.proofs.Written.{Writes-also, Writes-longer, Writes-refused, Writes-then}
use Rattle.cert_text.proofs.write.write_lines.Goals as goal

pub returns-in_err-write_line : goal.returns-in_err-write_line
returns-in_err-write_line g c =
    let a = c.args in
    let first = rw c.version.ensures at c.in_err-write_line.ensures in
    Writes-refused ((codes "DECK " ++ a.deck.now.name) ∷ outcome_lines a.deck.now (outcome_of a.outcome.now) ++ basis_lines a.basis.now ++ log_lines a.log.now ++ codes "END" ∷ [])
    first c.from_residual.ensures.1

pub returns-in_err-write_line-2 : goal.returns-in_err-write_line-2
returns-in_err-write_line-2 g c =
    let a = c.args in
    let first = rw c.version.ensures at c.in_ok-write_line.ensures in
    let title = rw (c.bytes.ensures, c.name.ensures) at c.in_err-write_line-2.ensures in
    Writes-refused (outcome_lines a.deck.now (outcome_of a.outcome.now) ++ basis_lines a.basis.now ++ log_lines a.log.now ++ codes "END" ∷ [])
    (Writes-then first title) c.from_residual-in_err-write_line-2.ensures.1

pub returns-in_err-write_outcome : goal.returns-in_err-write_outcome
returns-in_err-write_outcome g c =
    let first = rw c.version.ensures at c.in_ok-write_line.ensures in
    let title = rw (c.bytes.ensures, c.name.ensures) at c.in_ok-write_line-2.ensures in
    Writes-refused (codes "END" ∷ [])
    (Writes-longer (log_lines c.args.log.now) (Writes-longer (basis_lines c.args.basis.now) (Writes-then (Writes-also first title) c.in_err-write_outcome.ensures)))
    c.from_residual-in_err-write_outcome.ensures.1

pub returns-in_err-write_basis : goal.returns-in_err-write_basis
returns-in_err-write_basis g c =
    let first = rw c.version.ensures at c.in_ok-write_line.ensures in
    let title = rw (c.bytes.ensures, c.name.ensures) at c.in_ok-write_line-2.ensures in
    Writes-refused (codes "END" ∷ [])
    (Writes-longer (log_lines c.args.log.now) (Writes-then (Writes-also (Writes-also first title) c.in_ok-write_outcome.ensures) c.in_err-write_basis.ensures))
    c.from_residual-in_err-write_basis.ensures.1

pub returns-in_err-write_log : goal.returns-in_err-write_log
returns-in_err-write_log g c =
    let first = rw c.version.ensures at c.in_ok-write_line.ensures in
    let title = rw (c.bytes.ensures, c.name.ensures) at c.in_ok-write_line-2.ensures in
    Writes-refused (codes "END" ∷ [])
    (Writes-then (Writes-also (Writes-also (Writes-also first title) c.in_ok-write_outcome.ensures) c.in_ok-write_basis.ensures) c.in_err-write_log.ensures)
    c.from_residual-in_err-write_log.ensures.1

pub returns : goal.returns
returns g c =
    let first = rw c.version.ensures at c.in_ok-write_line.ensures in
    let title = rw (c.bytes.ensures, c.name.ensures) at c.in_ok-write_line-2.ensures in
    Writes-then {r = c.write_line-3.result}
    (Writes-also (Writes-also (Writes-also (Writes-also first title) c.in_ok-write_outcome.ensures) c.in_ok-write_basis.ensures) c.in_ok-write_log.ensures)
    c.write_line-3.ensures

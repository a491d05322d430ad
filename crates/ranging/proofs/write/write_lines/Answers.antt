use Rattle.std.proofs.Common.{[], ◌∷◌, ◌++◌}
use Rattle.std.specs.Prelude.{codes}
use Rattle.lp_text.specs.Report.{column_names, row_names}
use Rattle.cert_text.proofs.Written.{Writes-also, Writes-longer, Writes-refused, Writes-then}
use Rattle.ranging.specs.Text.{ranged_lines}
use Rattle.ranging.proofs.write.write_lines.Goals as goal

pub returns-in_err-write_line : goal.returns-in_err-write_line
returns-in_err-write_line g c =
    let d = c.args.deck.now in
    let found = c.args.found.now in
    let costs = ranged_lines (codes "COST") found.costs (column_names d) in
    let rights = ranged_lines (codes "RIGHT") found.rights (row_names d) in
    Writes-refused ((codes "DECK " ++ d.name) ∷ codes "OPTIMAL" ∷ costs ++ rights ++ codes "END" ∷ []) c.in_err-write_line.ensures c.from_residual.ensures.1

pub returns-in_err-write_line-2 : goal.returns-in_err-write_line-2
returns-in_err-write_line-2 g c =
    let d = c.args.deck.now in
    let found = c.args.found.now in
    let title = rw (c.bytes.ensures, c.name.ensures) at c.in_err-write_line-2.ensures in
    Writes-refused (codes "OPTIMAL" ∷ ranged_lines (codes "COST") found.costs (column_names d) ++ ranged_lines (codes "RIGHT") found.rights (row_names d) ++ codes "END" ∷ [])
    (Writes-then c.in_ok-write_line.ensures title) c.from_residual-in_err-write_line-2.ensures.1

pub returns-in_err-write_line-3 : goal.returns-in_err-write_line-3
returns-in_err-write_line-3 g c =
    let d = c.args.deck.now in
    let found = c.args.found.now in
    let title = rw (c.bytes.ensures, c.name.ensures) at c.in_ok-write_line-2.ensures in
    Writes-refused (ranged_lines (codes "COST") found.costs (column_names d) ++ ranged_lines (codes "RIGHT") found.rights (row_names d) ++ codes "END" ∷ [])
    (Writes-then (Writes-also c.in_ok-write_line.ensures title) c.in_err-write_line-3.ensures) c.from_residual-in_err-write_line-3.ensures.1

pub returns-in_err-write_costs : goal.returns-in_err-write_costs
returns-in_err-write_costs g c =
    let d = c.args.deck.now in
    let found = c.args.found.now in
    let title = rw (c.bytes.ensures, c.name.ensures) at c.in_ok-write_line-2.ensures in
    let before = Writes-also (Writes-also c.in_ok-write_line.ensures title) c.in_ok-write_line-3.ensures in
    Writes-refused (codes "END" ∷ []) (Writes-longer (ranged_lines (codes "RIGHT") found.rights (row_names d)) (Writes-then before c.in_err-write_costs.ensures))
    c.from_residual-in_err-write_costs.ensures.1

pub returns-in_err-write_rights : goal.returns-in_err-write_rights
returns-in_err-write_rights g c =
    let title = rw (c.bytes.ensures, c.name.ensures) at c.in_ok-write_line-2.ensures in
    let before = Writes-also (Writes-also c.in_ok-write_line.ensures title) c.in_ok-write_line-3.ensures in
    Writes-refused (codes "END" ∷ []) (Writes-then (Writes-also before c.in_ok-write_costs.ensures) c.in_err-write_rights.ensures) c.from_residual-in_err-write_rights.ensures.1

pub returns : goal.returns
returns g c =
    let title = rw (c.bytes.ensures, c.name.ensures) at c.in_ok-write_line-2.ensures in
    let before = Writes-also (Writes-also c.in_ok-write_line.ensures title) c.in_ok-write_line-3.ensures in
    Writes-then {r = c.write_line-4.result} (Writes-also (Writes-also before c.in_ok-write_costs.ensures) c.in_ok-write_rights.ensures) c.write_line-4.ensures

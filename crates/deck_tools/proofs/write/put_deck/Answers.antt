use Rattle.std.proofs.Common.{[], ◌∷◌, ◌++◌}
use Rattle.std.specs.List.{flat_map}
use Rattle.std.specs.Prelude.{codes}
use Rattle.deck_tools.specs.Layout.{bound_lines, column_lines, constant_lines, range_lines, right_lines, section, word}
use Rattle.deck_tools.proofs.Pages.{Makes-also, Makes-longer, Makes-refused, Makes-then}
use Rattle.deck_tools.proofs.write.put_deck.Goals as goal

pub returns-in_err-put_rows : goal.returns-in_err-put_rows
returns-in_err-put_rows c =
    let d = c.args.deck.now in
    Makes-refused (word (codes "ENDATA") ∷ [])
    (Makes-longer (section (codes "BOUNDS") (flat_map bound_lines d.columns))
    (Makes-longer (section (codes "RANGES") (flat_map range_lines d.rows))
    (Makes-longer (section (codes "RHS") (constant_lines d ++ flat_map right_lines d.rows))
    (Makes-longer (word (codes "COLUMNS") ∷ flat_map (column_lines d) d.columns)
    (Makes-then c.in_ok-put_head.ensures c.in_err-put_rows.ensures))))) c.from_residual-in_err-put_rows.ensures.1

pub returns-in_err-put_columns : goal.returns-in_err-put_columns
returns-in_err-put_columns c =
    let d = c.args.deck.now in
    Makes-refused (word (codes "ENDATA") ∷ [])
    (Makes-longer (section (codes "BOUNDS") (flat_map bound_lines d.columns))
    (Makes-longer (section (codes "RANGES") (flat_map range_lines d.rows))
    (Makes-longer (section (codes "RHS") (constant_lines d ++ flat_map right_lines d.rows))
    (Makes-then (Makes-also c.in_ok-put_head.ensures c.in_ok-put_rows.ensures) c.in_err-put_columns.ensures)))) c.from_residual-in_err-put_columns.ensures.1

pub returns-in_err-put_rights : goal.returns-in_err-put_rights
returns-in_err-put_rights c =
    let d = c.args.deck.now in
    Makes-refused (word (codes "ENDATA") ∷ [])
    (Makes-longer (section (codes "BOUNDS") (flat_map bound_lines d.columns))
    (Makes-longer (section (codes "RANGES") (flat_map range_lines d.rows))
    (Makes-then (Makes-also (Makes-also c.in_ok-put_head.ensures c.in_ok-put_rows.ensures) c.in_ok-put_columns.ensures) c.in_err-put_rights.ensures)))
    c.from_residual-in_err-put_rights.ensures.1

pub returns-in_err-put_ranges : goal.returns-in_err-put_ranges
returns-in_err-put_ranges c =
    let d = c.args.deck.now in
    Makes-refused (word (codes "ENDATA") ∷ [])
    (Makes-longer (section (codes "BOUNDS") (flat_map bound_lines d.columns))
    (Makes-then (Makes-also (Makes-also (Makes-also c.in_ok-put_head.ensures c.in_ok-put_rows.ensures) c.in_ok-put_columns.ensures) c.in_ok-put_rights.ensures)
    c.in_err-put_ranges.ensures))
    c.from_residual-in_err-put_ranges.ensures.1

pub returns-in_err-put_bounds : goal.returns-in_err-put_bounds
returns-in_err-put_bounds c =
    Makes-refused (word (codes "ENDATA") ∷ [])
    (Makes-then
    (Makes-also (Makes-also (Makes-also (Makes-also c.in_ok-put_head.ensures c.in_ok-put_rows.ensures) c.in_ok-put_columns.ensures) c.in_ok-put_rights.ensures)
    c.in_ok-put_ranges.ensures) c.in_err-put_bounds.ensures)
    c.from_residual-in_err-put_bounds.ensures.1

pub returns : goal.returns
returns c =
    Makes-then {r = c.put_end.result}
    (Makes-also
    (Makes-also (Makes-also (Makes-also (Makes-also c.in_ok-put_head.ensures c.in_ok-put_rows.ensures) c.in_ok-put_columns.ensures) c.in_ok-put_rights.ensures)
    c.in_ok-put_ranges.ensures) c.in_ok-put_bounds.ensures)
    c.put_end.ensures

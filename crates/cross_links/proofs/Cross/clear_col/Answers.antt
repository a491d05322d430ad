-- Each turn takes the first entry of the line.
use Rattle.std.proofs.Common.{sym, ap, ◌∙◌}
use Rattle.cross_links.specs.Matrix.{Matrix, col, without_entries}
use Rattle.cross_links.proofs.Entries.{none_first, col_shorter, col_taken}
use Rattle.cross_links.proofs.Cross.clear_col.Goals as goal

pub entries-smaller : goal.entries-smaller
entries-smaller g c =
    col_shorter c.entries.self c.take_out.new.self c.args.c c.in-Some.link c.in-Some.ensures.matrix (sym c.in-Some.ensures.first) c.take_out.ensures.cancelled

pub entries-preserved : goal.entries-preserved
entries-preserved g c =
    let is = c.take_out.ensures.cancelled in
    let inv = c.entries.invariant in
    record {
      size = ap (λ (a : Matrix). a.size) is ∙ inv.size;
      active_rows = ap (λ (a : Matrix). a.active_rows) is ∙ inv.active_rows;
      active_cols = ap (λ (a : Matrix). a.active_cols) is ∙ inv.active_cols;
      same = col_taken c.entries.self c.take_out.new.self c.args.c c.in-Some.link c.in-Some.ensures.matrix (sym c.in-Some.ensures.first) is ∙ inv.same;
    }

pub returns-clause-cleared : goal.returns-clause-cleared
returns-clause-cleared g c =
    let empty = none_first (col c.entries.self c.args.c) (sym c.in_default.ensures.first) in
    sym (ap (λ ls. without_entries ls c.entries.self) empty) ∙ c.entries.invariant.same

pub returns-clause-empty : goal.returns-clause-empty
returns-clause-empty g c = none_first (col c.entries.self c.args.c) (sym c.in_default.ensures.first)

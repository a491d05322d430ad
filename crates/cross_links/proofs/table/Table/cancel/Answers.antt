-- The entry leaves its row and its column, and its link is free.
use Rattle.std.proofs.Common.{refl, arith}
use Rattle.cross_links.specs.Held.{matrix_of}
use Rattle.cross_links.proofs.Entries.{row_count_le, col_count_le}
use Rattle.cross_links.proofs.Tables.{IsHeld-taken, not_free}
use Rattle.cross_links.proofs.table.Table.cancel.Goals as goal

pub unlink-requires-clause-fits : goal.unlink-requires-clause-fits
unlink-requires-clause-fits g c =
    let h = c.requires.held in
    omega (arith, row_count_le (matrix_of c.args.self.now) h.matrix c.entry-r.result.0, h.matrix.rows.lines_len)

pub unlink-requires-2-clause-fits : goal.unlink-requires-2-clause-fits
unlink-requires-2-clause-fits g c =
    let h = c.requires.held in
    omega (arith, col_count_le (matrix_of c.args.self.now) h.matrix c.entry-r.result.1, h.matrix.cols.lines_len)

pub place-requires-clause-loose : goal.place-requires-clause-loose
place-requires-clause-loose g c =
    not_free c.args.self.now c.args.link c.requires.held c.entry-r.result c.entry-r.ensures

pub returns-clause-held : goal.returns-clause-held
returns-clause-held g c =
    IsHeld-taken c.args.self.now _ c.args.link c.entry-r.result c.requires.held c.entry-r.ensures refl refl c.place.ensures.placed c.place.ensures.chained
    c.unlink.ensures.lines c.unlink.ensures.active c.unlink.ensures.kept c.unlink-2.ensures.lines c.unlink-2.ensures.active c.unlink-2.ensures.kept

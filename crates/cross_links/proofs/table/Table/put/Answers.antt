-- The entry comes to the ends of its row and of its column.
use Rattle.std.proofs.Common.{refl, arith}
use Rattle.cross_links.specs.Matrix.{Entry}
use Rattle.cross_links.specs.Held.{matrix_of}
use Rattle.cross_links.proofs.Entries.{row_room, col_room}
use Rattle.cross_links.proofs.Tables.{IsHeld-put, loose_row, loose_col}
use Rattle.cross_links.proofs.table.Table.put.Goals as goal

pub link-requires-clause-loose : goal.link-requires-clause-loose
link-requires-clause-loose g c =
    loose_row c.args.self.now c.args.link c.requires.held (c.requires.held.free_only c.args.link 0 c.requires.free)

pub link-requires-clause-fits : goal.link-requires-clause-fits
link-requires-clause-fits g c =
    let h = c.requires.held in
    omega (arith, row_room (matrix_of c.args.self.now) h.matrix c.args.r c.args.c c.requires.col c.requires.absent, h.matrix.rows.lines_len)

pub link-requires-2-clause-loose : goal.link-requires-2-clause-loose
link-requires-2-clause-loose g c =
    loose_col c.args.self.now c.args.link c.requires.held (c.requires.held.free_only c.args.link 0 c.requires.free)

pub link-requires-2-clause-fits : goal.link-requires-2-clause-fits
link-requires-2-clause-fits g c =
    let h = c.requires.held in
    omega (arith, col_room (matrix_of c.args.self.now) h.matrix c.args.r c.args.c c.requires.row c.requires.absent, h.matrix.cols.lines_len)

pub returns-clause-held : goal.returns-clause-held
returns-clause-held g c =
    let t = c.args.self.now in
    let e : Entry = (c.args.r, c.args.c, c.args.v) in
    let rows = c.link.ensures in
    let cols = c.link-2.ensures in
    IsHeld-put t _ c.args.link e c.requires.held c.requires.free refl refl c.unlink.ensures.unlinked c.unlink.ensures.chained c.requires.row c.requires.col
    c.requires.active_row c.requires.active_col c.requires.absent rows.lines rows.active rows.kept cols.lines cols.active cols.kept

-- The first of the column is its one entry.
use Rattle.std.proofs.Common.{sym}
use Rattle.cross_links.specs.Matrix.{col}
use Rattle.cross_links.specs.Held.{matrix_of}
use Rattle.cross_links.proofs.Entries.{first_link}
use Rattle.cross_links.proofs.table.Table.lone_row.Goals as goal

pub entry-requires : goal.entry-requires
entry-requires c =
    let link = c.in_ok-link.link in
    (c.requires.held.matrix.cols.only c.args.c link (first_link (col (matrix_of c.args.self.now) c.args.c) link (sym c.in_ok-link.ensures.first))).0

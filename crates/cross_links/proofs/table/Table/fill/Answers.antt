-- The entry stands at a link that was free.
use Rattle.cross_links.specs.Held.{matrix_of}
use Rattle.cross_links.proofs.Entries.{IsFilled-from}
use Rattle.cross_links.proofs.Tables.{free_below}
use Rattle.cross_links.proofs.table.Table.fill.Goals as goal

pub returns-clause-ok : goal.returns-clause-ok
returns-clause-ok g c =
    let t = c.free_link.new.self in
    let got = c.in_ok-link.ensures in
    IsFilled-from (matrix_of c.args.self.now) (matrix_of t) (matrix_of c.put.new.self) c.in_ok-link.link (c.args.r, c.args.c, c.args.v) got.ok
    (got.held.free_only c.in_ok-link.link 0 got.free) (free_below t c.in_ok-link.link 0 got.held got.free) c.put.ensures.put

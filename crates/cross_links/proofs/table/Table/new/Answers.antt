-- No link is made yet.
use Rattle.std.proofs.Common.{refl}
use Rattle.cross_links.proofs.Tables.{IsHeld-new}
use Rattle.cross_links.proofs.table.Table.new.Goals as goal

pub returns-clause-held : goal.returns-clause-held
returns-clause-held g c =
    let rows = c.in_ok-new-2.ensures in
    let cols = c.in_ok-new-3.ensures in
    IsHeld-new _ c.args.size c.requires.small refl c.new.ensures.items c.in_ok-new.ensures rows.lines rows.active rows.kept cols.lines cols.active cols.kept

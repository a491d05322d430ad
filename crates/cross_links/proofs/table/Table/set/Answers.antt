-- The entry stays in its row and in its column.
use Rattle.std.proofs.Common.{refl}
use Rattle.cross_links.proofs.Tables.{IsHeld-set}
use Rattle.cross_links.proofs.table.Table.set.Goals as goal

pub returns-clause-held : goal.returns-clause-held
returns-clause-held c =
    IsHeld-set c.args.self.now _ c.args.link c.entry-r.result c.args.v c.requires.held c.entry-r.ensures refl refl refl refl refl

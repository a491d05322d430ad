-- The line has no entry.
use Rattle.std.proofs.Common.{refl}
use Rattle.cross_links.proofs.Tables.{IsHeld-retired_row}
use Rattle.cross_links.proofs.table.Table.retire_row.Goals as goal

pub returns-clause-held : goal.returns-clause-held
returns-clause-held g c =
    IsHeld-retired_row c.args.self.now _ c.args.r c.requires.held c.requires.row c.requires.empty refl refl refl c.retire.ensures.lines c.retire.ensures.active c.retire.ensures.kept refl

-- The ledger of the call is the one of the blank that it is given.
use Rattle.cross_links.proofs.Cross.remove_row.Given as goal

abbrev pub ghosts-remove_row_counted : goal.ghosts-remove_row_counted
ghosts-remove_row_counted a = record { name = a.blank.name; parts = a.blank.parts }

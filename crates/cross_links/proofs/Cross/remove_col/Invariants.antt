-- The ledger of the call is the one of the blank that it is given.
use Rattle.cross_links.proofs.Cross.remove_col.Given as goal

abbrev pub ghosts-remove_col_counted : goal.ghosts-remove_col_counted
ghosts-remove_col_counted a = record { name = a.blank.name; parts = a.blank.parts }

-- The ledger of the call is the one of the blank that it is given.
use Rattle.cross_links.proofs.Cross.fill.Given as goal

abbrev pub ghosts-fill_counted : goal.ghosts-fill_counted
ghosts-fill_counted a = record { name = a.blank.name; parts = a.blank.parts }

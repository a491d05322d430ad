-- The ledger of the call is the one of the blank that it is given.
use Rattle.cross_links.proofs.Cross.cancel.Given as goal

abbrev pub ghosts-cancel_counted : goal.ghosts-cancel_counted
ghosts-cancel_counted a = record { name = a.blank.name; parts = a.blank.parts }

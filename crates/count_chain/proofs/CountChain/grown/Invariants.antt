-- The ledger of the call is the one of the blank that it is given.
use Rattle.count_chain.proofs.CountChain.grown.Given as goal

abbrev pub ghosts-grown_counted : goal.ghosts-grown_counted
ghosts-grown_counted a = record { name = a.blank.name; parts = a.blank.parts }

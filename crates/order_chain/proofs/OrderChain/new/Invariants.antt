-- The ledger of the call is the one of the blank that it is given.
use Rattle.order_chain.proofs.OrderChain.new.Given as goal

abbrev pub ghosts-new_counted : goal.ghosts-new_counted
ghosts-new_counted a = record { name = a.blank.name; parts = a.blank.parts }

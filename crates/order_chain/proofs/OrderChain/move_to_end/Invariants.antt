-- The ledger of the call is the one of the blank that it is given.
use Rattle.order_chain.proofs.OrderChain.move_to_end.Given as goal

abbrev pub ghosts-move_to_end_counted : goal.ghosts-move_to_end_counted
ghosts-move_to_end_counted a = record { name = a.blank.name; parts = a.blank.parts }

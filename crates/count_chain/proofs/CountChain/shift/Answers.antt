-- What was taken out is in no list.
use Rattle.count_chain.proofs.ChainsOf.{placed_below, IsPlaced-without_item}
use Rattle.count_chain.proofs.CountChain.shift.Goals as goal

pub place-requires-clause-item : goal.place-requires-clause-item
place-requires-clause-item g c =
    rw c.unlink.ensures.unlinked (placed_below c.args.self.now c.args.i c.unlink.ensures.was_chained c.requires.placed)

pub place-requires-clause-loose : goal.place-requires-clause-loose
place-requires-clause-loose g c =
    rw c.unlink.ensures.unlinked (IsPlaced-without_item c.args.self.now c.args.i)

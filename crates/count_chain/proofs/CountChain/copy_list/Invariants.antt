-- What is left of the list is followed.
use Rattle.std.proofs.Common.{length}
use Rattle.count_chain.specs.Chains.{list_at}
use Rattle.chain_links.specs.Lists.{rest}
use Rattle.count_chain.proofs.Copies.{IsCopied}
use Rattle.count_chain.proofs.CountChain.copy_list.Given as goal

abbrev pub invariant-items : goal.invariant-items
invariant-items g l = IsCopied l.fn.chain l.chain l.count (list_at l.self l.count) l.next

abbrev pub decreases-items : goal.decreases-items
decreases-items g l = length (rest l.next (list_at l.self l.count))

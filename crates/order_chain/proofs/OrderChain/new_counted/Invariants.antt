-- The positions so far are in order.
use Rattle.std.proofs.Common.{◌≡◌, ◌+◌}
use Rattle.std.specs.List.{range_with_len}
use Rattle.chain_links.specs.Links.{IsClosed}
use Rattle.order_chain.specs.Order.{order_of}
use Rattle.order_chain.proofs.OrderChain.new_counted.Given as goal

abbrev pub invariant-loop-p : goal.invariant-loop-p
invariant-loop-p g l = record {
  closed : IsClosed l.links l.m (l.m + 1);
  order : order_of l.links l.m ≡ range_with_len 0 l.p;
}

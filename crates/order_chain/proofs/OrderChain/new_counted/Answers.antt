-- Each position comes to the end of an order that begins empty.
use Rattle.std.proofs.Common.{◌≡◌, ◌+◌, ◌∙◌, ap, length, rules, arith}
use Rattle.std.proofs.lemmas.List.FromFn.{length-range_with_len}
use Rattle.chain_links.proofs.Rings.{IsClosed-loops}
use Rattle.order_chain.proofs.OrderOf.{IsClosed-appended}
use Rattle.order_chain.proofs.OrderChain.new_counted.Goals as goal

pub loop-p-init : goal.loop-p-init
loop-p-init g c =
    let nodes : c.in_ok-nodes.nodes ≡ c.args.m + 1 = search rules in
    let (closed, empty) = IsClosed-loops c.args.m (c.args.m + 1) in
    rw (c.in_ok-links.ensures, nodes) record { closed = closed; order = empty c.args.m (omega arith) (omega arith) }

pub loop-p-preserved : goal.loop-p-preserved
loop-p-preserved g c =
    let (closed, order) = IsClosed-appended c.loop-p.links c.args.m c.loop-p.p c.loop-p.invariant.closed c.loop-p.invariant.order c.loop-p-test.true in
    rw c.append.ensures record { closed = closed; order = order }

pub returns-clause-len : goal.returns-clause-len
returns-clause-len g c =
    ap length c.loop-p.invariant.order ∙ length-range_with_len 0 c.loop-p.p ∙ (let at_end : c.loop-p.p ≡ c.args.m = omega arith in at_end)

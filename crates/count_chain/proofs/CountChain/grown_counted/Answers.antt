-- Each list is copied into an empty one.
use Rattle.std.proofs.Common.{◌≡◌, length, subst, arith}
use Rattle.count_chain.specs.Chains.{IsChained}
use Rattle.count_chain.proofs.ChainsOf.{sizes, IsChained-chains}
use Rattle.count_chain.proofs.Copies.{AreCopied-none, AreCopied-more, copied_apart, copied_all, IsChained-grown}
use Rattle.count_chain.proofs.CountChain.grown_counted.Goals as goal
use Rattle.count_chain.proofs.CountChain.grown_counted.Goals.{In_ok-chain, After-drop-steps-inside-3}

counts : (g : _) (c : In_ok-chain g) → length c.args.self.now.lists ≡ c.self.inside.counts
counts g c = (sizes c.self.inside.links c.self.inside.items c.self.inside.counts _ c.self.view_is).1

pub loop-count-init : goal.loop-count-init
loop-count-init g c =
    AreCopied-none c.args.self.now c.in_ok-chain.chain c.args.items c.self.inside.counts (counts g c) c.in_ok-chain.ensures

pub copy_list-requires-clause-count : goal.copy_list-requires-clause-count
copy_list-requires-clause-count g c = omega (arith, sizes c.self.inside.links c.self.inside.items c.self.inside.counts _ c.self.view_is)

pub copy_list-requires-clause-there : goal.copy_list-requires-clause-there
copy_list-requires-clause-there g c =
    omega (arith, sizes c.self.inside.links c.self.inside.items c.self.inside.counts _ c.self.view_is, c.loop-count.invariant.len)

pub copy_list-requires-clause-loose : goal.copy_list-requires-clause-loose
copy_list-requires-clause-loose g c = λ i held.
    let whole = subst IsChained c.self.view_is (IsChained-chains c.self.inside.links c.self.inside.items c.self.inside.counts c.self.invariant.closed) in
    copied_apart c.args.self.now c.loop-count.chain c.args.items c.loop-count.count i c.loop-count.invariant whole held

pub loop-count-preserved : goal.loop-count-preserved
loop-count-preserved g c =
    AreCopied-more c.args.self.now c.loop-count.chain c.copy_list.new.chain c.args.items c.loop-count.count
    (omega (arith, sizes c.self.inside.links c.self.inside.items c.self.inside.counts _ c.self.view_is)) c.loop-count.invariant c.copy_list.ensures

grown : (g : _) (c : After-drop-steps-inside-3 g) → c.loop-count.chain ≡ record { items = c.args.items; lists = c.args.self.now.lists }
grown g c =
    let len = (sizes c.self.inside.links c.self.inside.items c.self.inside.counts _ c.self.view_is).1 in
    copied_all c.args.self.now c.loop-count.chain c.args.items c.loop-count.count (omega (arith, len)) c.loop-count.invariant

pub returns-clause-grown : goal.returns-clause-grown
returns-clause-grown g c = grown g c

pub returns-clause-chained : goal.returns-clause-chained
returns-clause-chained g c =
    let whole = subst IsChained c.self.view_is (IsChained-chains c.self.inside.links c.self.inside.items c.self.inside.counts c.self.invariant.closed) in
    IsChained-grown c.args.self.now c.loop-count.chain c.args.items c.requires.items whole (grown g c)

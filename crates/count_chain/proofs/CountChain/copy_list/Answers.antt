-- Each item goes behind those that were copied before it.
use Rattle.std.proofs.Common.{length, Option, ℕ, ap, sym, subst, arith}
use Rattle.count_chain.specs.Chains.{list_at}
use Rattle.chain_links.specs.Lists.{rest}
use Rattle.chain_links.proofs.Rest.{rest-shorter, IfSome-after}
use Rattle.std.specs.Option.{IfSome}
use Rattle.std.specs.List.{Contains}
use Rattle.count_chain.proofs.Copies.{IsCopied, IsCopied-none, IsCopied-more, copied_loose, copied_whole}
use Rattle.count_chain.proofs.CountChain.copy_list.Goals as goal

pub items-init : goal.items-init
items-init g c =
    IsCopied-none c.args.chain.now c.args.count (list_at c.args.self.now c.args.count) c.first-next.result c.requires.empty c.first-next.ensures.first

pub place-requires-clause-loose : goal.place-requires-clause-loose
place-requires-clause-loose g c =
    let xs = list_at c.args.self.now c.args.count in
    let h = subst (IsCopied c.args.chain.now c.items.chain c.args.count xs) c.in-Some.is c.items.invariant in
    copied_loose c.args.chain.now c.items.chain c.args.count xs c.in-Some.i c.requires.there (c.first-next.ensures.chained.once c.args.count) h (c.requires.loose c.in-Some.i h.next_in)

pub items-smaller : goal.items-smaller
items-smaller g c =
    let xs = list_at c.args.self.now c.args.count in
    let h = subst (IsCopied c.args.chain.now c.items.chain c.args.count xs) c.in-Some.is c.items.invariant in
    let next_is = c.next-next.ensures.next c.args.count h.next_in in
    omega (
      arith,
      rest-shorter c.in-Some.i xs (c.first-next.ensures.chained.once c.args.count) h.next_in,
      ap (λ (o : Option ℕ). length (rest o xs)) next_is,
      ap (λ (o : Option ℕ). length (rest o xs)) c.in-Some.is,
    )

pub items-preserved : goal.items-preserved
items-preserved g c =
    let xs = list_at c.args.self.now c.args.count in
    let h = subst (IsCopied c.args.chain.now c.items.chain c.args.count xs) c.in-Some.is c.items.invariant in
    let next_is = c.next-next.ensures.next c.args.count h.next_in in
    IsCopied-more c.args.chain.now c.items.chain c.args.count xs c.in-Some.i c.requires.there
    (c.first-next.ensures.chained.once c.args.count) h c.place.new.self c.next-next.result c.place.ensures.placed next_is
    (subst (λ (o : Option ℕ). IfSome o (λ x. Contains xs x)) (sym next_is) (IfSome-after c.in-Some.i xs))

pub returns : goal.returns
returns g c =
    let xs = list_at c.args.self.now c.args.count in
    copied_whole c.args.chain.now c.items.chain c.args.count xs (subst (IsCopied c.args.chain.now c.items.chain c.args.count xs) c.in_default.is c.items.invariant)

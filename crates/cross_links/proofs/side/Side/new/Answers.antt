-- Each line is put into the bucket of 0.
use Rattle.std.proofs.Common.{◌≡◌, ℕ, Bool, true, ◌∙◌, subst, replicate, arith, rules}
use Rattle.std.proofs.lemmas.List.{replicate_more}
use Rattle.cross_links.proofs.Buckets.{HasFirst, HasFirst-none, HasFirst-more, not_placed, IsKept-new}
use Rattle.cross_links.proofs.side.Side.new.Goals as goal

pub loop-i-init : goal.loop-i-init
loop-i-init g c = record {
  counts = c.new-counts.ensures.items;
  active = c.new-active.ensures.items;
  filled = HasFirst-none c.args.size c.in_ok-counts_below.counts_below c.in_ok-buckets.buckets (search rules) c.in_ok-buckets.ensures;
}

pub place-requires-clause-item : goal.place-requires-clause-item
place-requires-clause-item g c = omega (arith, c.loop-i.invariant.filled.items)

pub place-requires-clause-count : goal.place-requires-clause-count
place-requires-clause-count g c = omega (arith, c.loop-i.invariant.filled.lists)

pub place-requires-clause-loose : goal.place-requires-clause-loose
place-requires-clause-loose g c = not_placed c.args.size c.loop-i.i c.loop-i.buckets c.loop-i.invariant.filled

pub loop-i-preserved : goal.loop-i-preserved
loop-i-preserved g c =
    record {
      counts = c.in_ok-push.ensures.items ∙ rw c.loop-i.invariant.counts (replicate_more {X = ℕ} c.loop-i.i 0);
      active = c.in_ok-push-2.ensures.items ∙ rw c.loop-i.invariant.active (replicate_more {X = Bool} c.loop-i.i true);
      filled = HasFirst-more c.args.size c.loop-i.i c.loop-i.buckets c.place.new.self c.loop-i.invariant.filled c.place.ensures.placed c.place.ensures.chained;
    }

pub returns-clause-kept : goal.returns-clause-kept
returns-clause-kept g c =
    let n = c.args.size in
    let all : c.loop-i.i ≡ n = omega arith in
    IsKept-new n c.args.links _ c.in_ok-lines.ensures (subst (λ (i : ℕ). c.loop-i.counts.items ≡ replicate i 0) all c.loop-i.invariant.counts)
    (subst (λ (i : ℕ). c.loop-i.active.items ≡ replicate i true) all c.loop-i.invariant.active)
    (subst (λ (i : ℕ). HasFirst n i c.loop-i.buckets) all c.loop-i.invariant.filled)

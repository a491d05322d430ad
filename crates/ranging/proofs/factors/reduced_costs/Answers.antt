use Rattle.std.proofs.Common.{◌≡◌, ◌<◌, ℕ, length, set, true, ◌∙◌, get_or-set_other, get_or-set_same, length-set, arith}
use Rattle.rational.specs.Rational.{zero_ℚ}
use Rattle.rational.specs.Sum.{at}
use Rattle.lp_run.specs.Solution.{reduced}
use Rattle.ranging.specs.Listing.{is_looked_at}
use Rattle.ranging.proofs.factors.reduced_costs.Goals as goal
use borrow.Author.Count.{below_more}

pub loop-k-preserved : goal.loop-k-preserved
loop-k-preserved g c =
    let inst = c.args.inst.now in
    let s = c.args.state.now in
    let k = c.loop-k.k in
    let items = c.loop-k.costs.items in
    let v = c.in_ok-costs-2.field-0 in
    let known = c.loop-k.invariant in
    let within : k < length items = omega (arith, known.each, c.columns-k-end.ensures.count) in
    record {
      width = c.reduced_cost.ensures.width ∙ known.width;
      unfit = omega (arith, known.unfit, c.reduced_cost.ensures.unfit);
      each = length-set items k v ∙ known.each;
      looked = below_more (λ j. is_looked_at inst s j ≡ true → at (set items k v) j ≡ reduced inst s c.args.prices.now j) k
          (λ j b l. get_or-set_other items k j v zero_ℚ (before j k b) ∙ known.looked j b l)
          (λ l. get_or-set_same items k v zero_ℚ within ∙ c.in_ok-costs-2.ensures.cost l);
    }
  where
    before : (j k : ℕ) → j < k → j ≡ k → ⊥
    before j k b e = omega (arith, b, e)

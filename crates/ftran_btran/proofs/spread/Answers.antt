use Rattle.std.proofs.Common.{◌<◌, List, length, sym, ap, ◌∙◌, arith, rules}
use Rattle.std.proofs.lemmas.List.{length-set, length-replicate}
use Rattle.rational.specs.Rational.{ℚ, zero_ℚ}
use Rattle.ftran_btran.specs.Spread.{spread}
use Rattle.ftran_btran.proofs.Spreading.{spread-zeros, spread-parts, spread-ends, pair_below}
use Rattle.ftran_btran.proofs.spread.Goals as goal

pub loop-k-init : goal.loop-k-init
loop-k-init c =
    record {
      len = ap length c.clear.ensures ∙ length-replicate (length c.args.v.now) zero_ℚ;
      left = ap (λ (v : List ℚ). spread v c.args.column.now.pairs) c.clear.ensures ∙ spread-zeros (length c.args.v.now) c.args.column.now.pairs c.requires;
    }

pub loop-k-preserved : goal.loop-k-preserved
loop-k-preserved c =
    let pairs = c.args.column.now.pairs in
    let pair = c.pair-i.result in
    record {
      len = length-set c.loop-k.v pair.0 pair.1 ∙ c.loop-k.invariant.len;
      left = spread-parts pairs c.loop-k.k pair c.loop-k.v (omega arith) c.pair-i.ensures.value ∙ c.loop-k.invariant.left;
    }

pub returns : goal.returns
returns c = sym (spread-ends c.args.column.now.pairs c.loop-k.k c.loop-k.v (omega arith)) ∙ c.loop-k.invariant.left

pub bounds-v-i : goal.bounds-v-i
bounds-v-i c =
    omega (arith, pair_below (length c.args.v.now) c.args.column.now.pairs c.loop-k.k c.pair-i.result c.requires (omega arith) c.pair-i.ensures.value, c.loop-k.invariant.len)

pub offset_bounds-v-i : goal.offset_bounds-v-i
offset_bounds-v-i c =
    let within : c.pair-i.result.0 < length c.loop-k.v =
    omega (arith, pair_below (length c.args.v.now) c.args.column.now.pairs c.loop-k.k c.pair-i.result c.requires (omega arith) c.pair-i.ensures.value, c.loop-k.invariant.len) in
    search rules
